use Rattle.std.proofs.Common.{rules}
use Rattle.format.specs.Decode.{offset_of}
use Rattle.pages.proofs.row.Row.offset.Goals as goal

pub returns : goal.returns
unfolding offset_of
returns c = search rules
