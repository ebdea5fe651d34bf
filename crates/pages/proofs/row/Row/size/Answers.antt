use Rattle.std.proofs.Common.{rules}
use Rattle.format.specs.Decode.{size_of}
use Rattle.pages.proofs.row.Row.size.Goals as goal

pub returns-clause-size : goal.returns-clause-size
unfolding size_of
returns-clause-size c = search rules
