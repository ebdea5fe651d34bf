use Rattle.std.proofs.Common.{rules}
use Rattle.format.specs.Decode.{label_of}
use Rattle.pages.proofs.row.Row.label.Goals as goal

pub returns : goal.returns
unfolding label_of
returns c = search rules
