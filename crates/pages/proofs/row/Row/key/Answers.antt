use Rattle.std.proofs.Common.{rules}
use Rattle.format.specs.Decode.{key_of}
use Rattle.pages.proofs.row.Row.key.Goals as goal

pub returns-clause-key : goal.returns-clause-key
unfolding key_of
returns-clause-key c = search rules
