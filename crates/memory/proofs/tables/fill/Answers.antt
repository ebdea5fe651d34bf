use Rattle.std.proofs.Common.{rules}
use Rattle.journal.specs.Bytes.{chunk}
use Rattle.std.proofs.lemmas.Slice.{overwrites}
use Rattle.memory.proofs.tables.fill.Goals as goal

pub returns : goal.returns
unfolding chunk
returns c = search (rules, overwrites)
