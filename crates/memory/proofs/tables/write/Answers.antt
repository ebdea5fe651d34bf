use Rattle.std.proofs.Common.{rules}
use Rattle.journal.specs.Bytes.{put}
use Rattle.std.proofs.lemmas.Slice.{overwrites}
use Rattle.memory.proofs.tables.write.Goals as goal

pub returns : goal.returns
unfolding put
returns c = search (rules, overwrites)
