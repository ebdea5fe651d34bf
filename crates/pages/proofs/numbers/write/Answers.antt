use Rattle.std.proofs.Common.{rules}
use Rattle.std.proofs.lemmas.Slice.{overwrites}
use Rattle.journal.specs.Bytes.{put}
use Rattle.pages.proofs.numbers.write.Goals as goal

pub returns : goal.returns
unfolding put
returns c = search (rules, overwrites)
