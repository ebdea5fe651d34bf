use Rattle.std.proofs.Common.{◌<◌, ◌^◌}
use Rattle.index_layout.specs.Views.{bucket_of}
use Rattle.index_layout.proofs.Firsts.{BestBut}
use Rattle.index.specs.Slots.{views}
use Rattle.index.proofs.index.Index.first_with.Given as goal

abbrev pub invariant-loop-left : goal.invariant-loop-left
invariant-loop-left l = (l.left < 2 ^ 16) × BestBut (views l.self) l.key.code (bucket_of l.key.hash) l.from l.left l.best

abbrev pub decreases-loop-left : goal.decreases-loop-left
decreases-loop-left l = l.left
