use Rattle.std.proofs.Common.{◌≡◌, ◌++◌, map, take, drop}
use Rattle.memory_layout.specs.View.{pruned_head}
use Rattle.memory.proofs.tables.prune_heads.Given as goal

abbrev pub invariant-loop-head : goal.invariant-loop-head
invariant-loop-head l = l.heads ≡ map (pruned_head l.min) (take l.head-index l.initial.heads) ++ drop l.head-index l.initial.heads
