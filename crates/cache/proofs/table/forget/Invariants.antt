use Rattle.std.proofs.Common.{◌≡◌, ◌++◌, map, take, drop}
use Rattle.cache.specs.Table.{forgotten}
use Rattle.cache.proofs.table.forget.Given as goal

abbrev pub invariant-loop-slot : goal.invariant-loop-slot
invariant-loop-slot l = l.slots ≡ map (forgotten l.min) (take l.slot-index l.initial.slots) ++ drop l.slot-index l.initial.slots
