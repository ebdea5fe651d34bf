use Rattle.std.proofs.Common.{◌≡◌, ◌++◌, map, take, drop}
use Rattle.index_layout.specs.Marks.{unmarked}
use Rattle.index.proofs.marks.unmark.Given as goal

abbrev pub invariant-loop-one : goal.invariant-loop-one
invariant-loop-one l = l.marks ≡ map (unmarked l.slot) (take l.one-index l.initial.marks) ++ drop l.one-index l.initial.marks
