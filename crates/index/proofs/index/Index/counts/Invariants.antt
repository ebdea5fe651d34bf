use Rattle.index_layout.specs.Held.{numbers, records}
use Rattle.index_layout.proofs.Held.{Summed}
use Rattle.index.specs.Slots.{views}
use Rattle.index.proofs.index.Index.counts.Given as goal

abbrev pub invariant-loop-slot : goal.invariant-loop-slot
invariant-loop-slot l = record { numbers : Summed numbers (views l.self) l.slot-index l.kept.numbers; records : Summed records (views l.self) l.slot-index l.kept.records }
