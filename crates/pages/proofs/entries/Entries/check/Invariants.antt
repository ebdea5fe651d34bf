use Rattle.std.proofs.Common.{◌≡◌, None}
use Rattle.format.specs.Mount.{earliest, slot_fault}
use Rattle.pages.proofs.entries.Entries.check.Given as goal

abbrev pub invariant-loop-slot : goal.invariant-loop-slot
invariant-loop-slot l = earliest (slot_fault l.self.layout.limits l.self.bytes.now) l.slot ≡ None
