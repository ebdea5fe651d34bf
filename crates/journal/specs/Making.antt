-- How a journal begins: a check that may refuse, and a making that cannot.
--   in_range l    whether a journal may be begun with the limits l
--   empty l       a journal of the limits l that keeps nothing, its floor 0
--   nothing       the limits 0
--   checked o     what a check answers where the fault found is o
--   made o m      what a making means where the check finds o: m, or where it would refuse the empty journal of limits 0
use Rattle.std.specs.Prelude.{ℕ, Bool, ◌&&◌, [], Option, Result, nat_le}
use Rattle.journal.specs.declared.limits.Limits.{Limits}
use Rattle.journal.specs.declared.fault.JournalFault.{JournalFault}
use Rattle.journal.specs.Meaning.{Meaning, check_size}
use Rattle.journal.specs.Calls.{or_fault, or_keep}

abbrev pub between : ℕ → ℕ → ℕ → Bool
between low x high = nat_le low x && nat_le x high

abbrev pub in_range : Limits → Bool
in_range l = between 1 l.slots 64 && (between 1 l.rows 1024 && (between check_size l.bytes 65536 && between 1 l.width 32))

abbrev pub empty : Limits → Meaning
empty l = record { limits = l; floor = 0; sections = [] }

abbrev pub nothing : Limits
nothing = record { slots = 0; rows = 0; bytes = 0; width = 0 }

abbrev pub checked : Option JournalFault → Result Unit JournalFault
checked o = or_fault o tt

abbrev pub made : Option JournalFault → Meaning → Meaning
made o m = or_keep o m (empty nothing)
