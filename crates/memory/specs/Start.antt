-- Where memory rows may begin.
--   startable l places n     whether limits, number of records and number of bytes go together
--   start_fault l places n   the refusal of a beginning, or None
use Rattle.std.specs.Prelude.{ℕ, ◌+◌, ◌*◌, Bool, cond, ◌&&◌, Some, None, Option, ◌==◌}
use Rattle.journal.specs.declared.limits.Limits.{Limits}
use Rattle.journal.specs.declared.fault.JournalFault.{JournalFault}
use Rattle.journal.specs.declared.fault.JournalFault.TheVariants.{WrongSizes}
use Rattle.journal.specs.Making.{in_range}

abbrev pub startable : Limits → ℕ → ℕ → Bool
startable l places n = in_range l && (places == l.slots * l.rows && n == l.slots * (l.rows * l.width + l.bytes))

abbrev pub start_fault : Limits → ℕ → ℕ → Option JournalFault
start_fault l places n = cond (startable l places n) None (Some WrongSizes)
