-- What a call that reads a value rests on: the record that was found, if one was.
--   answer_of o n     what a get answers of the record o, or of none, with a buffer of n bytes
--   buffer_of o b     what it leaves in the buffer b
--   KeptIn m o        the record o, if there is one, is kept by the journal m
--   ReadsSpot         a read of the record whose spot was found: for whatever record of the journal has that spot, its answer
--                     and its buffer are those of the rules
use Rattle.std.specs.Prelude.{◌≡◌, ℕ, List, length, Some, None, Ok, Option, Result}
use Rattle.journal.specs.Meaning.{Meaning, Lawful}
use Rattle.rules.specs.declared.answer.Found.{Found}
use Rattle.rules.specs.declared.fault.ArchiveFault.{ArchiveFault}
use Rattle.rules.specs.State.{Record, records_of}
use Rattle.rules.specs.Calls.{Among, found_answer, found_buffer}
use Rattle.archive_layout.specs.declared.spot.Spot.{Spot}
use Rattle.archive_layout.specs.Keys.{spot_in}

abbrev pub answer_of : Option Record → ℕ → Result (Option Found) ArchiveFault
answer_of None n = Ok None
answer_of (Some r) n = found_answer r n

abbrev pub buffer_of : Option Record → List ℕ → List ℕ
buffer_of None b = b
buffer_of (Some r) b = found_buffer r b

-- A record that was found is one of the journal's.
abbrev pub KeptIn : Meaning → Option Record → Type 0
KeptIn m None = Unit {0}
KeptIn m (Some r) = Among r (records_of m.sections)

abbrev pub ReadsSpot : Meaning → Option Spot → List ℕ → List ℕ → Result (Option Found) ArchiveFault → Type 0
ReadsSpot m spot b b' r = Lawful m → (o : Option Record) → KeptIn m o → spot ≡ spot_in o → (r ≡ answer_of o (length b)) × (b' ≡ buffer_of o b)
