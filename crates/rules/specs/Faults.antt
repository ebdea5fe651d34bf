-- The refusals of the archive, each by its five parts.
--   parts n s p a   number n of layer 3, with section s, position p and amount a
--   parts_of f      the parts of the refusal f; one of a key or of a journal keeps its own
use Rattle.std.specs.Prelude.{ℕ}
use Rattle.keys.specs.Faults as keys
use Rattle.keys.specs.declared.fault.FaultParts.{FaultParts}
use Rattle.journal.specs.Faults as journal
use Rattle.rules.specs.declared.fault.ArchiveFault.{ArchiveFault}
use Rattle.rules.specs.declared.fault.ArchiveFault.TheVariants.{SectionSize, JournalLimits, KeyWidth, WrongSection, NotLoaded, AlreadyLoaded, ShortListing, SlotTooLarge, PositionTooLarge, Key, Journal}

abbrev pub parts : ℕ → ℕ → ℕ → ℕ → FaultParts
parts n s p a = record { number = n; layer = 3; section = s; position = p; amount = a }

abbrev pub parts_of : ArchiveFault → FaultParts
parts_of SectionSize = parts 1 0 0 0
parts_of JournalLimits = parts 2 0 0 0
parts_of KeyWidth = parts 3 0 0 0
parts_of (WrongSection s p) = parts 8 s p 0
parts_of NotLoaded = parts 9 0 0 0
parts_of AlreadyLoaded = parts 10 0 0 0
parts_of (ShortListing a) = parts 15 0 0 a
parts_of SlotTooLarge = parts 18 0 0 0
parts_of PositionTooLarge = parts 19 0 0 0
parts_of (Key f) = keys.parts_of f
parts_of (Journal f) = journal.parts_of f
