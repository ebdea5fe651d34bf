-- The refusals of the journal layer, each by its five parts.
--   parts n s p a   number n of layer 2, with section s, position p and amount a
--   parts_of f      the parts of the refusal f; of a stored page the section is its slot
use Rattle.std.specs.Prelude.{ℕ}
use Rattle.keys.specs.declared.fault.FaultParts.{FaultParts}
use Rattle.journal.specs.declared.fault.JournalFault.{JournalFault}
use Rattle.journal.specs.declared.fault.JournalFault.TheVariants.{WrongWidth, WrongSizes, BadHeader, BadRow, Damaged, BelowFloor, NoSlot, RowsFull, BytesFull, Short, NoRow}

abbrev pub parts : ℕ → ℕ → ℕ → ℕ → FaultParts
parts n s p a = record { number = n; layer = 2; section = s; position = p; amount = a }

abbrev pub parts_of : JournalFault → FaultParts
parts_of WrongWidth = parts 3 0 0 0
parts_of WrongSizes = parts 4 0 0 0
parts_of (BadHeader slot) = parts 5 slot 0 0
parts_of (BadRow slot row) = parts 6 slot row 0
parts_of (Damaged s p) = parts 7 s p 0
parts_of (BelowFloor s) = parts 11 s 0 0
parts_of (NoSlot s) = parts 12 s 0 0
parts_of (RowsFull s) = parts 13 s 0 0
parts_of (BytesFull s) = parts 14 s 0 0
parts_of (Short s p a) = parts 15 s p a
parts_of (NoRow s p) = parts 16 s p 0
