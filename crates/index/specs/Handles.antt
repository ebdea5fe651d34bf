-- Handles.
--   packed slot position   the handle of a slot and a position; the slot is asked for first
--   unpacked handle        the slot and the position of a handle
use Rattle.std.specs.Prelude.{ℕ, ◌+◌, ◌*◌, ◌/◌, ◌%◌, ◌^◌, cond, Ok, Err, Result, nat_lt}
use Rattle.rules.specs.declared.fault.ArchiveFault.{ArchiveFault}
use Rattle.rules.specs.declared.fault.ArchiveFault.TheVariants.{SlotTooLarge, PositionTooLarge}

abbrev pub packed : ℕ → ℕ → Result ℕ ArchiveFault
packed slot position =
    cond (nat_lt slot (2 ^ 24)) (cond (nat_lt position (2 ^ 40)) (Ok (slot * 2 ^ 40 + position)) (Err PositionTooLarge)) (Err SlotTooLarge)

abbrev pub unpacked : ℕ → ℕ × ℕ
unpacked h = (h / 2 ^ 40, h % 2 ^ 40)
