-- The cache's table, apart from any journal: places that each have a copy of a row, or none.
--   Table               the places, and which of them the next copy takes
--   find_slot xs s p    the first copy of the row at position p of the section s in xs, or None
--   held xs s p         whether xs has a copy of that row
--   forgotten n x       what a prune by n leaves of a place
--   with_copy t x       the copy x at the next place: places are taken in turn, so x goes once 16 further copies have come
--   table_read t s p key r   the table after a read of that row, which answered r and gave the key: as it was where the read is
--                       refused or the row has a copy, else with a copy of it
use Rattle.std.specs.Prelude.{ℕ, ◌+◌, ◌%◌, Bool, cond, List, is_some, Some, None, Ok, Err, Option, Result, nat_lt, slice_set}
use Rattle.std.specs.List.{find, flat_map}
use Rattle.std.specs.Option.{option_to_list}
use Rattle.cache.specs.declared.row_copy.RowCopy.{RowCopy}
use Rattle.journal.specs.declared.row.Entry.{Entry}
use Rattle.journal.specs.declared.fault.JournalFault.{JournalFault}
use Rattle.cache.specs.Row.{is_of, copy_of}

pub record Table : Type 0 where
  pub slots : List (Option RowCopy)
  pub next : ℕ

abbrev pub find_slot : List (Option RowCopy) → ℕ → ℕ → Option RowCopy
find_slot xs s p = find (λ x. is_of x s p) (flat_map option_to_list xs)

abbrev pub held : List (Option RowCopy) → ℕ → ℕ → Bool
held xs s p = is_some (find_slot xs s p)

abbrev pub forgotten : ℕ → Option RowCopy → Option RowCopy
forgotten n None = None
forgotten n (Some x) = cond (nat_lt x.start n) None (Some x)

abbrev pub with_copy : Table → RowCopy → Table
with_copy t x = record { slots = slice_set t.slots t.next (Some x); next = (t.next + 1) % 16 }

abbrev pub table_read : Table → ℕ → ℕ → List ℕ → Result Entry JournalFault → Table
table_read t s p key (Err f) = t
table_read t s p key (Ok e) = cond (held t.slots s p) t (with_copy t (copy_of s p e key))
