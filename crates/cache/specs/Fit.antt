-- When a cache's table fits the journal below, and what a read through the table promises.
--   Copies w x r   x is a copy of the row r, whose key has w bytes
--   CacheFits      the journal below fits, and each copy in the table is of the row at its place there
--   Wide           what the cache takes for the width of keys
--   Fetches        what `fetch` promises: as `ReadsEntry`, over the journal below and the table, and
--     filled       after an accepted read the table has a copy of that row
--     turned       what the table has then, place by place
--     untouched    the read of a row that the table has a copy of leaves the journal below exactly as it was
use Rattle.std.specs.Prelude.{◌≡◌, ℕ, ◌≤◌, true, List, length, take, Some, None, Ok, Option, Result}
use Rattle.std.specs.List.{AllByRecursion}
use Rattle.journal.specs.declared.row.Entry.{Entry}
use Rattle.journal.specs.declared.fault.JournalFault.{JournalFault}
use Rattle.journal.specs.Meaning.{Meaning, Row, Lawful, row_at}
use Rattle.journal.specs.Calls.{entry_of, entry_read, entry_buffer}
use Rattle.cache.specs.declared.row_copy.RowCopy.{RowCopy}
use Rattle.cache.specs.Table.{Table, held, table_read}

pub record Copies (w : ℕ) (x : RowCopy) (r : Row) : Type 0 where
  pub entry : x.entry ≡ entry_of r
  pub key : take w x.key ≡ r.key

abbrev pub SlotFits : Meaning → Option RowCopy → Type 0
SlotFits m None = Unit {0}
SlotFits m (Some x) = (r : Row) × (row_at m x.start x.position ≡ Some r) × Copies m.limits.width x r

abbrev pub TableFits : Meaning → List (Option RowCopy) → Type 0
TableFits m xs = AllByRecursion (SlotFits m) xs

abbrev pub CacheFits : {O J : Type 0} → (O → J → Type 0) → (J → Meaning) → O → J → List (Option RowCopy) → Type 0
CacheFits fits meaning o below xs = fits o below × TableFits (meaning below) xs

pub record Wide {O J : Type 0} (fits : O → J → Type 0) (meaning : J → Meaning) (below : J) (w : ℕ) : Type 0 where
  pub narrow : w ≤ 32
  pub width : (o : O) → fits o below → w ≡ (meaning below).limits.width
  pub lawful : (o : O) → fits o below → Lawful (meaning below)

pub record Fetches {O J : Type 0} (fits : O → J → Type 0) (meaning : J → Meaning) (j j' : J) (t t' : Table) (s p : ℕ) (key key' : List ℕ) (r : Result Entry JournalFault) : Type 0 where
  pub fit : (o : O) → CacheFits fits meaning o j t.slots → CacheFits fits meaning o j' t'.slots
  pub answer : (o : O) → CacheFits fits meaning o j t.slots → r ≡ entry_read (meaning j) s p (length key)
  pub after : (o : O) → CacheFits fits meaning o j t.slots → meaning j' ≡ meaning j
  pub buffer : (o : O) → CacheFits fits meaning o j t.slots → key' ≡ entry_buffer (meaning j) s p key
  pub filled : (o : O) → CacheFits fits meaning o j t.slots → (e : Entry) → r ≡ Ok e → held t'.slots s p ≡ true
  pub turned : (o : O) → CacheFits fits meaning o j t.slots → t' ≡ table_read t s p (take (meaning j).limits.width key') r
  pub untouched : held t.slots s p ≡ true → j' ≡ j
