-- What each call of a journal promises, one record a call, over any type J of journal with its ghost members:
-- the journal is j before the call and j' after it, r is the answer, and o is any past.
--   fit      what fitted still fits
--   answer   the answer, whole, accepted or refused
--   after    the meaning afterwards
--   buffer   the buffer afterwards
--   lawful   what holds of the meaning
use Rattle.std.specs.Prelude.{◌≡◌, ℕ, Bool, List, length, Option, Result}
use Rattle.journal.specs.declared.limits.Limits.{Limits}
use Rattle.journal.specs.declared.row.Label.{Label}
use Rattle.journal.specs.declared.row.Entry.{Entry}
use Rattle.journal.specs.declared.fault.JournalFault.{JournalFault}
use Rattle.journal.specs.Meaning.{Meaning, Lawful, rows_of, first_from}
use Rattle.journal.specs.Calls.{append_answer, appended, entry_read, entry_buffer, value_read, value_buffer, any_below, pruned, row_read, row_buffer}

pub record TellsLimits {O J : Type 0} (fits : O → J → Type 0) (meaning : J → Meaning) (j : J) (r : Limits) : Type 0 where
  pub answer : (o : O) → fits o j → r ≡ (meaning j).limits
  pub lawful : (o : O) → fits o j → Lawful (meaning j)

pub record TellsFloor {O J : Type 0} (fits : O → J → Type 0) (meaning : J → Meaning) (j : J) (r : ℕ) : Type 0 where
  pub answer : (o : O) → fits o j → r ≡ (meaning j).floor

pub record TellsFirst {O J : Type 0} (fits : O → J → Type 0) (meaning : J → Meaning) (j : J) (from : ℕ) (r : Option ℕ) : Type 0 where
  pub answer : (o : O) → fits o j → r ≡ first_from (meaning j).sections from

pub record TellsCount {O J : Type 0} (fits : O → J → Type 0) (meaning : J → Meaning) (j : J) (s : ℕ) (r : ℕ) : Type 0 where
  pub answer : (o : O) → fits o j → r ≡ length (rows_of (meaning j).sections s)

pub record Appends {O J : Type 0} (fits : O → J → Type 0) (meaning : J → Meaning) (j j' : J) (s : ℕ) (label : Label) (key value : List ℕ) (r : Result ℕ JournalFault) : Type 0 where
  pub fit : (o : O) → fits o j → fits o j'
  pub answer : (o : O) → fits o j → r ≡ append_answer (meaning j) s key value
  pub after : (o : O) → fits o j → meaning j' ≡ appended (meaning j) s label key value

pub record ReadsEntry {O J : Type 0} (fits : O → J → Type 0) (meaning : J → Meaning) (j j' : J) (s p : ℕ) (key key' : List ℕ) (r : Result Entry JournalFault) : Type 0 where
  pub fit : (o : O) → fits o j → fits o j'
  pub answer : (o : O) → fits o j → r ≡ entry_read (meaning j) s p (length key)
  pub after : (o : O) → fits o j → meaning j' ≡ meaning j
  pub buffer : (o : O) → fits o j → key' ≡ entry_buffer (meaning j) s p key

pub record ReadsValue {O J : Type 0} (fits : O → J → Type 0) (meaning : J → Meaning) (j j' : J) (s p : ℕ) (value value' : List ℕ) (r : Result ℕ JournalFault) : Type 0 where
  pub fit : (o : O) → fits o j → fits o j'
  pub answer : (o : O) → fits o j → r ≡ value_read (meaning j) s p (length value)
  pub after : (o : O) → fits o j → meaning j' ≡ meaning j
  pub buffer : (o : O) → fits o j → value' ≡ value_buffer (meaning j) s p value

pub record Prunes {O J : Type 0} (fits : O → J → Type 0) (meaning : J → Meaning) (j j' : J) (min : ℕ) (r : Bool) : Type 0 where
  pub fit : (o : O) → fits o j → fits o j'
  pub answer : (o : O) → fits o j → r ≡ any_below (meaning j).sections min
  pub after : (o : O) → fits o j → meaning j' ≡ pruned (meaning j) min

pub record ReadsRow {O J : Type 0} (fits : O → J → Type 0) (meaning : J → Meaning) (j j' : J) (s p : ℕ) (key key' value value' : List ℕ) (r : Result Entry JournalFault) : Type 0 where
  pub fit : (o : O) → fits o j → fits o j'
  pub answer : (o : O) → fits o j → r ≡ row_read (meaning j) s p (length key) (length value)
  pub after : (o : O) → fits o j → meaning j' ≡ meaning j
  pub key_buffer : (o : O) → fits o j → key' ≡ entry_buffer (meaning j) s p key
  pub value_buffer : (o : O) → fits o j → value' ≡ row_buffer (meaning j) s p (length key) value
