-- What each call answers, and what it leaves of the meaning and of its buffer: functions of the meaning and the arguments.
--   placed xs s r             the sections with the row r behind those of the section s, or in a section of its own
--   append_fault m s k v      why an append is refused, the first reason in its order, or None
--   append_answer, appended   an append's answer, and the meaning after it
--   entry_read, entry_buffer  the answer of reading an entry, and the buffer after it
--   value_read, value_buffer  the same of reading a value
--   kept_from xs n            the sections of xs that start at or above n
--   any_below xs n            whether a section of xs starts below n
--   pruned m n                the meaning after a prune by n
--   row_read, row_buffer      the answer of reading a whole row, a refusal as the journal gave it, and the value's buffer after it
-- A function by cases takes what it is by cases on as an argument, so that a fact about that can be put to use.
use Rattle.std.specs.Prelude.{ℕ, ◌+◌, max, Bool, true, false, cond, not, List, [], ◌∷◌, ◌++◌, length, drop, Some, None, Ok, Err, Option, Result, ◌==◌, nat_lt}
use Rattle.journal.specs.declared.row.Label.{Label}
use Rattle.journal.specs.declared.row.Entry.{Entry}
use Rattle.journal.specs.declared.fault.JournalFault.{JournalFault}
use Rattle.journal.specs.declared.fault.JournalFault.TheVariants.{WrongWidth, BelowFloor, NoSlot, RowsFull, BytesFull, Short, NoRow, Damaged}
use Rattle.journal.specs.Meaning.{Meaning, Section, Row, Content, sound, damaged, size, cost, cost_of, is_kept, rows_of, row_at}

-- A fault refuses, and leaves the old; none accepts, and gives the new.
abbrev pub or_fault : {X Y : Type 0} → Option Y → X → Result X Y
or_fault None x = Ok x
or_fault (Some f) x = Err f

abbrev pub or_keep : {X Y : Type 0} → Option Y → X → X → X
or_keep None new old = new
or_keep (Some f) new old = old

-- Append.
abbrev pub extended : List Section → ℕ → Row → List Section
extended [] s r = []
extended (x ∷ xs) s r = cond (x.start == s) (record { start = s; rows = x.rows ++ r ∷ [] } ∷ xs) (x ∷ extended xs s r)

abbrev pub opened : List Section → ℕ → Row → List Section
opened [] s r = record { start = s; rows = r ∷ [] } ∷ []
opened (x ∷ xs) s r = cond (nat_lt s x.start) (record { start = s; rows = r ∷ [] } ∷ x ∷ xs) (x ∷ opened xs s r)

abbrev pub placed : List Section → ℕ → Row → List Section
placed xs s r = cond (is_kept xs s) (extended xs s r) (opened xs s r)

abbrev pub no_slot : Meaning → ℕ → Bool
no_slot m s = cond (is_kept m.sections s) false (not (nat_lt (length m.sections) m.limits.slots))

abbrev pub append_fault : Meaning → ℕ → List ℕ → List ℕ → Option JournalFault
append_fault m s key value =
    cond (not (length key == m.limits.width)) (Some WrongWidth)
    (cond (nat_lt s m.floor) (Some (BelowFloor s))
    (cond (no_slot m s) (Some (NoSlot s))
    (cond (not (nat_lt (length (rows_of m.sections s)) m.limits.rows)) (Some (RowsFull s))
    (cond (nat_lt m.limits.bytes (cost (rows_of m.sections s) + cost_of (length value))) (Some (BytesFull s))
    None))))

abbrev pub append_answer : Meaning → ℕ → List ℕ → List ℕ → Result ℕ JournalFault
append_answer m s key value = or_fault (append_fault m s key value) (length (rows_of m.sections s))

abbrev pub new_row : Label → List ℕ → List ℕ → Row
new_row label key value = record { label = label; key = key; content = sound value }

abbrev pub with_row : Meaning → ℕ → Row → Meaning
with_row m s r = record { limits = m.limits; floor = m.floor; sections = placed m.sections s r }

abbrev pub appended : Meaning → ℕ → Label → List ℕ → List ℕ → Meaning
appended m s label key value = or_keep (append_fault m s key value) (with_row m s (new_row label key value)) m

-- Reading an entry.
abbrev pub entry_of : Row → Entry
entry_of r = record { label = r.label; length = size r.content }

abbrev pub entry_answer : Option Row → ℕ → ℕ → ℕ → ℕ → Result Entry JournalFault
entry_answer None width s p room = Err (NoRow s p)
entry_answer (Some r) width s p room = cond (nat_lt room width) (Err (Short s p width)) (Ok (entry_of r))

abbrev pub entry_fill : Option Row → ℕ → List ℕ → List ℕ
entry_fill None width buffer = buffer
entry_fill (Some r) width buffer = cond (nat_lt (length buffer) width) buffer (r.key ++ drop width buffer)

abbrev pub entry_read : Meaning → ℕ → ℕ → ℕ → Result Entry JournalFault
entry_read m s p room = entry_answer (row_at m s p) m.limits.width s p room

abbrev pub entry_buffer : Meaning → ℕ → ℕ → List ℕ → List ℕ
entry_buffer m s p buffer = entry_fill (row_at m s p) m.limits.width buffer

-- Reading a value.
abbrev pub content_answer : Content → ℕ → ℕ → ℕ → Result ℕ JournalFault
content_answer (sound bytes) s p room = cond (nat_lt room (length bytes)) (Err (Short s p (length bytes))) (Ok (length bytes))
content_answer (damaged n) s p room = cond (nat_lt room n) (Err (Short s p n)) (Err (Damaged s p))

abbrev pub content_fill : Content → List ℕ → List ℕ
content_fill (sound bytes) buffer = cond (nat_lt (length buffer) (length bytes)) buffer (bytes ++ drop (length bytes) buffer)
content_fill (damaged n) buffer = buffer

abbrev pub value_answer : Option Row → ℕ → ℕ → ℕ → Result ℕ JournalFault
value_answer None s p room = Err (NoRow s p)
value_answer (Some r) s p room = content_answer r.content s p room

abbrev pub value_fill : Option Row → List ℕ → List ℕ
value_fill None buffer = buffer
value_fill (Some r) buffer = content_fill r.content buffer

abbrev pub value_read : Meaning → ℕ → ℕ → ℕ → Result ℕ JournalFault
value_read m s p room = value_answer (row_at m s p) s p room

abbrev pub value_buffer : Meaning → ℕ → ℕ → List ℕ → List ℕ
value_buffer m s p buffer = value_fill (row_at m s p) buffer

-- Prune.
abbrev pub kept_from : List Section → ℕ → List Section
kept_from [] n = []
kept_from (x ∷ xs) n = cond (nat_lt x.start n) (kept_from xs n) (x ∷ kept_from xs n)

abbrev pub any_below : List Section → ℕ → Bool
any_below [] n = false
any_below (x ∷ xs) n = cond (nat_lt x.start n) true (any_below xs n)

abbrev pub pruned : Meaning → ℕ → Meaning
pruned m n = record { limits = m.limits; floor = max m.floor n; sections = kept_from m.sections n }

-- Reading a whole row: its entry, and then its value.
abbrev pub row_answer : Result Entry JournalFault → Result ℕ JournalFault → Result Entry JournalFault
row_answer (Err f) value = Err f
row_answer (Ok e) (Err f) = Err f
row_answer (Ok e) (Ok n) = Ok e

abbrev pub row_read : Meaning → ℕ → ℕ → ℕ → ℕ → Result Entry JournalFault
row_read m s p key_room value_room = row_answer (entry_read m s p key_room) (value_read m s p value_room)

abbrev pub after_entry : Result Entry JournalFault → List ℕ → List ℕ → List ℕ
after_entry (Err f) new old = old
after_entry (Ok e) new old = new

-- The value's buffer, which waits for the entry.
abbrev pub row_buffer : Meaning → ℕ → ℕ → ℕ → List ℕ → List ℕ
row_buffer m s p key_room value = after_entry (entry_read m s p key_room) (value_buffer m s p value) value
