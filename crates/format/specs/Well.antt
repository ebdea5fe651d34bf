-- What the code of byte pages rests on, as facts: each follows from is_sound.
--   Laid l es     the limits are small, and the entries hold a page for each slot
--   RowFits       what row_fits tells
--   GoodPage l p  a page that a mounting accepts, as to its header's check and its rows
--   Well v        byte pages between calls
--   IsFull v s    the section s is kept in no slot, and no slot is free
--   IsAt v s p t  the row at the position p of the section s lies in the slot t
--   Stores        what an append makes of byte pages and answers
use Rattle.std.specs.Prelude.{◌≡◌, ℕ, ◌+◌, ◌*◌, ◌^◌, ◌<◌, ◌≤◌, true, List, length, Some, None, Result, ◌≢◌}
use Rattle.journal.specs.declared.limits.Limits.{Limits}
use Rattle.journal.specs.declared.row.Label.{Label}
use Rattle.journal.specs.declared.fault.JournalFault.{JournalFault}
use Rattle.journal.specs.Bytes.{chunk}
use Rattle.journal.specs.Meaning.{check_size}
use Rattle.journal.specs.Calls.{append_answer, appended}
use Rattle.format.specs.Numbers.{be}
use Rattle.format.specs.Layout.{head_check_at, row_check_at, page_size, entry_check}
use Rattle.format.specs.Decode.{count_of, is_free, row_at, offset_of, size_of, used}
use Rattle.format.specs.Mount.{found, bears, empty_at}
use Rattle.format.specs.State.{View, page_in, count_in, start_in, meaning_of, is_sound, located, Leaves}

pub record Small (l : Limits) : Type 0 where
  pub slots : l.slots ≤ 64
  pub rows : l.rows ≤ 1024
  pub bytes : l.bytes ≤ 65536
  pub width : l.width ≤ 32

pub record Laid (l : Limits) (es : List ℕ) : Type 0 where
  pub small : Small l
  pub long : l.slots * page_size l.rows l.width ≤ length es

abbrev pub Checked : List ℕ → ℕ → Type 0
Checked b n = be (chunk b n 4) ≡ entry_check (chunk b 0 n)

pub record RowFits (w bytes offset : ℕ) (b : List ℕ) : Type 0 where
  pub check : Checked b (row_check_at w)
  pub place : offset_of w b ≡ offset
  pub some : check_size ≤ size_of w b
  pub room : offset + size_of w b ≤ bytes

pub record GoodPage (l : Limits) (p : List ℕ) : Type 0 where
  pub few : count_of p ≤ l.rows
  pub free : count_of p ≡ 0 → is_free p ≡ true
  pub head : 0 < count_of p → Checked p head_check_at
  pub each : (r : ℕ) → r < count_of p → RowFits l.width l.bytes (used l.width p r) (row_at l.width p r)

pub record Well (v : View) : Type 0 where
  pub laid : Laid v.limits v.entries
  pub long : v.limits.slots * v.limits.bytes ≤ length v.values
  pub pages : (s : ℕ) → s < v.limits.slots → GoodPage v.limits (page_in v s)
  pub distinct : (s t : ℕ) → s < t → t < v.limits.slots → 0 < count_in v s → 0 < count_in v t → start_in v s ≢ start_in v t
  pub above : (s : ℕ) → s < v.limits.slots → 0 < count_in v s → v.floor ≤ start_in v s
  pub starts : (s : ℕ) → s < v.limits.slots → 0 < count_in v s → start_in v s < 2 ^ 64

pub record IsFull (v : View) (start : ℕ) : Type 0 where
  pub absent : None ≡ found (bears v.limits v.entries start) v.limits.slots
  pub taken : None ≡ found (empty_at v.limits v.entries) v.limits.slots

pub record IsAt (v : View) (start position t : ℕ) : Type 0 where
  pub found : Some t ≡ located v start position
  pub slot : t < v.limits.slots
  pub row : position < count_in v t

pub record Stores (v v' : View) (start : ℕ) (label : Label) (key value : List ℕ) (r : Result ℕ JournalFault) : Type 0 where
  pub sound : is_sound v' ≡ true
  pub answer : r ≡ append_answer (meaning_of v) start key value
  pub after : meaning_of v' ≡ appended (meaning_of v) start label key value
  pub bytes : Leaves v v' start label key value r
