-- What memory rows stand for, slot by slot. Total: any tables give sections.
--   View                   the tables as plain lists and numbers
--   head v s               what is known of the slot s
--   kept_row v s r         the record of row r of the slot s
--   pages v                the section of each slot
--   meaning_of v           what the tables mean
--   Well v                 what holds of the tables between calls
--   Holds v t s            the section s lies in the slot t
--   Nowhere v s            it lies in none
--   Vacant v t, AllTaken v the slot t is free; no slot is
--   Lies v s p r           r is the record of the row at position p of the section s
--   Goes v t s key         a row with that key, of the section s, goes to the slot t
--   stored v t ..          the tables with one row more in the slot t
--   room_fault h n ..      why a slot with the head h takes no value of length n more, or None
--   Stores, Drops          what an append, and a prune, makes of the tables and answers
use Rattle.std.specs.Prelude.{◌≡◌, ℕ, ◌+◌, ◌*◌, ◌^◌, ◌<◌, ◌≤◌, Bool, cond, List, map, length, Some, None, Option, Result, ◌≢◌, nat_le, nat_lt, slice_index_or, slice_set}
use Rattle.std.specs.List.{range_with_len}
use Rattle.journal.specs.declared.limits.Limits.{Limits}
use Rattle.journal.specs.declared.row.Label.{Label}
use Rattle.journal.specs.declared.fault.JournalFault.{JournalFault}
use Rattle.journal.specs.declared.fault.JournalFault.TheVariants.{RowsFull, BytesFull}
use Rattle.journal.specs.Bytes.{chunk, put}
use Rattle.journal.specs.Meaning.{Meaning, Row, sound, cost, cost_of, row_at}
use Rattle.journal.specs.Calls.{append_answer, appended, any_below, pruned}
use Rattle.journal.specs.Slots.{Pages, Ready, kept_in}
use Rattle.memory_layout.specs.declared.record.RowRecord.{RowRecord}
use Rattle.memory_layout.specs.declared.head.Head.{Head}

pub record View : Type 0 where
  pub records : List RowRecord
  pub bytes : List ℕ
  pub heads : List Head
  pub slots : ℕ
  pub rows : ℕ
  pub limit : ℕ
  pub width : ℕ
  pub area : ℕ
  pub floor : ℕ

abbrev pub blank : RowRecord
blank = record { label = record { number = 0 }; at = 0; length = 0 }

abbrev pub free : Head
free = record { start = 0; count = 0; cost = 0 }

abbrev pub head : View → ℕ → Head
head v s = slice_index_or v.heads s free

abbrev pub kept_row : View → ℕ → ℕ → RowRecord
kept_row v s r = slice_index_or v.records (s * v.rows + r) blank

abbrev pub row_of : List ℕ → ℕ → RowRecord → Row
row_of bytes w r = record { label = r.label; key = chunk bytes r.at w; content = sound (chunk bytes (r.at + w) r.length) }

abbrev pub rows_in : View → ℕ → List Row
rows_in v s = map (λ r. row_of v.bytes v.width (kept_row v s r)) (range_with_len 0 (head v s).count)

abbrev pub pages : View → Pages
pages v s = record { start = (head v s).start; rows = rows_in v s }

abbrev pub limits_of : View → Limits
limits_of v = record { slots = v.slots; rows = v.rows; bytes = v.limit; width = v.width }

abbrev pub meaning_of : View → Meaning
meaning_of v = record { limits = limits_of v; floor = v.floor; sections = kept_in (pages v) v.slots }

-- What holds between calls, part by part.
abbrev pub Counts : View → Type 0
Counts v = (s : ℕ) → s < v.slots → (head v s).count ≤ v.rows

abbrev pub Costs : View → Type 0
Costs v = (s : ℕ) → s < v.slots → (head v s).cost ≡ cost (rows_in v s)

abbrev pub Bounded : View → Type 0
Bounded v = (s : ℕ) → s < v.slots → (head v s).cost ≤ v.limit

abbrev pub Begins : View → Type 0
Begins v = (s r : ℕ) → (s < v.slots) × (r < (head v s).count) → s * v.area ≤ (kept_row v s r).at

abbrev pub Ends : View → Type 0
Ends v = (s r : ℕ) → (s < v.slots) × (r < (head v s).count) → (kept_row v s r).at + v.width + (kept_row v s r).length ≤ s * v.area + (head v s).count * v.width + (head v s).cost

abbrev pub Apart : View → Type 0
Apart v = (s t : ℕ) → (s < v.slots) × (t < v.slots) × (0 < (head v s).count) × (0 < (head v t).count) × ((head v s).start ≡ (head v t).start) → s ≡ t

abbrev pub Above : View → Type 0
Above v = (s : ℕ) → (s < v.slots) × (0 < (head v s).count) → v.floor ≤ (head v s).start

abbrev pub Starts : View → Type 0
Starts v = (s : ℕ) → s < v.slots → (head v s).start < 2 ^ 64

pub record Well (v : View) : Type 0 where
  pub slots_few : v.slots ≤ 64
  pub rows_few : v.rows ≤ 1024
  pub limit_few : v.limit ≤ 65536
  pub width_few : v.width ≤ 32
  pub area_is : v.area ≡ v.rows * v.width + v.limit
  pub heads_len : length v.heads ≡ 64
  pub records_len : length v.records ≡ v.slots * v.rows
  pub bytes_len : length v.bytes ≡ v.slots * v.area
  pub counts : Counts v
  pub costs : Costs v
  pub bounded : Bounded v
  pub begins : Begins v
  pub ends : Ends v
  pub distinct : Apart v
  pub above : Above v
  pub starts : Starts v

abbrev pub Small : Limits → Type 0
Small l = (l.slots ≤ 64) × (l.rows ≤ 1024) × (l.bytes ≤ 65536) × (l.width ≤ 32)

-- What a search for a slot, or for a row, finds.
pub record Holds (v : View) (t s : ℕ) : Type 0 where
  pub slot : t < v.slots
  pub taken : 0 < (head v t).count
  pub start : (head v t).start ≡ s

abbrev pub Nowhere : View → ℕ → Type 0
Nowhere v s = (i : ℕ) → i < v.slots → 0 < (head v i).count → (head v i).start ≢ s

pub record Vacant (v : View) (t : ℕ) : Type 0 where
  pub slot : t < v.slots
  pub free_of_rows : (head v t).count ≡ 0

abbrev pub AllTaken : View → Type 0
AllTaken v = (i : ℕ) → i < v.slots → 0 < (head v i).count

pub record Lies (v : View) (s p : ℕ) (r : RowRecord) : Type 0 where
  pub row : row_at (meaning_of v) s p ≡ Some (row_of v.bytes v.width r)
  pub within : r.at + v.width + r.length ≤ length v.bytes

-- Append. A slot's rows lie one behind the other; each value leaves the room of its check, so that the cost tells the place.
abbrev pub next_at : View → ℕ → ℕ
next_at v t = t * v.area + (head v t).count * v.width + (head v t).cost

abbrev pub stored : View → ℕ → ℕ → Label → List ℕ → List ℕ → View
stored v t start label key value =
    record {
      records = slice_set v.records (t * v.rows + (head v t).count) record { label = label; at = next_at v t; length = length value };
      bytes = put (put v.bytes (next_at v t) key) (next_at v t + v.width) value;
      heads = slice_set v.heads t record { start = start; count = (head v t).count + 1; cost = (head v t).cost + cost_of (length value) };
      slots = v.slots;
      rows = v.rows;
      limit = v.limit;
      width = v.width;
      area = v.area;
      floor = v.floor;
    }

-- A row with that key, of the section s, goes to the slot t.
pub record Goes (v : View) (t s : ℕ) (key : List ℕ) : Type 0 where
  pub ready : Ready (pages v) v.slots t s
  pub floor : v.floor ≤ s
  pub wide : length key ≡ v.width

-- Why a slot takes no further row: it has them all, or the value would pass what its rows may cost.
abbrev pub room_fault : Head → ℕ → ℕ → ℕ → ℕ → Option JournalFault
room_fault h length rows limit s =
    cond (nat_le rows h.count) (Some (RowsFull s)) (cond (nat_le (h.cost + cost_of length) limit) None (Some (BytesFull s)))

pub record Stores (v v' : View) (s : ℕ) (label : Label) (key value : List ℕ) (r : Result ℕ JournalFault) : Type 0 where
  pub well : Well v'
  pub answer : r ≡ append_answer (meaning_of v) s key value
  pub after : meaning_of v' ≡ appended (meaning_of v) s label key value

-- Prune.
abbrev pub pruned_head : ℕ → Head → Head
pruned_head min h = cond (nat_lt h.start min) free h

abbrev pub with_heads : View → List Head → ℕ → View
with_heads v hs f = record { records = v.records; bytes = v.bytes; heads = hs; slots = v.slots; rows = v.rows; limit = v.limit; width = v.width; area = v.area; floor = f }

pub record Drops (v v' : View) (min : ℕ) (r : Bool) : Type 0 where
  pub well : Well v'
  pub answer : r ≡ any_below (meaning_of v).sections min
  pub after : meaning_of v' ≡ pruned (meaning_of v) min
