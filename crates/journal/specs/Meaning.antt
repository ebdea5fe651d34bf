-- What a journal means: plain data, so that equal meanings are equal terms.
--   Content         a value's bytes, or the mark of a damaged one, which keeps its length
--   Row             label, key and content
--   Section         a start and its rows
--   Meaning         limits, floor, and the kept sections by rising start
--   check_size      the bytes of a value's check
--   size c          the length of the value c
--   cost_of n       what a value of length n costs
--   cost rs         what the rows rs cost
--   is_kept xs s    whether a section of xs starts at s
--   rows_of xs s    the rows of the section that starts at s: none where it is not kept
--   row_at m s p    the row at position p of the section that starts at s
--   first_from xs n the first start at or above n
--   Lawful m        what holds of every journal's meaning
use Rattle.std.specs.Prelude.{◌≡◌, ℕ, ◌+◌, ◌^◌, ◌<◌, ◌≤◌, Bool, true, false, cond, List, [], ◌∷◌, length, Some, None, Option, ◌==◌, nat_lt}
use Rattle.std.specs.List.{slice_get, AllByRecursion}
use Rattle.journal.specs.declared.limits.Limits.{Limits}
use Rattle.journal.specs.declared.row.Label.{Label}

pub data Content : Type 0 where
  sound : List ℕ → Content
  damaged : ℕ → Content

pub record Row : Type 0 where
  pub label : Label
  pub key : List ℕ
  pub content : Content

pub record Section : Type 0 where
  pub start : ℕ
  pub rows : List Row

pub record Meaning : Type 0 where
  pub limits : Limits
  pub floor : ℕ
  pub sections : List Section

abbrev pub check_size : ℕ
check_size = 4

abbrev pub size : Content → ℕ
size (sound bytes) = length bytes
size (damaged n) = n

abbrev pub cost_of : ℕ → ℕ
cost_of n = n + check_size

abbrev pub cost : List Row → ℕ
cost [] = 0
cost (r ∷ rs) = cost_of (size r.content) + cost rs

abbrev pub is_kept : List Section → ℕ → Bool
is_kept [] s = false
is_kept (x ∷ xs) s = cond (x.start == s) true (is_kept xs s)

abbrev pub rows_of : List Section → ℕ → List Row
rows_of [] s = []
rows_of (x ∷ xs) s = cond (x.start == s) x.rows (rows_of xs s)

abbrev pub row_at : Meaning → ℕ → ℕ → Option Row
row_at m s p = slice_get (rows_of m.sections s) p

abbrev pub first_from : List Section → ℕ → Option ℕ
first_from [] n = None
first_from (x ∷ xs) n = cond (nat_lt x.start n) (first_from xs n) (Some x.start)

-- Each start at or above low, and above the one before it.
abbrev pub Rising : ℕ → List Section → Type 0
Rising low [] = Unit {0}
Rising low (x ∷ xs) = (low ≤ x.start) × Rising (x.start + 1) xs

-- A start is a number of 64 bits: so a walk from start to start can reach the last.
pub record Within (l : Limits) (x : Section) : Type 0 where
  pub start : x.start < 2 ^ 64
  pub some : 0 < length x.rows
  pub rows : length x.rows ≤ l.rows
  pub bytes : cost x.rows ≤ l.bytes
  pub keys : AllByRecursion (λ r. length r.key ≡ l.width) x.rows

pub record Lawful (m : Meaning) : Type 0 where
  pub narrow : m.limits.width ≤ 32
  pub slots : length m.sections ≤ m.limits.slots
  pub rising : Rising m.floor m.sections
  pub within : AllByRecursion (Within m.limits) m.sections
