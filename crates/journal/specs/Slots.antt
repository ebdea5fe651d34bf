-- The sections in rising order, from what lies slot by slot in pages of any kind. A slot with no rows is free.
--   Pages             what section lies in each slot
--   full x            whether the slot of x is taken
--   put_in x xs       the section x at its place by start among xs, for one of the same start
--   sorted xs         the full ones of xs by rising start
--   kept_in f n       the sections that the n slots of f keep
--   pruned_slot m x   what a prune by m leaves of a slot
--   nearest, first_of the first start at or above a number, one slot after another
--   goes, gone_of     whether a prune takes a slot's section, or that of one of the first slots
--   Distinct, Absent  no two slots share a start; no slot has the section s
--   Ready f n t s     a row of the section s goes to the slot t
--   Grows             the slot t has one row more, and no other slot has changed
use Rattle.std.specs.Prelude.{◌≡◌, ℕ, zero, suc, ◌<◌, Bool, false, cond, ◌&&◌, ◌||◌, List, [], ◌∷◌, ◌++◌, map, length, Some, None, Option, ◌==◌, ◌≢◌, nat_le, nat_lt}
use Rattle.std.specs.List.{range_with_len}
use Rattle.journal.specs.Meaning.{Section, Row}

abbrev pub Pages : Type 0
Pages = ℕ → Section

abbrev pub full : Section → Bool
full x = nat_lt 0 (length x.rows)

abbrev pub put_in : Section → List Section → List Section
put_in x [] = x ∷ []
put_in x (y ∷ ys) = cond (y.start == x.start) (x ∷ ys) (cond (nat_lt x.start y.start) (x ∷ y ∷ ys) (y ∷ put_in x ys))

abbrev pub sorted : List Section → List Section
sorted [] = []
sorted (x ∷ xs) = cond (full x) (put_in x (sorted xs)) (sorted xs)

abbrev pub kept_in : Pages → ℕ → List Section
kept_in f n = sorted (map f (range_with_len 0 n))

abbrev pub vacancy : Section
vacancy = record { start = 0; rows = [] }

abbrev pub pruned_slot : ℕ → Section → Section
pruned_slot m x = cond (nat_lt x.start m) vacancy x

-- By how many rows a slot has, and where its section starts.
abbrev pub closer : Option ℕ → ℕ → Option ℕ
closer None k = Some k
closer (Some b) k = cond (nat_le b k) (Some b) (Some k)

abbrev pub nearest : Option ℕ → ℕ → ℕ → ℕ → Option ℕ
nearest best rows start from = cond (rows == 0) best (cond (nat_lt start from) best (closer best start))

abbrev pub first_of : Pages → ℕ → ℕ → Option ℕ
first_of f from zero = None
first_of f from (suc n) = nearest (first_of f from n) (length (f n).rows) (f n).start from

abbrev pub goes : ℕ → ℕ → ℕ → Bool
goes min rows start = nat_lt 0 rows && nat_lt start min

abbrev pub gone_of : Pages → ℕ → ℕ → Bool
gone_of f min zero = false
gone_of f min (suc n) = gone_of f min n || goes min (length (f n).rows) (f n).start

-- No two taken slots have one start.
abbrev pub Distinct : Pages → ℕ → Type 0
Distinct f n = (i j : ℕ) → i < n → j < n → 0 < length (f i).rows → 0 < length (f j).rows → (f i).start ≡ (f j).start → i ≡ j

-- No taken slot but t has the section s.
abbrev pub Alone : Pages → ℕ → ℕ → ℕ → Type 0
Alone f n t s = (i : ℕ) → i < n → (i ≢ t) → 0 < length (f i).rows → (f i).start ≢ s

-- No taken slot has the section s.
abbrev pub Absent : Pages → ℕ → ℕ → Type 0
Absent f n s = (i : ℕ) → i < n → 0 < length (f i).rows → (f i).start ≢ s

-- The slot t is where a row of the section s goes: the section lies there, or is kept nowhere and the slot is free.
pub record Ready (f : Pages) (n t s : ℕ) : Type 0 where
  pub slot : t < n
  pub same : 0 < length (f t).rows → (f t).start ≡ s
  pub alone : Alone f n t s

-- What the n slots hold once the slot t has the row r more, of the section s.
pub record Grows (f g : Pages) (n t s : ℕ) (r : Row) : Type 0 where
  pub here : g t ≡ record { start = s; rows = (f t).rows ++ r ∷ [] }
  pub others : (i : ℕ) → i < n → (i ≢ t) → g i ≡ f i
