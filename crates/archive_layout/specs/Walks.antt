-- What a walk through the rows of a section has still before it.
--   filed_at s p r     the row r at position p of the section s, as a record
--   rest t s rs p      the records of the section s, with the rows rs, from position p on that pass the test t
--   from_link o n      the position that a link names; n, the end, where there is none
--   below_link o       one more than that; 0 where there is none
--   WalksNumber        how far a walk along the records of a number has come
use Rattle.std.specs.Prelude.{◌≡◌, ℕ, ◌+◌, Bool, List, ◌++◌, length, drop, Some, None, Option}
use Rattle.std.specs.List.{slice_get}
use Rattle.journal.specs.Meaning.{Row}
use Rattle.rules.specs.State.{Record, filed, those, bears_number}

abbrev pub filed_at : ℕ → ℕ → Row → Record
filed_at s p r = record { start = s; position = p; row = r }

abbrev pub rest : (Record → Bool) → ℕ → List Row → ℕ → List Record
rest t s rs p = those t (filed s p (drop p rs))

abbrev pub from_link : Option ℕ → ℕ → ℕ
from_link None n = n
from_link (Some p) n = p

abbrev pub below_link : Option ℕ → ℕ
below_link None = 0
below_link (Some p) = p + 1

-- A walk along the records that bear the number n, in the section s with the rows rs: it has come by those of `done`, and
-- goes on at the position that a link names.
pub record WalksNumber (n s : ℕ) (rs : List Row) (done : List Record) (o : Option ℕ) : Type 0 where
  pub all : rest (bears_number n) s rs 0 ≡ done ++ rest (bears_number n) s rs (from_link o (length rs))
  pub here : (q : ℕ) → o ≡ Some q → (r : Row) × (slice_get rs q ≡ Some r) × (r.label.number ≡ n)
