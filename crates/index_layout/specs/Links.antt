-- Links: numbers that name a place in a list, one more than the place, with 0 for none.
--   linked k              the place that the link k names
--   link o                the link that names the place o, or none
--   earliest xs v n       the first place below n where xs has v
--   latest xs v n         the last one
--   following xs p n      the first place above p and below n where xs has what it has at p
--   matching xs ys v w n  the last place below n where xs has v and ys has w
--   fresh xs n            how many places below n have a value that no place before them has
-- Each link is a function of the list, so no chain of them can run in a ring or lose a place.
use Rattle.std.specs.Prelude.{ℕ, zero, suc, ◌+◌, cond, ◌&&◌, List, Some, None, Option, ◌==◌, nat_lt, slice_index}

abbrev pub linked : ℕ → Option ℕ
linked zero = None
linked (suc n) = Some n

abbrev pub link : Option ℕ → ℕ
link None = 0
link (Some n) = suc n

abbrev pub earliest : List ℕ → ℕ → ℕ → ℕ
earliest xs v zero = 0
earliest xs v (suc n) = cond (earliest xs v n == 0) (cond (slice_index xs n == v) (suc n) 0) (earliest xs v n)

abbrev pub latest : List ℕ → ℕ → ℕ → ℕ
latest xs v zero = 0
latest xs v (suc n) = cond (slice_index xs n == v) (suc n) (latest xs v n)

abbrev pub following : List ℕ → ℕ → ℕ → ℕ
following xs p zero = 0
following xs p (suc n) =
    cond (following xs p n == 0) (cond (nat_lt p n && slice_index xs n == slice_index xs p) (suc n) 0) (following xs p n)

abbrev pub matching : List ℕ → List ℕ → ℕ → ℕ → ℕ → ℕ
matching xs ys v w zero = 0
matching xs ys v w (suc n) = cond (slice_index xs n == v && slice_index ys n == w) (suc n) (matching xs ys v w n)

abbrev pub fresh : List ℕ → ℕ → ℕ
fresh xs zero = 0
fresh xs (suc n) = cond (earliest xs (slice_index xs n) n == 0) (fresh xs n + 1) (fresh xs n)
