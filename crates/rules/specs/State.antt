-- The archive's state and its kept records.
--   Kind               a kind of key with a translator: the width, the flaw of bytes that are no key, the translated key
--   State              numbers to a section (None: not loaded), floor (None: none yet), and the journal's meaning
--   new m              the state of an archive just made over a journal of meaning m
--   section_of l n     where the section of the number n starts, with l numbers to a section
--   or_zero f          the floor as a put sees it: no floor counts as 0
--   Record             a kept record: its section's start, its position there, and its row
--   filed s p rs       the rows rs as records of the section s, from position p on
--   records_of xs      the records of the sections xs, by start and position
--   kept s             the kept records of the state s
--   those t xs         the ones of xs that pass the test t, in their order
--   some_in xs         whether there is one
--   by_number rs       rs by move number, equal numbers in the order that they stand in
--   places_of rs       their places
--   distinct rs        how many different numbers they bear
use Rattle.std.specs.Prelude.{ℕ, ◌+◌, ◌*◌, ◌/◌, Bool, true, false, cond, ◌&&◌, List, [], ◌∷◌, ◌++◌, map, length, Some, None, Option, ◌==◌, nat_le}
use Rattle.journal.specs.Meaning.{Meaning, Section, Row}
use Rattle.rules.specs.declared.answer.Place.{Place}

pub record Kind : Type 0 where
  pub width : ℕ
  pub flaw : List ℕ → Option ℕ
  pub translated : List ℕ → ℕ

pub record State : Type 0 where
  pub size : Option ℕ
  pub floor : Option ℕ
  pub journal : Meaning

abbrev pub new : Meaning → State
new m = record { size = None; floor = None; journal = m }

abbrev pub section_of : ℕ → ℕ → ℕ
section_of l n = n / l * l

abbrev pub or_zero : Option ℕ → ℕ
or_zero None = 0
or_zero (Some n) = n

pub record Record : Type 0 where
  pub start : ℕ
  pub position : ℕ
  pub row : Row

abbrev pub number_of : Record → ℕ
number_of r = r.row.label.number

abbrev pub place_of : Record → Place
place_of r = record { number = number_of r; position = r.position }

abbrev pub filed : ℕ → ℕ → List Row → List Record
filed s p [] = []
filed s p (r ∷ rs) = record { start = s; position = p; row = r } ∷ filed s (p + 1) rs

abbrev pub records_of : List Section → List Record
records_of [] = []
records_of (x ∷ xs) = filed x.start 0 x.rows ++ records_of xs

abbrev pub kept : State → List Record
kept s = records_of s.journal.sections

-- What a record bears.
abbrev pub same_bytes : List ℕ → List ℕ → Bool
same_bytes [] [] = true
same_bytes [] (y ∷ ys) = false
same_bytes (x ∷ xs) [] = false
same_bytes (x ∷ xs) (y ∷ ys) = x == y && same_bytes xs ys

abbrev pub bears_number : ℕ → Record → Bool
bears_number n r = number_of r == n

abbrev pub bears_key : List ℕ → Record → Bool
bears_key k r = same_bytes r.row.key k

abbrev pub bears_both : ℕ → List ℕ → Record → Bool
bears_both n k r = bears_number n r && bears_key k r

abbrev pub lies_at : Place → Record → Bool
lies_at p r = bears_number p.number r && r.position == p.position

-- A candidate for a key shares its translated key, whatever the hashes are.
abbrev pub is_candidate : Kind → List ℕ → Record → Bool
is_candidate kind k r = kind.translated r.row.key == kind.translated k

abbrev pub those : {X : Type 0} → (X → Bool) → List X → List X
those t [] = []
those t (x ∷ xs) = cond (t x) (x ∷ those t xs) (those t xs)

abbrev pub some_in : {X : Type 0} → List X → Bool
some_in [] = false
some_in (x ∷ xs) = true

-- The order of a listing.
abbrev pub put_by_number : Record → List Record → List Record
put_by_number r [] = r ∷ []
put_by_number r (x ∷ xs) = cond (nat_le (number_of r) (number_of x)) (r ∷ x ∷ xs) (x ∷ put_by_number r xs)

abbrev pub by_number : List Record → List Record
by_number [] = []
by_number (r ∷ rs) = put_by_number r (by_number rs)

abbrev pub places_of : List Record → List Place
places_of rs = map place_of rs

-- Different numbers, each counted where it is first met.
abbrev pub is_in : ℕ → List ℕ → Bool
is_in n [] = false
is_in n (x ∷ xs) = cond (n == x) true (is_in n xs)

abbrev pub first_met : List ℕ → List ℕ → List ℕ
first_met seen [] = []
first_met seen (n ∷ ns) = cond (is_in n seen) (first_met seen ns) (n ∷ first_met (n ∷ seen) ns)

abbrev pub distinct : List Record → ℕ
distinct rs = length (first_met [] (map number_of rs))
