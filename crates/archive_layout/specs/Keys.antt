-- The bearers of a key, one after another in the order of a listing.
--   is_after a p       whether the place p comes behind the place a, by number and then position; all do where there is none
--   is_behind a r      the same of the record r
--   start_behind l a   the section of the place a, with l numbers to a section; 0 where there is none
--   sought k a r       whether r bears the key k and comes behind the place a
--   least rs           the first of rs in the order of a listing
--   least_from t xs n  the first record that passes t in the sections of xs that start at or above n
--   listed_from xs k a the places of the listing by the key k that come behind the place a
--   place_in, spot_in  its place; its section's start with its place
--   lower p b          the first of the place p and the best so far, where p has the lower position
--   coded_at v c h q   whether position q of the slot v has the translated key c, in the bucket of the hash h
--   Steps v c h n o    o is the last such position below n, or there is none
--   in_place o         the position that a handle names
--   Handled v i c h o  a handle names such a position of the slot i, which v is, or there is none
--   count_coded v c h n  how many such positions there are below n
--   candidates_in c h v  how many the slot v has
--   Coded              what a search for a key rests on: the key's width, its translated key and its hash
use Rattle.std.specs.Prelude.{◌≡◌, ℕ, zero, suc, ◌+◌, ◌/◌, ◌%◌, ◌^◌, ◌<◌, ◌≤◌, Bool, true, cond, ◌&&◌, ◌||◌, List, [], ◌∷◌, length, Some, None, Option, ◌==◌, ◌≢◌, nat_le, nat_lt, slice_index}
use Rattle.journal.specs.Meaning.{Meaning, Section}
use Rattle.journal.specs.Calls.{kept_from}
use Rattle.rules.specs.declared.answer.Place.{Place}
use Rattle.rules.specs.State.{Record, section_of, place_of, bears_key, records_of, those, by_number, places_of}
use Rattle.archive_layout.specs.declared.spot.Spot.{Spot}
use Rattle.index_layout.specs.Views.{View, bucket_of}
use Rattle.archive_layout.specs.Fit.{Coding}
use Rattle.archive_layout.specs.Walks.{below_link}

abbrev pub is_after : Option Place → Place → Bool
is_after None p = true
is_after (Some a) p = nat_lt a.number p.number || (a.number == p.number && nat_lt a.position p.position)

abbrev pub is_behind : Option Place → Record → Bool
is_behind a r = is_after a (place_of r)

abbrev pub start_behind : ℕ → Option Place → ℕ
start_behind l None = 0
start_behind l (Some a) = section_of l a.number

abbrev pub sought : List ℕ → Option Place → Record → Bool
sought k a r = bears_key k r && is_behind a r

abbrev pub front : {X : Type 0} → List X → Option X
front [] = None
front (x ∷ xs) = Some x

abbrev pub least : List Record → Option Record
least rs = front (by_number rs)

abbrev pub least_from : (Record → Bool) → List Section → ℕ → Option Record
least_from t xs n = least (those t (records_of (kept_from xs n)))

abbrev pub listed_from : List Section → List ℕ → Option Place → List Place
listed_from xs k a = places_of (by_number (those (sought k a) (records_of xs)))

abbrev pub place_in : Option Record → Option Place
place_in None = None
place_in (Some r) = Some (place_of r)

abbrev pub spot_in : Option Record → Option Spot
spot_in None = None
spot_in (Some r) = Some (record { start = r.start; place = place_of r })

abbrev pub lower : Place → Option Place → Place
lower p None = p
lower p (Some b) = cond (nat_le p.number b.number) p b

abbrev pub coded_at : View → ℕ → ℕ → ℕ → Bool
coded_at v c h q = slice_index v.buckets q == bucket_of h && slice_index v.codes q == c

abbrev pub in_place : Option ℕ → Option ℕ
in_place None = None
in_place (Some x) = Some (x % 2 ^ 40)

pub record HandledAt (v : View) (i c h x : ℕ) : Type 0 where
  pub slot : x / 2 ^ 40 ≡ i
  pub inside : x % 2 ^ 40 < length v.codes
  pub coded : coded_at v c h (x % 2 ^ 40) ≡ true

abbrev pub Handled : View → ℕ → ℕ → ℕ → Option ℕ → Type 0
Handled v i c h None = Unit {0}
Handled v i c h (Some x) = HandledAt v i c h x

abbrev pub count_coded : View → ℕ → ℕ → ℕ → ℕ
count_coded v c h zero = 0
count_coded v c h (suc n) = cond (coded_at v c h n) (count_coded v c h n + 1) (count_coded v c h n)

abbrev pub candidates_in : ℕ → ℕ → View → ℕ
candidates_in c h v = count_coded v c h (length v.codes)

pub record Steps (v : View) (c h n : ℕ) (o : Option ℕ) : Type 0 where
  pub below : below_link o ≤ n
  pub between : (q : ℕ) → below_link o ≤ q → q < n → coded_at v c h q ≢ true
  pub here : (q : ℕ) → o ≡ Some q → coded_at v c h q ≡ true

pub record Coded (k : Coding) (m : Meaning) (key : List ℕ) (code hash : ℕ) : Type 0 where
  pub wide : length key ≡ m.limits.width
  pub coded : code ≡ k.translated key
  pub hashed : hash ≡ k.hashed code
