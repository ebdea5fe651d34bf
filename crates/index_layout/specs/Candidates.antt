-- The candidates of a translated key in a slot, and the first section that has one.
--   is_bearer v c b p   whether the record at position p has the translated key c, in the bucket b
--   bearers v c b n     the positions below n of which that holds, the highest first
--   walk v c b n o      the positions that one comes by who asks for the newest, which is o, and then n - 1 times for the next
--                       older; fewer where there is none any more
--   has_candidate v c b   whether the slot v has such a record
--   reaches n v         whether the slot v holds a start at or above n
--   nearer o c b n i v  the nearer to n of the best so far, o, and what the slot i holds, v, if that has a candidate
--   Offers vs c b n i s   the slot i holds the section that starts at s, which is at or above n and has such a record
--   FirstWith vs c b n r  r is the slot that offers the first start, with that start; none where no slot offers one
use Rattle.std.specs.Prelude.{◌≡◌, ℕ, zero, suc, ◌<◌, ◌≤◌, Bool, true, cond, ◌&&◌, List, [], ◌∷◌, is_some, Some, None, Option, MatchOption, ◌==◌, nat_le, nat_lt, slice_index}
use Rattle.index_layout.specs.Views.{View, newest_in, older_in, view_at, Holds, slot_count}

abbrev pub is_bearer : View → ℕ → ℕ → ℕ → Bool
is_bearer v c b p = slice_index v.buckets p == b && slice_index v.codes p == c

abbrev pub bearers : View → ℕ → ℕ → ℕ → List ℕ
bearers v c b zero = []
bearers v c b (suc n) = cond (is_bearer v c b n) (n ∷ bearers v c b n) (bearers v c b n)

abbrev pub walk : View → ℕ → ℕ → ℕ → Option ℕ → List ℕ
walk v c b zero o = []
walk v c b (suc n) None = []
walk v c b (suc n) (Some p) = p ∷ walk v c b n (older_in v c b p)

abbrev pub has_candidate : View → ℕ → ℕ → Bool
has_candidate v c b = is_some (newest_in v c b)

abbrev pub reaches : ℕ → View → Bool
reaches n v = v.used && nat_le n v.start

abbrev pub nearer : Option (ℕ × ℕ) → ℕ → ℕ → ℕ → ℕ → View → Option (ℕ × ℕ)
nearer None c b n i v = cond (reaches n v && has_candidate v c b) (Some (i, v.start)) None
nearer (Some x) c b n i v = cond ((reaches n v && nat_lt v.start x.1) && has_candidate v c b) (Some (i, v.start)) (Some x)

pub record Offers (vs : List View) (c b n i s : ℕ) : Type 0 where
  pub slot : i < slot_count
  pub holds : Holds vs i s
  pub reached : n ≤ s
  pub candidate : has_candidate (view_at vs i) c b ≡ true

pub record FirstOffer (vs : List View) (c b n i s : ℕ) : Type 0 where
  pub here : Offers vs c b n i s
  pub first : (j t : ℕ) → Offers vs c b n j t → s ≤ t

abbrev pub FirstWith : List View → ℕ → ℕ → ℕ → Option (ℕ × ℕ) → Type 0
FirstWith vs c b n r = MatchOption r ((j t : ℕ) → Offers vs c b n j t → ⊥) (λ h. FirstOffer vs c b n h.0 h.1)
