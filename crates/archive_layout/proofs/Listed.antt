-- Listings that were counted and filled, by the rules. Assumes nothing.
use Rattle.std.proofs.Common.{◌≡◌, ℕ, ◌≤◌, Bool, List, ◌++◌, length, take, drop, Some, None, Ok, sym, ap, ◌∙◌, arith}
use Rattle.std.proofs.lemmas.List.{take_all}
use Rattle.rules.specs.declared.answer.Place.{Place}
use Rattle.rules.specs.State.{State, Record, kept, those, bears_number, bears_key, by_number, places_of}
use Rattle.law.proofs.Sorted.{length_sorted}
use Rattle.archive_layout.specs.Keys.{listed_from}
use Rattle.archive_layout.proofs.Gets.{ListingIs, listing_fits}
use Rattle.archive_layout.proofs.Chains.{listed_number}
use Rattle.archive_layout.proofs.Listing.{from_none}

module _ {X : Type 0} (s : State) (x : X) (l : ℕ) (size : s.size ≡ Some l) (ps filled : List Place) (count b : ℕ) (le : count ≤ length ps) (same : b ≡ count) where
  by_order : (t : Record → Bool) → count ≡ length (those t (kept s)) → filled ≡ take b (places_of (by_number (those t (kept s)))) → ListingIs s t x ps (filled ++ drop count ps) (Ok x)
  by_order t is to =
      let n = length_sorted (those t (kept s)) in
      listing_fits s t x l size ps (filled ++ drop count ps) count is le
      (ap (λ ys. ys ++ drop count ps) (to ∙ take_all b (places_of (by_number (those t (kept s)))) (omega (arith, n, is, same))))

  pub listed_by_number : (n : ℕ) → count ≡ length (those (bears_number n) (kept s)) → filled ≡ take b (places_of (those (bears_number n) (kept s))) → ListingIs s (bears_number n) x ps (filled ++ drop count ps) (Ok x)
  listed_by_number n is to = by_order (bears_number n) is (to ∙ ap (λ rs. take b (places_of rs)) (sym (listed_number n (kept s))))

  pub listed_by_key : (key : List ℕ) → count ≡ length (those (bears_key key) (kept s)) → filled ≡ take b (listed_from s.journal.sections key None) → ListingIs s (bears_key key) x ps (filled ++ drop count ps) (Ok x)
  listed_by_key key is to = by_order (bears_key key) is (to ∙ ap (take b) (from_none key s.journal.sections))
