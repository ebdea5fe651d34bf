-- Walks along the records of a number, as loops make them. Assumes nothing.
use Rattle.std.proofs.Common.{◌≡◌, ℕ, ◌+◌, ◌<◌, ◌≤◌, true, false, eqb, ◌⊎◌, List, [], ◌∷◌, ◌++◌, length, drop, is_some, Some, None, Option, sym, ap, ◌∙◌, subst, inl, inr, arith, length-append}
use Rattle.std.specs.List.{AllByRecursion, slice_get}
use Rattle.std.proofs.lemmas.List.{drop_at, length-map, map-append}
use Rattle.std.proofs.lemmas.Bool.{cond-true, cond-false, cond_both, cases_Bool, eq-eqb, both_ways}
use Rattle.journal.specs.Meaning.{Meaning, Section, Row, Within, rows_of, row_at}
use Rattle.rules.specs.State.{Record, place_of, records_of, those, some_in, same_bytes, bears_number, bears_both, places_of}
use Rattle.index_layout.specs.Views.{View, first_in, next_in}
use Rattle.index_layout.specs.Held.{found}
use Rattle.archive_layout.specs.Fit.{Coding}
use Rattle.archive_layout.specs.Walks.{filed_at, rest, from_link, WalksNumber}
use Rattle.archive_layout.specs.Keys.{front, spot_in}
use Rattle.archive_layout.specs.Promises.{bearer_of, Numbered}
use Rattle.archive_layout.proofs.Fits.{small}
use Rattle.archive_layout.proofs.Rests.{rest_yes}
use Rattle.archive_layout.proofs.Numbers.{at_home}
use Rattle.archive_layout.proofs.Chains.{begins, goes_on, ends, length_rest, both_under, both_none, both_some}

module _ {k : Coding} {width l n s offset : ℕ} {m : Meaning} {vs : List View} (at : Numbered k width l m vs n s offset) where
  pub came_none : (o : Option ℕ) → o ≡ first_in (found vs s) offset → WalksNumber n s (rows_of m.sections s) [] o
  came_none o e = begins k width l m vs n s at.fit at.lawful at.home o (e ∙ ap (first_in (found vs s)) at.near)

  -- The record that a link names, and the walk behind it.
  module _ (done : List Record) (o : Option ℕ) (q : ℕ) (w : WalksNumber n s (rows_of m.sections s) done o) (e : o ≡ Some q) where
    here : (r : Row) × (slice_get (rows_of m.sections s) q ≡ Some r) × (r.label.number ≡ n)
    here = w.here q e

    pub came_at : Record
    came_at = filed_at s q here.0

    pub place_at : place_of came_at ≡ record { number = n; position = q }
    unfolding came_at
    place_at = ap (λ i. record { number = i; position = q }) here.2

    pub row_found : row_at m s q ≡ Some came_at.row
    unfolding came_at
    row_found = here.1

    pub came_more : (p : Option ℕ) → p ≡ next_in (found vs s) q → WalksNumber n s (rows_of m.sections s) (done ++ came_at ∷ []) p
    unfolding came_at
    came_more p f = goes_on k width l m vs n s at.fit at.lawful at.home done q here.0 p (subst (λ x. WalksNumber n s (rows_of m.sections s) done x) e w) here.1 here.2 f

    -- There are more than the walk has come by.
    pub came_less : length done < length (those (bears_number n) (records_of m.sections))
    came_less =
        let x = subst (λ y. WalksNumber n s (rows_of m.sections s) done y) e w in
        let a = ap length (at_home k width l m vs n s at.fit at.lawful at.home ∙ x.all ∙ ap (λ ys. done ++ ys) (rest_yes (bears_number n) s (rows_of m.sections s) q here.0 here.1 (eq-eqb _ _ here.2))) in
        let b = length-append done (filed_at s q here.0 ∷ rest (bears_number n) s (rows_of m.sections s) (q + 1)) in
        omega arith

    -- Its place follows those of the walk in a listing.
    pub listed_there : drop (length done) (places_of (those (bears_number n) (records_of m.sections))) ≡ record { number = n; position = q } ∷ places_of (rest (bears_number n) s (rows_of m.sections s) (q + 1))
    unfolding came_at
    listed_there =
        let x = subst (λ y. WalksNumber n s (rows_of m.sections s) done y) e w in
        ap (λ ys. drop (length done) (places_of ys)) (at_home k width l m vs n s at.fit at.lawful at.home ∙ x.all ∙ ap (λ ys. done ++ ys) (rest_yes (bears_number n) s (rows_of m.sections s) q here.0 here.1 (eq-eqb _ _ here.2)))
        ∙ ap (drop (length done)) (map-append place_of done (filed_at s q here.0 ∷ rest (bears_number n) s (rows_of m.sections s) (q + 1)))
        ∙ drop_at (places_of done) (places_of (filed_at s q here.0 ∷ rest (bears_number n) s (rows_of m.sections s) (q + 1))) (length done) (length-map done place_of)
        ∙ ap (λ y. y ∷ places_of (rest (bears_number n) s (rows_of m.sections s) (q + 1))) place_at

  pub came_all : (done : List Record) (o : Option ℕ) → o ≡ None → WalksNumber n s (rows_of m.sections s) done o → those (bears_number n) (records_of m.sections) ≡ done
  came_all done o e w = ends k width l m vs n s at.fit at.lawful at.home done (subst (λ x. WalksNumber n s (rows_of m.sections s) done x) e w)

  -- No number has more records than a section has rows.
  pub came_most : length (those (bears_number n) (records_of m.sections)) ≤ 128
  came_most =
      let a = ap length (at_home k width l m vs n s at.fit at.lawful at.home) in
      let b = length_rest (bears_number n) s 0 (rows_of m.sections s) in
      let c = rows_few m.sections at.lawful.within in
      let d = (small m.limits at.fit.limits).rows in
      omega arith
    where
      rows_few : (xs : List Section) → AllByRecursion (Within m.limits) xs → length (rows_of xs s) ≤ m.limits.rows
      rows_few [] h = omega arith
      rows_few (x ∷ xs) h = cond_both (eqb x.start s) x.rows (rows_of xs s) (λ ys. length ys ≤ m.limits.rows) (λ _. h.0.rows) (λ _. rows_few xs h.1)

  pub came_length : (done : List Record) (o : Option ℕ) → WalksNumber n s (rows_of m.sections s) done o → length done ≤ length (those (bears_number n) (records_of m.sections))
  came_length done o w =
      let a = ap length (at_home k width l m vs n s at.fit at.lawful at.home ∙ w.all) in
      let b = length-append done (rest (bears_number n) s (rows_of m.sections s) (from_link o (length (rows_of m.sections s)))) in
      omega arith

  -- Where the earliest record lies.
  pub first_there : (o : Option ℕ) (q : ℕ) → o ≡ Some q → WalksNumber n s (rows_of m.sections s) [] o
      → Some (record { start = s; place = record { number = n; position = q } }) ≡ spot_in (front (those (bears_number n) (records_of m.sections)))
  first_there o q e w =
      let h = w.here q e in
      let x = subst (λ y. WalksNumber n s (rows_of m.sections s) [] y) e w in
      sym (ap (λ ys. spot_in (front ys)) (at_home k width l m vs n s at.fit at.lawful at.home ∙ x.all ∙ rest_yes (bears_number n) s (rows_of m.sections s) q h.0 h.1 (eq-eqb _ _ h.2))
      ∙ ap (λ i. Some (record { start = s; place = record { number = i; position = q } })) h.2)

  -- Records that bear a key beside the number.
  module _ (key : List ℕ) where
    pub both_missed : (done : List Record) (o : Option ℕ) (q : ℕ) (w : WalksNumber n s (rows_of m.sections s) done o) (e : o ≡ Some q) (hit : Option ℕ)
        → hit ≡ bearer_of (row_at m s q) key → is_some hit ≡ false → those (bears_both n key) done ≡ [] → those (bears_both n key) (done ++ came_at done o q w e ∷ []) ≡ []
    unfolding came_at
    both_missed done o q w e hit is miss none = both_none n s q key done (here done o q w e).0 none (not_same (cases_Bool (same_bytes (here done o q w e).0.key key)))
      where
        not_same : (same_bytes (here done o q w e).0.key key ≡ true) ⊎ (same_bytes (here done o q w e).0.key key ≡ false) → same_bytes (here done o q w e).0.key key ≡ false
        not_same (inr f) = f
        not_same (inl t) = absurd (both_ways (is_some hit) miss (ap is_some (is ∙ ap (λ x. bearer_of x key) (here done o q w e).1 ∙ cond-true _ _ _ t)))

    pub both_met : (done : List Record) (o : Option ℕ) (q : ℕ) (w : WalksNumber n s (rows_of m.sections s) done o) (e : o ≡ Some q) (hit : Option ℕ)
        → hit ≡ bearer_of (row_at m s q) key → is_some hit ≡ true → true ≡ some_in (those (bears_both n key) (records_of m.sections))
    both_met done o q w e hit is met =
        let h = here done o q w e in
        sym (ap some_in (sym (both_under n key (records_of m.sections))) ∙ ap (λ ys. some_in (those (bears_both n key) ys)) (at_home k width l m vs n s at.fit at.lawful at.home)
        ∙ both_some n s q key (rows_of m.sections s) done h.0 (subst (λ x. WalksNumber n s (rows_of m.sections s) done x) e w) h.1 h.2 (same (cases_Bool (same_bytes h.0.key key))))
      where
        same : (same_bytes (here done o q w e).0.key key ≡ true) ⊎ (same_bytes (here done o q w e).0.key key ≡ false) → same_bytes (here done o q w e).0.key key ≡ true
        same (inl t) = t
        same (inr f) = absurd (both_ways (is_some hit) (ap is_some (is ∙ ap (λ x. bearer_of x key) (here done o q w e).1 ∙ cond-false _ _ _ f)) met)

    pub both_absent : (done : List Record) (o : Option ℕ) → o ≡ None → WalksNumber n s (rows_of m.sections s) done o → those (bears_both n key) done ≡ [] → false ≡ some_in (those (bears_both n key) (records_of m.sections))
    both_absent done o e w none =
        sym (ap some_in (sym (both_under n key (records_of m.sections)) ∙ ap (those (bears_both n key)) (came_all done o e w) ∙ none))
