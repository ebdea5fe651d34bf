-- The places of a box number, kind by kind: what a search among those of one kind says of the first bad place.
--   letters, digits   what such a search says
--   letter_bad, category_bad, digit_bad, check_bad   it is this one
--   three_right, four_right, ten_right, all_right    those so far are right
use Rattle.std.proofs.Common.{◌≡◌, ℕ, ◌<◌, ◌≤◌, ltb, eqb, true, false, List, Some, None, Option, MatchOption, sym, ◌∙◌, subst, ⊎_elim, arith}
use Rattle.std.specs.Prelude.{slice_index, ◌%◌}
use Rattle.std.proofs.lemmas.Bool.{cond-true, cond-false, lt-ltb, le-ltb, ne_eqb, cases_order}
use Rattle.keys.specs.Iso.{is_letter, is_digit, is_category, shows, digit_of, check_sum, place_ok, RightBelow, FirstBad}

module _ (xs : List ℕ) where
  abbrev pub letters : Option ℕ → Type 0
  letters r = MatchOption r ((k : ℕ) → 0 ≤ k → k < 3 → is_letter (slice_index xs k) ≡ true)
      (λ p. (0 ≤ p) × (p < 3) × (is_letter (slice_index xs p) ≡ false) × ((k : ℕ) → 0 ≤ k → k < p → is_letter (slice_index xs k) ≡ true))

  abbrev pub digits : Option ℕ → Type 0
  digits r = MatchOption r ((k : ℕ) → 4 ≤ k → k < 10 → is_digit (slice_index xs k) ≡ true)
      (λ p. (4 ≤ p) × (p < 10) × (is_digit (slice_index xs p) ≡ false) × ((k : ℕ) → 4 ≤ k → k < p → is_digit (slice_index xs k) ≡ true))

  letter_at : (p : ℕ) → p < 3 → place_ok xs p ≡ is_letter (slice_index xs p)
  letter_at p l = cond-true (ltb p 3) _ _ (lt-ltb p 3 l)

  digit_at : (p : ℕ) → 4 ≤ p → p < 10 → place_ok xs p ≡ is_digit (slice_index xs p)
  digit_at p a l =
      cond-false (ltb p 3) _ _ (le-ltb p 3 (omega arith)) ∙ cond-false (eqb p 3) _ _ (ne_eqb p 3 (λ e. omega (arith, e))) ∙ cond-true (ltb p 10) _ _ (lt-ltb p 10 l)

  pub letter_bad : (r : Option ℕ) (p : ℕ) → r ≡ Some p → letters r → FirstBad xs (Some p)
  letter_bad r p e f =
      let h = subst letters e f in
      (omega (arith, h.1), letter_at p h.1 ∙ h.2, λ q l. letter_at q (omega (arith, l, h.1)) ∙ h.3 q (omega arith) l)

  pub three_right : (r : Option ℕ) → r ≡ None → letters r → RightBelow xs 3
  three_right r e f = let h = subst letters e f in λ q l. letter_at q l ∙ h q (omega arith) l

  pub category_bad : RightBelow xs 3 → is_category (slice_index xs 3) ≡ false → FirstBad xs (Some 3)
  category_bad r e = (omega arith, e, r)

  pub four_right : RightBelow xs 3 → is_category (slice_index xs 3) ≡ true → RightBelow xs 4
  four_right r e q l = ⊎_elim (λ s. subst (λ (k : ℕ). place_ok xs k ≡ true) (sym s) e) (⊎_elim (λ o. r q o) (λ o. absurd (omega arith))) (cases_order q 3)

  pub digit_bad : (r : Option ℕ) (p : ℕ) → r ≡ Some p → digits r → RightBelow xs 4 → FirstBad xs (Some p)
  digit_bad r p e f four =
      let h = subst digits e f in (
        omega (arith, h.1),
        digit_at p h.0 h.1 ∙ h.2,
        λ q l. ⊎_elim (λ s. digit_at q (omega (arith, s)) (omega (arith, l, h.1)) ∙ h.3 q (omega (arith, s)) l)
            (⊎_elim (λ o. four q o) (λ o. digit_at q (omega (arith, o)) (omega (arith, l, h.1)) ∙ h.3 q (omega (arith, o)) l)) (cases_order q 4),
      )

  pub ten_right : (r : Option ℕ) → r ≡ None → digits r → RightBelow xs 4 → RightBelow xs 10
  ten_right r e f four =
      let h = subst digits e f in
      λ q l. ⊎_elim (λ s. digit_at q (omega (arith, s)) l ∙ h q (omega (arith, s)) l)
      (⊎_elim (λ o. four q o) (λ o. digit_at q (omega (arith, o)) l ∙ h q (omega (arith, o)) l)) (cases_order q 4)

  pub check_bad : RightBelow xs 10 → shows (digit_of (check_sum xs % 11)) (slice_index xs 10) ≡ false → FirstBad xs (Some 10)
  check_bad r e = (omega arith, e, r)

  pub all_right : RightBelow xs 10 → shows (digit_of (check_sum xs % 11)) (slice_index xs 10) ≡ true → FirstBad xs None
  all_right r e q l = ⊎_elim (λ s. subst (λ (k : ℕ). place_ok xs k ≡ true) (sym s) e) (⊎_elim (λ o. r q o) (λ o. absurd (omega arith))) (cases_order q 10)
