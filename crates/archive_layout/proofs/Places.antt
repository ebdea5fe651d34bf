-- What a link says of all places. Assumes nothing.
use Rattle.std.proofs.Common.{◌≡◌, ℕ, zero, suc, ◌<◌, Bool, true, false, cond, ◌&&◌, eqb, ltb, ◌⊎◌, List, get_or, sym, refl, ap, ◌∙◌, subst, inl, inr, ⊎_elim, arith}
use Rattle.std.proofs.lemmas.Bool.{cond-true, cond-false, cases_Bool, cases_eq, eq-eqb, ne_eqb, both_ways}
use Rattle.index_layout.specs.Links.{earliest, following, matching}

-- The first place below n, and the last, that passes a test.
abbrev pub first_place : (ℕ → Bool) → ℕ → ℕ
first_place t zero = 0
first_place t (suc n) = cond (eqb (first_place t n) 0) (cond (t n) (suc n) 0) (first_place t n)

abbrev pub last_place : (ℕ → Bool) → ℕ → ℕ
last_place t zero = 0
last_place t (suc n) = cond (t n) (suc n) (last_place t n)

pub earliest_is : (xs : List ℕ) (v n : ℕ) → earliest xs v n ≡ first_place (λ q. eqb (get_or xs q 0) v) n
earliest_is xs v zero = refl
earliest_is xs v (suc n) = ap (λ e. cond (eqb e 0) (cond (eqb (get_or xs n 0) v) (suc n) 0) e) (earliest_is xs v n)

pub following_is : (xs : List ℕ) (p n : ℕ) → following xs p n ≡ first_place (λ q. ltb p q && eqb (get_or xs q 0) (get_or xs p 0)) n
following_is xs p zero = refl
following_is xs p (suc n) = ap (λ e. cond (eqb e 0) (cond (ltb p n && eqb (get_or xs n 0) (get_or xs p 0)) (suc n) 0) e) (following_is xs p n)

pub matching_is : (xs ys : List ℕ) (v w n : ℕ) → matching xs ys v w n ≡ last_place (λ q. eqb (get_or xs q 0) v && eqb (get_or ys q 0) w) n
matching_is xs ys v w zero = refl
matching_is xs ys v w (suc n) = ap (λ e. cond (eqb (get_or xs n 0) v && eqb (get_or ys n 0) w) (suc n) e) (matching_is xs ys v w n)

module _ (t : ℕ → Bool) where
  pub first_none : (n : ℕ) → first_place t n ≡ 0 → (p : ℕ) → p < n → t p ≡ true → ⊥
  first_none zero h p l e = omega arith
  first_none (suc n) h p l e = by (λ z k. first_none n z p k e) (cases_eq (first_place t n) 0) (cases_Bool (t n))
    where
      by : (first_place t n ≡ 0 → p < n → ⊥) → (first_place t n ≡ 0) ⊎ (first_place t n ≡ 0 → ⊥) → (t n ≡ true) ⊎ (t n ≡ false) → ⊥
      by again (inr z) c = z (sym (cond-false _ _ _ (ne_eqb (first_place t n) 0 z)) ∙ h)
      by again (inl z) (inl c) =
          let q : suc n ≡ 0 = sym (cond-true _ _ _ (eq-eqb (first_place t n) 0 z) ∙ cond-true _ _ _ c) ∙ h in omega arith
      by again (inl z) (inr c) = ⊎_elim (λ q. both_ways (t n) c (subst (λ i. t i ≡ true) q e)) (λ q. again z (omega (arith, q))) (cases_eq p n)

  pub record First (n p : ℕ) : Type 0 where
    pub below : p < n
    pub here : t p ≡ true
    pub before : (q : ℕ) → q < p → t q ≡ true → ⊥

  pub first_some : (n p : ℕ) → first_place t n ≡ suc p → First n p
  first_some zero p h = absurd (omega arith)
  first_some (suc n) p h = by (cases_eq (first_place t n) 0) (cases_Bool (t n)) (λ e. first_some n p e)
    where
      by : (first_place t n ≡ 0) ⊎ (first_place t n ≡ 0 → ⊥) → (t n ≡ true) ⊎ (t n ≡ false) → (first_place t n ≡ suc p → First n p) → First (suc n) p
      by (inr z) c again =
          let f = again (sym (cond-false _ _ _ (ne_eqb (first_place t n) 0 z)) ∙ h) in
          record { below = omega (arith, f.below); here = f.here; before = f.before }
      by (inl z) (inl c) again =
          let q : suc n ≡ suc p = sym (cond-true _ _ _ (eq-eqb (first_place t n) 0 z) ∙ cond-true _ _ _ c) ∙ h in
          let e : n ≡ p = omega arith in
          record { below = omega arith; here = subst (λ i. t i ≡ true) e c; before = λ j l. first_none n z j (omega arith) }
      by (inl z) (inr c) again =
          let q : 0 ≡ suc p = sym (cond-true _ _ _ (eq-eqb (first_place t n) 0 z) ∙ cond-false _ _ _ c) ∙ h in absurd (omega arith)

  pub last_none : (n : ℕ) → last_place t n ≡ 0 → (p : ℕ) → p < n → t p ≡ true → ⊥
  last_none zero h p l e = omega arith
  last_none (suc n) h p l e = by (cases_Bool (t n)) (λ z k. last_none n z p k e)
    where
      by : (t n ≡ true) ⊎ (t n ≡ false) → (last_place t n ≡ 0 → p < n → ⊥) → ⊥
      by (inl c) again = let q : suc n ≡ 0 = sym (cond-true _ _ _ c) ∙ h in omega arith
      by (inr c) again = ⊎_elim (λ q. both_ways (t n) c (subst (λ i. t i ≡ true) q e)) (λ q. again (sym (cond-false _ _ _ c) ∙ h) (omega (arith, q))) (cases_eq p n)

  pub record Last (n p : ℕ) : Type 0 where
    pub below : p < n
    pub here : t p ≡ true
    pub after : (q : ℕ) → p < q → q < n → t q ≡ true → ⊥

  pub last_some : (n p : ℕ) → last_place t n ≡ suc p → Last n p
  last_some zero p h = absurd (omega arith)
  last_some (suc n) p h = by (cases_Bool (t n)) (λ e. last_some n p e)
    where
      by : (t n ≡ true) ⊎ (t n ≡ false) → (last_place t n ≡ suc p → Last n p) → Last (suc n) p
      by (inl c) again =
          let q : suc n ≡ suc p = sym (cond-true _ _ _ c) ∙ h in
          let e : n ≡ p = omega arith in
          record { below = omega arith; here = subst (λ i. t i ≡ true) e c; after = λ j l k _. omega arith }
      by (inr c) again =
          let f = again (sym (cond-false _ _ _ c) ∙ h) in
          record {
            below = omega (arith, f.below);
            here = f.here;
            after = λ j l k y. ⊎_elim (λ (q : j ≡ n). both_ways (t n) c (subst (λ i. t i ≡ true) q y)) (λ q. f.after j l (omega (arith, q)) y) (cases_eq j n);
          }
