-- The first start and whether a section goes, slot after slot. Assumes nothing.
use Rattle.std.proofs.Common.{◌≡◌, ℕ, zero, suc, ◌<◌, ◌≤◌, true, false, eqb, ltb, leb, length, Some, None, Option, sym, refl, ◌∙◌, subst, ⊎_elim, arith}
use Rattle.std.proofs.lemmas.Bool.{cond_both, eqb-true, eqb-false, ltb-true, ltb-false, leb-true, leb-false, lt-ltb, cases_lt, cases_Bool, or_cases, or_parts, and_parts, and_from, both_ways}
use Rattle.journal.specs.Meaning.{first_from}
use Rattle.journal.specs.Calls.{any_below}
use Rattle.journal.specs.Slots.{Pages, kept_in, Distinct, closer, first_of, gone_of}
use Rattle.journal.proofs.Pages.{no_first, first, nothing_below, something_below}

above_zero : (n : ℕ) → (n ≡ 0 → ⊥) → 0 < n
above_zero zero h = absurd (h refl)
above_zero (suc n) h = omega arith

module _ (f : Pages) (from : ℕ) where
  -- What the best start of the first n slots tells.
  abbrev First : ℕ → Option ℕ → Type 0
  First n None = (i : ℕ) → i < n → 0 < length (f i).rows → (f i).start < from
  First n (Some k) =
      (from ≤ k) × ((t : ℕ) × (t < n) × (0 < length (f t).rows) × ((f t).start ≡ k))
      × ((i : ℕ) → i < n → 0 < length (f i).rows → from ≤ (f i).start → k ≤ (f i).start)

  last : (n : ℕ) (P : ℕ → Type 0) → ((i : ℕ) → i < n → P i) → P n → (i : ℕ) → i < suc n → P i
  last n P g p i h = ⊎_elim (λ l. g i l) (λ l. let e : n ≡ i = omega arith in subst P e p) (cases_lt i n)

  -- A slot that does not count.
  passed : (n : ℕ) (o : Option ℕ) → First n o → (0 < length (f n).rows → (f n).start < from) → First (suc n) o
  passed n None g p = last n (λ i. 0 < length (f i).rows → (f i).start < from) g p
  passed n (Some k) g p =
      let w = g.1 in
      (g.0, (w.0, omega (arith, w.1), w.2, w.3), last n (λ i. 0 < length (f i).rows → from ≤ (f i).start → k ≤ (f i).start) g.2 (λ a b. let c = p a in absurd (omega arith)))

  came : (n : ℕ) (o : Option ℕ) → First n o → 0 < length (f n).rows → from ≤ (f n).start → First (suc n) (closer o (f n).start)
  came n None g c l =
      (l, (n, omega arith, c, refl), last n (λ i. 0 < length (f i).rows → from ≤ (f i).start → (f n).start ≤ (f i).start) (λ i h a b. let z = g i h a in absurd (omega arith)) (λ a b. omega arith))
  came n (Some b) g c l =
      let w = g.1 in
      cond_both (leb b (f n).start) _ _ (First (suc n))
      (λ e. (g.0, (w.0, omega (arith, w.1), w.2, w.3), last n (λ i. 0 < length (f i).rows → from ≤ (f i).start → b ≤ (f i).start) g.2 (λ a d. leb-true _ _ e)))
      (λ e. (l, (n, omega arith, c, refl), last n (λ i. 0 < length (f i).rows → from ≤ (f i).start → (f n).start ≤ (f i).start) (λ i h a d. let z = g.2 i h a d in let y = leb-false _ _ e in omega arith) (λ a d. omega arith)))

  so_far : (n : ℕ) → First n (first_of f from n)
  so_far zero = λ i h. absurd (omega arith)
  so_far (suc n) =
      cond_both (eqb (length (f n).rows) 0) _ _ (First (suc n))
      (λ e. passed n (first_of f from n) (so_far n) (λ c. let z = eqb-true _ _ e in absurd (omega arith)))
      (λ e. cond_both (ltb (f n).start from) _ _ (First (suc n))
      (λ l. passed n (first_of f from n) (so_far n) (λ c. ltb-true _ _ l))
      (λ l. came n (first_of f from n) (so_far n) (let z = eqb-false _ _ e in above_zero (length (f n).rows) z) (ltb-false _ _ l)))

  pub first_is : (n : ℕ) → Distinct f n → first_of f from n ≡ first_from (kept_in f n) from
  first_is n d = by (first_of f from n) (so_far n)
    where
      by : (o : Option ℕ) → First n o → o ≡ first_from (kept_in f n) from
      by None g = sym (no_first f n from g)
      by (Some k) g = let w = g.1 in sym (first f n d from w.0 k w.1 w.2 w.3 g.0 g.2)

module _ (f : Pages) (min : ℕ) where
  went : (n : ℕ) → gone_of f min n ≡ true → (t : ℕ) × (t < n) × (0 < length (f t).rows) × ((f t).start < min)
  went zero h = absurd (both_ways false refl h)
  went (suc n) h =
      ⊎_elim
      (λ e. let w = went n e in (w.0, omega (arith, w.1), w.2, w.3))
      (λ e. let w = and_parts _ _ e in (n, omega arith, ltb-true _ _ w.0, ltb-true _ _ w.1))
      (or_cases _ _ h)

  stayed : (n : ℕ) → gone_of f min n ≡ false → (i : ℕ) → i < n → 0 < length (f i).rows → min ≤ (f i).start
  stayed zero h i l q = absurd (omega arith)
  stayed (suc n) h i l q =
      let w = or_parts _ _ h in
      ⊎_elim (λ z. stayed n w.0 i z q)
      (λ z. let e : i ≡ n = omega arith in
      ⊎_elim (λ b. absurd (both_ways _ w.1 (and_from _ _ (lt-ltb _ _ (subst (λ k. 0 < length (f k).rows) e q)) (lt-ltb _ _ (subst (λ k. (f k).start < min) e b))))) (λ b. b) (cases_lt (f i).start min))
      (cases_lt i n)

  pub gone_is : (n : ℕ) → gone_of f min n ≡ any_below (kept_in f n) min
  gone_is n =
      ⊎_elim
      (λ e. let w = went n e in e ∙ sym (something_below f n min w.0 w.1 w.2 w.3))
      (λ e. e ∙ sym (nothing_below f n min (stayed n e)))
      (cases_Bool (gone_of f min n))
