-- A sum over the slots is the sum over the sections. Assumes nothing.
use Rattle.std.proofs.Common.{◌≡◌, ℕ, ◌+◌, ◌<◌, true, false, ◌⊎◌, List, [], ◌∷◌, length, get_or, set, sym, refl, ap, ◌∙◌, inl, inr, arith, length-set, get_or-set_other, get_or-set_same}
use Rattle.std.specs.List.{AllByRecursion}
use Rattle.std.proofs.lemmas.Bool.{cond-true, cond-false, cases_Bool, cases_eq, eq-eqb, ne_eqb, and_right, both_ways}
use Rattle.journal.specs.Meaning.{Section, Row, rows_of, Rising}
use Rattle.journal.proofs.Rows.{rows_below}
use Rattle.index_layout.specs.Views.{View, free_view, view_at, Holds, Apart}
use Rattle.index_layout.specs.Held.{found, weight, total}
use Rattle.index_layout.proofs.Apart.{apart_freed}
use Rattle.index_layout.proofs.Held.{found_cases, found_at, found_none, found_set_other, total_set, total_none, Somewhere, Nowhere}
use Rattle.archive_layout.specs.Fit.{Coding, expected, full_view, Agree}

-- The sum over the sections.
abbrev pub totals : Coding → (View → ℕ) → List Section → ℕ
totals k h [] = 0
totals k h (x ∷ xs) = h (full_view k x.start x.rows) + totals k h xs

abbrev pub SomeRows : Section → Type 0
SomeRows x = 0 < length x.rows

pub expected_some : (k : Coding) (s : ℕ) (rs : List Row) → 0 < length rs → expected k s rs ≡ full_view k s rs
expected_some k s [] h = absurd (omega arith)
expected_some k s (r ∷ rs) h = refl

-- A start that is freed is held no more.
freed : (vs : List View) (i s : ℕ) → i < length vs → Holds vs i s → Apart vs → found (set vs i free_view) s ≡ free_view
freed vs i s l h apart = found_none (set vs i free_view) s none
  where
    none : Nowhere (set vs i free_view) s
    none k lk held = by (cases_eq k i)
      where
        by : (k ≡ i) ⊎ (k ≡ i → ⊥) → ⊥
        by (inl e) =
            let z : get_or (set vs i free_view) k free_view ≡ free_view = rw e (get_or-set_same vs i free_view free_view l) in
            both_ways _ (ap (λ v. v.used) z) held.0
        by (inr n) =
            let z = get_or-set_other vs i k free_view free_view n in
            let m : k < length vs = omega (arith, lk, length-set vs i free_view) in
            n (apart (record { i = k; j = i; s = s; i_below = m; j_below = l; at_i = (sym (ap (λ v. v.used) z) ∙ held.0, sym (ap (λ v. v.start) z) ∙ held.1); at_j = h }))

pub sums : (k : Coding) (h : View → ℕ) (xs : List Section) (vs : List View) (low : ℕ) → Rising low xs → AllByRecursion SomeRows xs → Apart vs → Agree k vs xs → total h vs ≡ totals k h xs
sums k h [] vs low up some apart agree =
    total_none h vs (λ i l. by i l (cases_Bool (view_at vs i).used))
  where
    by : (i : ℕ) → i < length vs → ((view_at vs i).used ≡ true) ⊎ ((view_at vs i).used ≡ false) → (view_at vs i).used ≡ false
    by i l (inl u) = ap (λ v. v.used) (sym (found_at vs i (view_at vs i).start l (u, refl) apart) ∙ agree (view_at vs i).start)
    by i l (inr u) = u
sums k h (x ∷ xs) vs low up some apart agree = by (λ us a g. sums k h xs us (x.start + 1) up.1 some.1 a g) (found_cases vs x.start)
  where
    full : found vs x.start ≡ full_view k x.start x.rows
    full = agree x.start ∙ ap (expected k x.start) (cond-true _ _ _ (eq-eqb x.start x.start refl)) ∙ expected_some k x.start x.rows some.0

    by : ((us : List View) → Apart us → Agree k us xs → total h us ≡ totals k h xs) → (Nowhere vs x.start × (found vs x.start ≡ free_view)) ⊎ Somewhere vs x.start → total h vs ≡ totals k h (x ∷ xs)
    by rest (inl none) = absurd (both_ways _ (ap (λ v. v.used) none.1) (ap (λ v. v.used) full))
    by rest (inr at) =
        let view : view_at vs at.slot ≡ full_view k x.start x.rows = sym at.is ∙ full in
        let w : weight h (view_at vs at.slot) ≡ h (full_view k x.start x.rows) = ap (weight h) view in
        let t = total_set h vs at.slot free_view at.below in
        let again = rest (set vs at.slot free_view) (apart_freed vs at.slot at.below apart) (λ s. left s (cases_eq x.start s)) in
        omega arith
      where
        left : (s : ℕ) → (x.start ≡ s) ⊎ (x.start ≡ s → ⊥) → found (set vs at.slot free_view) s ≡ expected k s (rows_of xs s)
        left s (inl e) =
            let n : s < x.start + 1 = omega arith in
            freed vs at.slot s at.below (at.here.0, at.here.1 ∙ e) apart ∙ sym (ap (expected k s) (rows_below (x.start + 1) xs s up.1 n))
        left s (inr n) =
            found_set_other vs at.slot free_view s refl (and_right _ _ (ne_eqb _ _ (λ p. n (sym at.here.1 ∙ p))))
            ∙ agree s ∙ ap (expected k s) (cond-false _ _ _ (ne_eqb _ _ n))
