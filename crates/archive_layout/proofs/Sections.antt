-- The index goes through the sections as the journal's meaning has them. Assumes nothing.
use Rattle.std.proofs.Common.{◌≡◌, ℕ, ◌+◌, ◌<◌, ◌≤◌, true, false, eqb, ◌⊎◌, List, [], ◌∷◌, length, Some, Option, sym, refl, ap, ◌∙◌, subst, inl, inr, ⊎_elim, arith}
use Rattle.std.specs.List.{AllByRecursion}
use Rattle.std.proofs.lemmas.Bool.{cond-true, cond-false, cases_lt, eq-eqb, ne_eqb, both_ways, lt-ltb, le-ltb}
use Rattle.journal.specs.Meaning.{Section, Row, rows_of, first_from, Rising}
use Rattle.journal.specs.declared.limits.Limits.{Limits}
use Rattle.journal.proofs.Rows.{rows_kept_from, rows_gone}
use Rattle.journal.proofs.Walks.{Leads, first_some}
use Rattle.index_layout.specs.Views.{View, view_at, Holds, Apart}
use Rattle.index_layout.proofs.Held.{found_cases, found_at, Somewhere}
use Rattle.archive_layout.specs.Fit.{Coding, expected, full_view, Agree}
use Rattle.archive_layout.proofs.Sums.{SomeRows, expected_some}

-- A start that a slot holds has rows.
used_rows : (k : Coding) (s : ℕ) (rs : List Row) → (expected k s rs).used ≡ true → 0 < length rs
used_rows k s [] h = absurd (both_ways _ refl h)
used_rows k s (r ∷ rs) h = omega arith

module _ (k : Coding) (vs : List View) (xs : List Section) (agree : Agree k vs xs) where
  pub slot_rows : (i s : ℕ) → i < length vs → Holds vs i s → Apart vs → 0 < length (rows_of xs s)
  slot_rows i s l h apart = used_rows k s (rows_of xs s) (sym (ap (λ v. v.used) (sym (found_at vs i s l h apart) ∙ agree s)) ∙ h.0)

  pub slot_view : (i s : ℕ) → i < length vs → Holds vs i s → Apart vs → view_at vs i ≡ full_view k s (rows_of xs s)
  slot_view i s l h apart = sym (found_at vs i s l h apart) ∙ agree s ∙ expected_some k s (rows_of xs s) (slot_rows i s l h apart)

  pub rows_slot : (s : ℕ) → 0 < length (rows_of xs s) → Somewhere vs s
  rows_slot s h =
      ⊎_elim
      (λ none. absurd (both_ways _ (ap (λ v. v.used) none.1) (ap (λ v. v.used) (agree s ∙ expected_some k s (rows_of xs s) h))))
      (λ some. some)
      (found_cases vs s)

pub no_rows : (rs : List Row) → rs ≡ [] → 0 < length rs → ⊥
no_rows rs e h = let z = ap length e in omega arith

-- What has rows at or above n comes at or behind the first start.
pub behind_first : (low n s t : ℕ) (xs : List Section) → Rising low xs → first_from xs n ≡ Some s → n ≤ t → 0 < length (rows_of xs t) → s ≤ t
behind_first low n s t xs up e h some = by (cases_lt t s)
  where
    k : Leads low n s xs
    k = first_some low n s xs up e

    by : (t < s) ⊎ (s ≤ t) → s ≤ t
    by (inr le) = le
    by (inl lt) =
        let q : eqb k.section.start t ≡ false = ne_eqb _ _ (λ z. omega (arith, z, k.start, lt)) in
        let w : rows_of xs t ≡ [] = sym (rows_kept_from xs n t h) ∙ ap (λ ys. rows_of ys t) k.rest ∙ cond-false _ _ _ q ∙ rows_gone xs (s + 1) t (omega arith) in
        absurd (no_rows (rows_of xs t) w some)

pub first_rows : (low n s : ℕ) (l : Limits) (xs : List Section) → Rising low xs → AllByRecursion SomeRows xs → first_from xs n ≡ Some s → 0 < length (rows_of xs s)
first_rows low n s l [] up some e = let z : ◌≡◌ {A = ℕ} 0 1 = cc in absurd (omega arith)
first_rows low n s l (x ∷ xs) up some e = by (cases_lt x.start n) (λ f. first_rows (x.start + 1) n s l xs up.1 some.1 f)
  where
    by : (x.start < n) ⊎ (n ≤ x.start) → (first_from xs n ≡ Some s → 0 < length (rows_of xs s)) → 0 < length (rows_of (x ∷ xs) s)
    by (inl lt) again =
        let f : first_from xs n ≡ Some s = sym (cond-true _ _ _ (lt-ltb _ _ lt)) ∙ e in
        let a = first_some (x.start + 1) n s xs up.1 f in
        subst (λ (rs : List Row). 0 < length rs) (sym (cond-false _ x.rows (rows_of xs s) (ne_eqb x.start s (λ z. omega (arith, z, a.above))))) (again f)
    by (inr le) again =
        let f : ◌≡◌ {A = Option ℕ} (Some x.start) (Some s) = sym (cond-false _ _ _ (le-ltb _ _ le)) ∙ e in
        let q : x.start ≡ s = cc in
        subst (λ (rs : List Row). 0 < length rs) (sym (cond-true _ x.rows (rows_of xs s) (eq-eqb x.start s q))) some.0
