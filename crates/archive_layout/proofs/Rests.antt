-- What is left of a section's records as a walk goes from position to position. Assumes nothing.
use Rattle.std.proofs.Common.{◌≡◌, ℕ, zero, suc, ◌+◌, ◌-◌, ◌<◌, ◌≤◌, Bool, true, false, ◌⊎◌, List, [], ◌∷◌, length, drop, Some, None, Option, sym, refl, ap, ◌∙◌, inl, inr, arith}
use Rattle.std.specs.List.{slice_get}
use Rattle.std.proofs.lemmas.Bool.{cond-true, cond-false, cases_Bool}
use Rattle.std.proofs.lemmas.List.{drop_all}
use Rattle.journal.specs.Meaning.{Row}
use Rattle.rules.specs.State.{Record, filed, those}
use Rattle.archive_layout.specs.Walks.{filed_at, rest}

pub drop_at : {X : Type 0} (xs : List X) (q : ℕ) (x : X) → slice_get xs q ≡ Some x → drop q xs ≡ x ∷ drop (q + 1) xs
drop_at [] q x h = let z : ◌≡◌ {A = ℕ} 0 1 = cc in absurd (omega arith)
drop_at (y ∷ xs) zero x h = let e : y ≡ x = cc in ap (λ z. z ∷ xs) e
drop_at (y ∷ xs) (suc q) x h = let e : suc q + 1 ≡ suc (q + 1) = omega arith in drop_at xs q x h ∙ ap (λ i. x ∷ drop i (y ∷ xs)) (sym e)

pub nth_past : {X : Type 0} (xs : List X) (q : ℕ) → slice_get xs q ≡ None → length xs ≤ q
nth_past [] q h = omega arith
nth_past (y ∷ xs) zero h = let z : ◌≡◌ {A = ℕ} 0 1 = cc in absurd (omega arith)
nth_past (y ∷ xs) (suc q) h = let i = nth_past xs q h in omega arith

pub nth_inside : {X : Type 0} (xs : List X) (q : ℕ) (x : X) → slice_get xs q ≡ Some x → q < length xs
nth_inside [] q x h = let z : ◌≡◌ {A = ℕ} 0 1 = cc in absurd (omega arith)
nth_inside (y ∷ xs) zero x h = omega arith
nth_inside (y ∷ xs) (suc q) x h = let i = nth_inside xs q x h in omega arith

pub nth_there : {X : Type 0} (xs : List X) (q : ℕ) → q < length xs → (x : X) × (slice_get xs q ≡ Some x)
nth_there [] q h = absurd (omega arith)
nth_there (y ∷ xs) zero h = (y, refl)
nth_there (y ∷ xs) (suc q) h = nth_there xs q (omega arith)

module _ (t : Record → Bool) (s : ℕ) (rows : List Row) where
  pub rest_yes : (q : ℕ) (row : Row) → slice_get rows q ≡ Some row → t (filed_at s q row) ≡ true → rest t s rows q ≡ filed_at s q row ∷ rest t s rows (q + 1)
  rest_yes q row h e = ap (λ ys. those t (filed s q ys)) (drop_at rows q row h) ∙ cond-true _ _ _ e

  pub rest_no : (q : ℕ) (row : Row) → slice_get rows q ≡ Some row → t (filed_at s q row) ≡ false → rest t s rows q ≡ rest t s rows (q + 1)
  rest_no q row h e = ap (λ ys. those t (filed s q ys)) (drop_at rows q row h) ∙ cond-false _ _ _ e

  pub rest_past : (q : ℕ) → length rows ≤ q → rest t s rows q ≡ []
  rest_past q h = ap (λ ys. those t (filed s q ys)) (drop_all q rows h)

  skip_by : (d a : ℕ) → ((p : ℕ) (row : Row) → a ≤ p → p < a + d → slice_get rows p ≡ Some row → t (filed_at s p row) ≡ true → ⊥) → rest t s rows a ≡ rest t s rows (a + d)
  skip_by zero a none = let e : a + 0 ≡ a = omega arith in ap (rest t s rows) (sym e)
  skip_by (suc d) a none =
      let e : a + 1 + d ≡ a + suc d = omega arith in
      by (slice_get rows a) refl (skip_by d (a + 1) (λ p row l u. none p row (omega arith) (omega arith)) ∙ ap (rest t s rows) e)
    where
      by : (o : Option Row) → slice_get rows a ≡ o → rest t s rows (a + 1) ≡ rest t s rows (a + suc d) → rest t s rows a ≡ rest t s rows (a + suc d)
      by None h step = let k = nth_past rows a h in rest_past a k ∙ sym (rest_past (a + suc d) (omega arith))
      by (Some row) h step = on (cases_Bool (t (filed_at s a row)))
        where
          on : (t (filed_at s a row) ≡ true) ⊎ (t (filed_at s a row) ≡ false) → rest t s rows a ≡ rest t s rows (a + suc d)
          on (inl e) = absurd (none a row (omega arith) (omega arith) h e)
          on (inr e) = rest_no a row h e ∙ step

  pub rest_skip : (a b : ℕ) → a ≤ b → ((p : ℕ) (row : Row) → a ≤ p → p < b → slice_get rows p ≡ Some row → t (filed_at s p row) ≡ true → ⊥) → rest t s rows a ≡ rest t s rows b
  rest_skip a b h none = let e : a + (b - a) ≡ b = omega arith in skip_by (b - a) a (λ p row l u. none p row l (omega arith)) ∙ ap (rest t s rows) e
