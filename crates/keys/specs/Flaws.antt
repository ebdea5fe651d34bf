-- The flaw of bytes for a kind of w bytes.
use Rattle.std.specs.Prelude.{◌≡◌, ℕ, false, List, length, is_some, Some, None, Ok, Err, Option, ◌==◌, ◌≢◌, refl}
use Rattle.std.proofs.Common.{sym, ap, ◌∙◌, ⊎_elim, arith}
use Rattle.std.proofs.lemmas.Bool.{both_ways, cases_Bool, cond-true, cond-false, eq-eqb, eqb-true, ne_eqb}
use Rattle.keys.specs.declared.fault.KeyFault.TheVariants.{NotAKey}
use Rattle.keys.specs.Reading.{of_width, taken}

pub no_flaw : (o : Option ℕ) → is_some o ≡ false → o ≡ None
no_flaw None h = refl
no_flaw (Some p) h = absurd (both_ways _ h refl)

pub flawless : (o : Option ℕ) → o ≡ None → is_some o ≡ false
flawless None h = refl
flawless (Some p) h = let z : ◌≡◌ {A = ℕ} 0 1 = cc in absurd (omega arith)

-- Bytes with no flaw are of the width.
pub width_right : (w : ℕ) (place : Option ℕ) (xs : List ℕ) → of_width w place xs ≡ None → length xs ≡ w
width_right w place xs h =
    ⊎_elim
    (λ t. eqb-true (length xs) w t)
    (λ f. let e = cond-false (length xs == w) place (Some w) f in let z : ◌≡◌ {A = ℕ} 0 1 = cc in absurd (omega arith))
    (cases_Bool (length xs == w))

-- Bytes of the width have the flaw of their places.
pub place_flaw : (w : ℕ) (place : Option ℕ) (xs : List ℕ) → length xs ≡ w → of_width w place xs ≡ place
place_flaw w place xs e = cond-true (length xs == w) place (Some w) (eq-eqb (length xs) w e)

pub width_wrong : (w : ℕ) (place : Option ℕ) (xs : List ℕ) → (length xs ≢ w) → of_width w place xs ≡ Some w
width_wrong w place xs ne = cond-false (length xs == w) place (Some w) (ne_eqb (length xs) w ne)

-- Bytes that were taken have the flaw of their places, and are the ones handed in.
pub taken_flaw : (w : ℕ) (place : List ℕ → Option ℕ) (xs ys : List ℕ) (o : Option ℕ) → Ok ys ≡ taken w xs → o ≡ place ys → (of_width w (place xs) xs ≡ o) × (ys ≡ xs)
taken_flaw w place xs ys o h f =
    ⊎_elim
    (λ t. let e = cond-true (length xs == w) (Ok xs) (Err (NotAKey w)) t in let same : ys ≡ xs = cc in (cond-true (length xs == w) (place xs) (Some w) t ∙ ap place (sym same) ∙ sym f, same))
    (λ n. let e = cond-false (length xs == w) (Ok xs) (Err (NotAKey w)) n in let z : ◌≡◌ {A = ℕ} 0 1 = cc in absurd (omega arith))
    (cases_Bool (length xs == w))
