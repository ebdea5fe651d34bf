-- The first bad place: within the places looked at, and none where each place is right.
use Rattle.std.specs.Prelude.{◌≡◌, ℕ, zero, suc, ◌+◌, ◌%◌, ◌<◌, ◌≤◌, true, false, cond, List, Some, None, Option, ◌==◌, slice_index, refl}
use Rattle.std.proofs.Common.{sym, ◌∙◌, subst, ⊎_elim, arith}
use Rattle.std.proofs.lemmas.Bool.{cases_Bool, cases_order, cond-true, cond-false, eqb-true}
use Rattle.keys.specs.Iso.{FirstBad, RightBelow, check_sum, first_bad, place_ok}

pub bad_within : (xs : List ℕ) (p n q : ℕ) → first_bad xs p n ≡ Some q → q < p + n
bad_within xs p zero q h = let z : ◌≡◌ {A = ℕ} 0 1 = cc in absurd (omega arith)
bad_within xs p (suc n) q h =
    ⊎_elim
    (λ t. let l = bad_within xs (p + 1) n q (sym (cond-true (place_ok xs p) (first_bad xs (p + 1) n) (Some p) t) ∙ h) in omega arith)
    (λ f. let e = cond-false (place_ok xs p) (first_bad xs (p + 1) n) (Some p) f in let s : p ≡ q = cc in omega arith)
    (cases_Bool (place_ok xs p))

pub right_at : (xs : List ℕ) (p n q : ℕ) → first_bad xs p n ≡ None → p ≤ q → q < p + n → place_ok xs q ≡ true
right_at xs p zero q h l m = absurd (omega arith)
right_at xs p (suc n) q h l m =
    ⊎_elim
    (λ t.
    ⊎_elim
    (λ e. subst (λ (k : ℕ). place_ok xs k ≡ true) e t)
    (⊎_elim
    (λ o. right_at xs (p + 1) n q (sym (cond-true (place_ok xs p) (first_bad xs (p + 1) n) (Some p) t) ∙ h) (omega arith) (omega arith))
    (λ o. absurd (omega arith)))
    (cases_order p q))
    (λ f. let e = cond-false (place_ok xs p) (first_bad xs (p + 1) n) (Some p) f in let z : ◌≡◌ {A = ℕ} 0 1 = cc in absurd (omega arith))
    (cases_Bool (place_ok xs p))

-- A search that stopped at the first bad of n places found what the definition finds.
pub bad_found : (xs : List ℕ) (p n q : ℕ) → p ≤ q → q < p + n → place_ok xs q ≡ false → RightBelow xs q → first_bad xs p n ≡ Some q
bad_found xs p zero q l m f r = absurd (omega arith)
bad_found xs p (suc n) q l m f r =
    ⊎_elim
    (λ e. subst (λ (k : ℕ). first_bad xs p (suc n) ≡ Some k) e (cond-false _ _ _ (subst (λ (k : ℕ). place_ok xs k ≡ false) (sym e) f)))
    (⊎_elim
    (λ o. cond-true _ _ _ (r p o) ∙ bad_found xs (p + 1) n q (omega arith) (omega arith) f r)
    (λ o. absurd (omega arith)))
    (cases_order p q)

pub none_found : (xs : List ℕ) (p n : ℕ) → RightBelow xs (p + n) → first_bad xs p n ≡ None
none_found xs p zero r = refl
none_found xs p (suc n) r = cond-true _ _ _ (r p (omega arith)) ∙ none_found xs (p + 1) n (λ q l. r q (omega arith))

pub first_found : (xs : List ℕ) (r : Option ℕ) → FirstBad xs r → first_bad xs 0 11 ≡ r
first_found xs None h = none_found xs 0 11 h
first_found xs (Some p) h = bad_found xs 0 11 p (omega arith) h.0 h.1 h.2

-- The last of eleven right places shows the check digit.
pub digit_shown : (xs : List ℕ) → first_bad xs 0 11 ≡ None → slice_index xs 10 ≡ 48 + cond (check_sum xs % 11 == 10) 0 (check_sum xs % 11)
digit_shown xs h = eqb-true _ _ (right_at xs 0 11 10 h (omega arith) (omega arith))
