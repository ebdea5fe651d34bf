-- The largest count, and one more place of the check sum.
use Rattle.std.proofs.Common.{◌≡◌, ℕ, zero, suc, ◌+◌, ◌*◌, ◌%◌, ◌^◌, ◌<◌, ◌≤◌, Bool, true, ◌&&◌, leb, List, [], ◌∷◌, get_or, sym, refl, ap, ◌∙◌, ap₂, mul-le-mul_right, add-one, arith, pow_mono, pow-add}
use Rattle.std.proofs.lemmas.Bool.{and_parts, leb-true}
use Rattle.keys.specs.Iso.{count, letter_counts, sum_below}

-- One test over a whole table.
abbrev at_most : ℕ → List ℕ → Bool
at_most m [] = true
at_most m (x ∷ xs) = leb x m && at_most m xs

at_most_at : (m : ℕ) (xs : List ℕ) (n : ℕ) → at_most m xs ≡ true → get_or xs n 0 ≤ m
at_most_at m [] n h = omega arith
at_most_at m (x ∷ xs) zero h = leb-true _ _ (and_parts (leb x m) (at_most m xs) h).0
at_most_at m (x ∷ xs) (suc n) h = at_most_at m xs n (and_parts (leb x m) (at_most m xs) h).1

pub letter_most : (n : ℕ) → get_or letter_counts n 0 ≤ 38
letter_most n = at_most_at 38 letter_counts n refl

-- One place more: its weight is a power of two, which a word of 32 bits holds.
pub sum_step : (xs : List ℕ) (p sum k : ℕ) → p < 10 → k ≡ count (get_or xs p 0) → k ≤ 38
    → (sum ≡ sum_below xs p) × (sum ≤ 38 * 2 ^ p)
    → ((1 * 2 ^ p) % 2 ^ 32 ≡ 2 ^ p) × (sum + k * 2 ^ p ≡ sum_below xs (p + 1)) × (sum + k * 2 ^ p ≤ 38 * 2 ^ (p + 1)) × (sum + k * 2 ^ p < 2 ^ 32)
sum_step xs p sum k h e l i =
    let m : k * 2 ^ p ≤ 38 * 2 ^ p = mul-le-mul_right (2 ^ p) l in
    let w : 2 ^ p ≤ 2 ^ 9 = pow_mono {i = p} {j = 9} (omega arith) in
    let d : 2 ^ (p + 1) ≡ 2 ^ p * 2 = pow-add 2 p 1 in (
      omega (arith, w),
      ap₂ (λ (a : ℕ) (b : ℕ). a + b * 2 ^ p) i.0 e ∙ ap (sum_below xs) (sym (add-one p)),
      omega (arith, m, d, i.1),
      omega (arith, m, w, i.1),
    )
