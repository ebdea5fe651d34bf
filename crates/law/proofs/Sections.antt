-- Rows that go to different sections do not see each other. Assumes nothing.
use Rattle.std.proofs.Common.{◌≡◌, ℕ, true, false, eqb, List, [], ◌∷◌, sym, refl, arith}
use Rattle.std.proofs.lemmas.Bool.Decides.{nat_tests}
use Rattle.std.proofs.lemmas.Bool.{ne_eqb, cond-false}
use Rattle.journal.specs.Meaning.{Row, Section, is_kept}
use Rattle.journal.specs.Calls.{extended, opened, placed}

module _ (s : ℕ) (r : Row) (t : ℕ) (ne : t ≡ s → ⊥) where
  kept_extended : (xs : List Section) → is_kept (extended xs s r) t ≡ is_kept xs t
  kept_extended [] = refl
  kept_extended (x ∷ xs) = let ih = kept_extended xs in grind (arith, nat_tests)

  kept_opened : (xs : List Section) → is_kept (opened xs s r) t ≡ is_kept xs t
  kept_opened [] = let e : eqb s t ≡ false = ne_eqb s t (λ k. ne (sym k)) in cond-false (eqb s t) true false e
  kept_opened (x ∷ xs) = let ih = kept_opened xs in grind (arith, nat_tests)

  pub kept_placed : (xs : List Section) → is_kept (placed xs s r) t ≡ is_kept xs t
  kept_placed xs = let a = kept_extended xs in let b = kept_opened xs in grind arith

module _ (s t : ℕ) (q r : Row) (ne : s ≡ t → ⊥) where
  extended_extended : (xs : List Section) → extended (extended xs t r) s q ≡ extended (extended xs s q) t r
  extended_extended [] = refl
  extended_extended (x ∷ xs) = let ih = extended_extended xs in grind (arith, nat_tests)

  extended_opened : (xs : List Section) → extended (opened xs t r) s q ≡ opened (extended xs s q) t r
  extended_opened [] = let e : eqb t s ≡ false = ne_eqb t s (λ k. ne (sym k)) in cond-false (eqb t s) _ _ e
  extended_opened (x ∷ xs) = let ih = extended_opened xs in grind (arith, nat_tests)

  opened_opened : (xs : List Section) → opened (opened xs t r) s q ≡ opened (opened xs s q) t r
  opened_opened [] = grind (arith, nat_tests)
  opened_opened (x ∷ xs) = let ih = opened_opened xs in grind (arith, nat_tests)

pub placed_swap : (s t : ℕ) (q r : Row) → (s ≡ t → ⊥) → (xs : List Section) → placed (placed xs t r) s q ≡ placed (placed xs s q) t r
placed_swap s t q r ne xs =
    let en : t ≡ s → ⊥ = λ e. ne (sym e) in
    let a1 = kept_extended t r s ne xs in
    let a2 = kept_opened t r s ne xs in
    let b1 = kept_extended s q t en xs in
    let b2 = kept_opened s q t en xs in
    let e1 = extended_extended s t q r ne xs in
    let e2 = extended_opened s t q r ne xs in
    let e3 = extended_opened t s r q en xs in
    let e4 = opened_opened s t q r ne xs in
    grind arith
