-- The tests of the rules decide what their names say. Assumes nothing.
use Rattle.std.proofs.Common.{◌≡◌, ℕ, Bool, true, false, eqb, List, [], ◌∷◌, sym, refl, ap, ◌∙◌}
use Rattle.std.proofs.lemmas.Bool.{both_ways, eq-eqb, eqb-true, and_parts, and_from}
use Rattle.journal.specs.Meaning.{Row}
use Rattle.rules.specs.declared.answer.Place.{Place}
use Rattle.rules.specs.State.{Kind, number_of, same_bytes, bears_number, bears_key, bears_both, lies_at, is_candidate}
use Rattle.rules.specs.Told.{BearsNumber, BearsKey, BearsBoth, LiesAt, SameTranslated}
use Rattle.law.proofs.Lists.{Decided}

bytes_same : (k : List ℕ) → same_bytes k k ≡ true
bytes_same [] = refl
bytes_same (x ∷ k) = and_from (eqb x x) (same_bytes k k) (eq-eqb x x refl) (bytes_same k)

pub same_as : (j k : List ℕ) → j ≡ k → same_bytes j k ≡ true
same_as j k e = ap (same_bytes j) (sym e) ∙ bytes_same j

pub as_same : (j k : List ℕ) → same_bytes j k ≡ true → j ≡ k
as_same [] [] e = refl
as_same [] (y ∷ k) e = absurd (both_ways false refl e)
as_same (x ∷ j) [] e = absurd (both_ways false refl e)
as_same (x ∷ j) (y ∷ k) e =
    let p = and_parts (eqb x y) (same_bytes j k) e in
    let a = eqb-true x y p.0 in
    let b = as_same j k p.1 in
    cc

pub decides_number : (n : ℕ) → Decided (bears_number n) (BearsNumber n)
decides_number n r = (eqb-true (number_of r) n, eq-eqb (number_of r) n)

pub decides_key : (key : List ℕ) → Decided (bears_key key) (BearsKey key)
decides_key key r = (as_same r.row.key key, same_as r.row.key key)

pub decides_both : (n : ℕ) (key : List ℕ) → Decided (bears_both n key) (BearsBoth n key)
decides_both n key r = (
  (λ e. let k = and_parts (bears_number n r) (bears_key key r) e in (eqb-true (number_of r) n k.0, as_same r.row.key key k.1)),
  (λ k. and_from (bears_number n r) (bears_key key r) (eq-eqb (number_of r) n k.0) (same_as r.row.key key k.1)),
)

pub decides_place : (p : Place) → Decided (lies_at p) (LiesAt p)
decides_place p r = (
  (λ e. let k = and_parts (bears_number p.number r) (eqb r.position p.position) e in
      let F : ℕ → ℕ → Place = λ x y. record { number = x; position = y } in
      ap (λ x. F x r.position) (eqb-true (number_of r) p.number k.0) ∙ ap (F p.number) (eqb-true r.position p.position k.1)),
  (λ e. and_from (bears_number p.number r) (eqb r.position p.position) (eq-eqb (number_of r) p.number (ap (λ x. x.number) e)) (eq-eqb r.position p.position (ap (λ x. x.position) e))),
)

pub decides_candidate : (kind : Kind) (key : List ℕ) → Decided (is_candidate kind key) (SameTranslated kind key)
decides_candidate kind key r = (eqb-true (kind.translated r.row.key) (kind.translated key), eq-eqb (kind.translated r.row.key) (kind.translated key))

abbrev pub key_is : List ℕ → Row → Bool
key_is key r = same_bytes r.key key

pub decides_row_key : (key : List ℕ) → Decided (key_is key) (λ (r : Row). r.key ≡ key)
decides_row_key key r = (as_same r.key key, same_as r.key key)
