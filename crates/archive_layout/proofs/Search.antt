-- The first bearer of a key over all sections, by rising start. Assumes nothing.
use Rattle.std.proofs.Common.{◌≡◌, ℕ, ◌+◌, ◌<◌, ◌≤◌, Bool, false, eqb, ltb, ◌⊎◌, List, [], ◌∷◌, ◌++◌, Some, sym, refl, ap, ◌∙◌, subst, inl, inr, arith}
use Rattle.std.specs.List.{AllByRecursion}
use Rattle.std.proofs.lemmas.Bool.{cond-true, cond-false, cases_lt, lt-ltb, le-ltb, ne_eqb, and_left, and_right, or_from}
use Rattle.journal.specs.Meaning.{Section, Row, rows_of, first_from, Rising}
use Rattle.journal.specs.Calls.{kept_from}
use Rattle.journal.proofs.Walks.{first_some}
use Rattle.rules.specs.declared.answer.Place.{Place}
use Rattle.rules.specs.State.{Record, section_of, number_of, filed, records_of, those}
use Rattle.rules.specs.Calls.{Among}
use Rattle.law.proofs.Lists.{those-++, those_among, those_none, among_either}
use Rattle.law.proofs.Arrivals.{under, at_most}
use Rattle.archive_layout.specs.Fit.{Homed}
use Rattle.archive_layout.specs.Keys.{is_behind, sought, least, least_from}
use Rattle.archive_layout.proofs.Least.{or_else, least_append}
use Rattle.archive_layout.proofs.Numbers.{homed_rows}

-- Which section a record of the journal has.
pub record Lies (l n : ℕ) (y : Record) : Type 0 where
  pub from : n ≤ y.start
  pub home : section_of l (number_of y) ≡ y.start

filed_lies : (l s p : ℕ) (rs : List Row) (y : Record) → AllByRecursion (λ r. section_of l r.label.number ≡ s) rs → Among y (filed s p rs) → Lies l s y
filed_lies l s p [] y h a = absurd a
filed_lies l s p (r ∷ rs) y h (inl e) =
    record { from = let z : y.start ≡ s = ap (λ x. x.start) e in omega arith; home = ap (λ x. section_of l (number_of x)) e ∙ h.0 ∙ sym (ap (λ x. x.start) e) }
filed_lies l s p (r ∷ rs) y h (inr a) = filed_lies l s (p + 1) rs y h.1 a

pub filed_start : (s p : ℕ) (rs : List Row) (y : Record) → Among y (filed s p rs) → y.start ≡ s
filed_start s p [] y a = absurd a
filed_start s p (r ∷ rs) y (inl e) = ap (λ x. x.start) e
filed_start s p (r ∷ rs) y (inr a) = filed_start s (p + 1) rs y a

pub kept_lies : (l n : ℕ) (xs : List Section) (y : Record) → AllByRecursion (Homed l) xs → Among y (records_of (kept_from xs n)) → Lies l n y
kept_lies l n [] y h a = absurd a
kept_lies l n (x ∷ xs) y h a = by (cases_lt x.start n) (λ b. kept_lies l n xs y h.1 b)
  where
    on : n ≤ x.start → Among y (filed x.start 0 x.rows) ⊎ Among y (records_of (kept_from xs n)) → (Among y (records_of (kept_from xs n)) → Lies l n y) → Lies l n y
    on le (inl b) again = let f = filed_lies l x.start 0 x.rows y h.0 b in record { from = omega (arith, f.from, le); home = f.home }
    on le (inr b) again = again b

    by : (x.start < n) ⊎ (n ≤ x.start) → (Among y (records_of (kept_from xs n)) → Lies l n y) → Lies l n y
    by (inl lt) again = again (subst (λ ys. Among y (records_of ys)) (cond-true _ _ _ (lt-ltb _ _ lt)) a)
    by (inr le) again = on le (among_either y (filed x.start 0 x.rows) (records_of (kept_from xs n)) (subst (λ ys. Among y (records_of ys)) (cond-false _ _ _ (le-ltb _ _ le)) a)) again

module _ (l low : ℕ) (xs : List Section) (some : 0 < l) (up : Rising low xs) (homed : AllByRecursion (Homed l) xs) (t : Record → Bool) where
  -- One section, and then those behind it.
  pub least_step : (n s : ℕ) → first_from xs n ≡ Some s → least_from t xs n ≡ or_else (least (those t (filed s 0 (rows_of xs s)))) (least_from t xs (s + 1))
  least_step n s e =
      let k = first_some low n s xs up e in
      let same : filed k.section.start 0 k.section.rows ≡ filed s 0 (rows_of xs s) = ap (λ i. filed i 0 k.section.rows) k.start ∙ ap (filed s 0) (sym k.rows) in
      let cut : those t (records_of (kept_from xs n)) ≡ those t (filed s 0 (rows_of xs s)) ++ those t (records_of (kept_from xs (s + 1))) =
      ap (λ ys. those t (records_of ys)) k.rest ∙ those-++ t (filed k.section.start 0 k.section.rows) (records_of (kept_from xs (s + 1)))
      ∙ ap (λ rs. those t rs ++ those t (records_of (kept_from xs (s + 1)))) same in
      ap least cut ∙ least_append (those t (filed s 0 (rows_of xs s))) (those t (records_of (kept_from xs (s + 1)))) (λ x y a b. order s x y (those_among t x _ a).0 (those_among t y _ b).0)
    where
      order : (s : ℕ) (x y : Record) → Among x (filed s 0 (rows_of xs s)) → Among y (records_of (kept_from xs (s + 1))) → number_of x ≤ number_of y
      order s x y a b =
          let f = kept_lies l (s + 1) xs y homed b in
          let g = filed_home s x a in
          let u = under l (number_of x) (number_of y) some (subst (λ i. i < section_of l (number_of y)) (sym g) (subst (λ i. s < i) (sym f.home) (let q = f.from in omega arith))) in
          let w = at_most l (number_of y) in
          omega arith
        where
          filed_home : (s : ℕ) (x : Record) → Among x (filed s 0 (rows_of xs s)) → section_of l (number_of x) ≡ s
          filed_home s x a = (filed_lies l s 0 (rows_of xs s) x (homed_rows l s xs homed) a).home ∙ filed_start s 0 (rows_of xs s) x a

-- What comes behind a place lies in its section or behind it, so that a search may begin there.
not_behind : (a : Place) (r : Record) → number_of r < a.number → is_behind (Some a) r ≡ false
not_behind a r h =
    let e : ltb a.number (number_of r) ≡ false = le-ltb _ _ (omega arith) in
    let f : eqb a.number (number_of r) ≡ false = ne_eqb _ _ (λ q. omega arith) in
    or_from _ _ e (and_left _ _ f)

pub from_there : (l : ℕ) (key : List ℕ) (a : Place) (xs : List Section) → 0 < l → AllByRecursion (Homed l) xs
    → those (sought key (Some a)) (records_of (kept_from xs (section_of l a.number))) ≡ those (sought key (Some a)) (records_of xs)
from_there l key a [] some h = refl
from_there l key a (x ∷ xs) some h = by (cases_lt x.start (section_of l a.number)) (from_there l key a xs some h.1)
  where
    early : x.start < section_of l a.number → (r : Record) → Among r (filed x.start 0 x.rows) → sought key (Some a) r ≡ false
    early lt r b =
        let f = filed_lies l x.start 0 x.rows r h.0 b in
        let g : section_of l (number_of r) ≡ x.start = f.home ∙ filed_start x.start 0 x.rows r b in
        let u = under l (number_of r) a.number some (subst (λ i. i < section_of l a.number) (sym g) lt) in
        let w = at_most l a.number in
        and_right _ _ (not_behind a r (omega arith))

    by : (x.start < section_of l a.number) ⊎ (section_of l a.number ≤ x.start)
        → those (sought key (Some a)) (records_of (kept_from xs (section_of l a.number))) ≡ those (sought key (Some a)) (records_of xs)
        → those (sought key (Some a)) (records_of (kept_from (x ∷ xs) (section_of l a.number))) ≡ those (sought key (Some a)) (records_of (x ∷ xs))
    by (inl lt) again =
        ap (λ ys. those (sought key (Some a)) (records_of ys)) (cond-true _ _ _ (lt-ltb _ _ lt)) ∙ again
        ∙ sym (those-++ (sought key (Some a)) (filed x.start 0 x.rows) (records_of xs) ∙ ap (λ ys. ys ++ those (sought key (Some a)) (records_of xs)) (those_none (sought key (Some a)) (filed x.start 0 x.rows) (early lt)))
    by (inr le) again =
        ap (λ ys. those (sought key (Some a)) (records_of ys)) (cond-false _ _ _ (le-ltb _ _ le))
        ∙ those-++ (sought key (Some a)) (filed x.start 0 x.rows) (records_of (kept_from xs (section_of l a.number)))
        ∙ ap (λ ys. those (sought key (Some a)) (filed x.start 0 x.rows) ++ ys) again
        ∙ sym (those-++ (sought key (Some a)) (filed x.start 0 x.rows) (records_of xs))
