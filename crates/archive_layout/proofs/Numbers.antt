-- The records that bear a number, found by the index: first position, next position. Assumes nothing.
use Rattle.std.proofs.Common.{◌≡◌, ℕ, zero, suc, ◌+◌, ◌-◌, ◌<◌, ◌≤◌, cond, ◌&&◌, eqb, ltb, ◌⊎◌, List, [], ◌∷◌, map, length, get_or, is_some, Some, None, Option, sym, refl, ap, ◌∙◌, subst, inl, inr, div-mul-le_self, arith}
use Rattle.std.specs.List.{slice_get, AllByRecursion}
use Rattle.std.proofs.lemmas.List.{length-map}
use Rattle.std.proofs.lemmas.Bool.{cond-true, cond_both, cases_lt, eqb-true, eq-eqb, and_parts, and_from, lt-ltb, ltb-true}
use Rattle.journal.specs.Meaning.{Meaning, Section, Row, rows_of, Rising, Lawful}
use Rattle.rules.specs.State.{section_of, number_of, filed, records_of, those, some_in, bears_number}
use Rattle.rules.specs.Calls.{Among}
use Rattle.law.proofs.Lists.{among_either}
use Rattle.law.proofs.Arrivals.{starts_records}
use Rattle.law.proofs.Same as law
use Rattle.law.proofs.Same.{own}
use Rattle.index_layout.specs.Links.{linked, earliest, following}
use Rattle.index_layout.specs.Views.{View, first_in, next_in}
use Rattle.index_layout.specs.Held.{found}
use Rattle.index_layout.proofs.Links.{linked_none, linked_some}
use Rattle.archive_layout.specs.Fit.{Coding, expected, offset_of, Homed, Fit}
use Rattle.archive_layout.specs.Walks.{filed_at, rest}
use Rattle.archive_layout.proofs.Fits.{offset_near}
use Rattle.archive_layout.proofs.Places.{earliest_is, following_is, first_place, first_none, first_some}
use Rattle.archive_layout.proofs.Rests.{nth_there, nth_inside, rest_yes, rest_skip, rest_past}

-- Every record of the sections lies in the section of its number.
pub homed_records : (l : ℕ) (xs : List Section) → AllByRecursion (Homed l) xs → law.Homed l (records_of xs)
homed_records l [] h r a = absurd a
homed_records l (x ∷ xs) h r a = by (among_either r (filed x.start 0 x.rows) (records_of xs) a) (homed_records l xs h.1 r)
  where
    here : (p : ℕ) (rs : List Row) → AllByRecursion (λ q. section_of l q.label.number ≡ x.start) rs → Among r (filed x.start p rs) → r.start ≡ section_of l (number_of r)
    here p [] k b = absurd b
    here p (q ∷ rs) k (inl e) = ap (λ y. y.start) e ∙ sym k.0 ∙ ap (λ y. section_of l (number_of y)) (sym e)
    here p (q ∷ rs) k (inr b) = here (p + 1) rs k.1 b

    by : Among r (filed x.start 0 x.rows) ⊎ Among r (records_of xs) → (Among r (records_of xs) → r.start ≡ section_of l (number_of r)) → r.start ≡ section_of l (number_of r)
    by (inl b) again = here 0 x.rows h.0 b
    by (inr b) again = again b

pub bearers_home : (l n low : ℕ) (xs : List Section) → Rising low xs → AllByRecursion (Homed l) xs
    → those (bears_number n) (records_of xs) ≡ those (bears_number n) (filed (section_of l n) 0 (rows_of xs (section_of l n)))
bearers_home l n low xs up h =
    sym (own l n (bears_number n) (records_of xs) (homed_records l xs h) (λ r e. eqb-true _ _ e)) ∙ ap (those (bears_number n)) (starts_records (section_of l n) low xs up)

pub at_least : (l s : ℕ) (rs : List Row) → AllByRecursion (λ r. section_of l r.label.number ≡ s) rs → AllByRecursion (λ r. s ≤ r.label.number) rs
at_least l s [] h = tt
at_least l s (r ∷ rs) h = (subst (λ t. t ≤ r.label.number) h.0 (div-mul-le_self r.label.number l), at_least l s rs h.1)

pub homed_rows : (l s : ℕ) (xs : List Section) → AllByRecursion (Homed l) xs → AllByRecursion (λ r. section_of l r.label.number ≡ s) (rows_of xs s)
homed_rows l s [] h = tt
homed_rows l s (x ∷ xs) h =
    cond_both (eqb x.start s) x.rows (rows_of xs s) (AllByRecursion (λ r. section_of l r.label.number ≡ s))
    (λ e. subst (λ t. AllByRecursion (λ r. section_of l r.label.number ≡ t) x.rows) (eqb-true _ _ e) h.0)
    (λ e. homed_rows l s xs h.1)

expected_offsets : (k : Coding) (s : ℕ) (rs : List Row) → (expected k s rs).offsets ≡ map (offset_of s) rs
expected_offsets k s [] = refl
expected_offsets k s (r ∷ rs) = refl

pub get_or_row : {X : Type 0} (f : X → ℕ) (rs : List X) (p : ℕ) (r : X) → slice_get rs p ≡ Some r → get_or (map f rs) p 0 ≡ f r
get_or_row f [] p r h = let z : ◌≡◌ {A = ℕ} 0 1 = cc in absurd (omega arith)
get_or_row f (x ∷ rs) zero r h = let e : x ≡ r = cc in ap f e
get_or_row f (x ∷ rs) (suc p) r h = get_or_row f rs p r h

pub all_nth : {X : Type 0} (P : X → Type 0) (rs : List X) (p : ℕ) (r : X) → AllByRecursion P rs → slice_get rs p ≡ Some r → P r
all_nth P [] p r a h = let z : ◌≡◌ {A = ℕ} 0 1 = cc in absurd (omega arith)
all_nth P (x ∷ rs) zero r a h = let e : x ≡ r = cc in subst P e a.0
all_nth P (x ∷ rs) (suc p) r a h = all_nth P rs p r a.1 h

-- The first record that bears a number from some position on, and what is left behind it.
pub record Leads (n s from q : ℕ) (rows : List Row) : Type 0 where
  pub row : Row
  pub there : slice_get rows q ≡ Some row
  pub number : row.label.number ≡ n
  pub is : rest (bears_number n) s rows from ≡ filed_at s q row ∷ rest (bears_number n) s rows (q + 1)

module _ (k : Coding) (width l : ℕ) (m : Meaning) (vs : List View) (n s : ℕ) (fit : Fit k width l m vs) (law : Lawful m) (home : section_of l n ≡ s) where
  rows : List Row
  rows = rows_of m.sections s

  offsets : List ℕ
  offsets = map (offset_of s) (rows_of m.sections s)

  offsets_are : (found vs s).offsets ≡ offsets
  unfolding offsets
  offsets_are = ap (λ v. v.offsets) (fit.held s) ∙ expected_offsets k s (rows_of m.sections s)

  long : length offsets ≡ length rows
  unfolding offsets rows
  long = length-map (rows_of m.sections s) (offset_of s)

  under : s ≤ n
  under = subst (λ t. t ≤ n) home (div-mul-le_self n l)

  -- A row's offset tells its number.
  same_number : (p : ℕ) (row : Row) → slice_get rows p ≡ Some row → get_or offsets p 0 ≡ n - s → row.label.number ≡ n
  unfolding offsets rows
  same_number p row h e =
      let a = all_nth (λ r. s ≤ r.label.number) (rows_of m.sections s) p row (at_least l s (rows_of m.sections s) (homed_rows l s m.sections fit.homed)) h in
      let b : row.label.number - s ≡ n - s = sym (get_or_row (offset_of s) (rows_of m.sections s) p row h) ∙ e in
      omega (arith, a, b, under)

  same_offset : (p : ℕ) (row : Row) → slice_get rows p ≡ Some row → row.label.number ≡ n → get_or offsets p 0 ≡ n - s
  unfolding offsets rows
  same_offset p row h e = get_or_row (offset_of s) (rows_of m.sections s) p row h ∙ ap (λ i. i - s) e

  -- From one position on, where none before q has the number, and q has it, or q is the end.
  leads : (from q : ℕ) → from ≤ q → q < length rows → get_or offsets q 0 ≡ n - s → ((p : ℕ) → from ≤ p → p < q → get_or offsets p 0 ≡ n - s → ⊥) → Leads n s from q (rows_of m.sections s)
  unfolding rows
  leads from q le lt here before =
      let r = nth_there (rows_of m.sections s) q lt in
      let e = same_number q r.0 r.1 here in
      record {
        row = r.0;
        there = r.1;
        number = e;
        is = rest_skip (bears_number n) s (rows_of m.sections s) from q le (λ p row a b h y. before p a b (same_offset p row h (eqb-true _ _ y)))
            ∙ rest_yes (bears_number n) s (rows_of m.sections s) q r.0 r.1 (eq-eqb _ _ e);
      }

  ends : (from : ℕ) → ((p : ℕ) → from ≤ p → p < length rows → get_or offsets p 0 ≡ n - s → ⊥) → rest (bears_number n) s (rows_of m.sections s) from ≡ []
  unfolding rows
  ends from none = by (cases_lt from (length (rows_of m.sections s)))
    where
      by : (from < length (rows_of m.sections s)) ⊎ (length (rows_of m.sections s) ≤ from) → rest (bears_number n) s (rows_of m.sections s) from ≡ []
      by (inl h) =
          rest_skip (bears_number n) s (rows_of m.sections s) from (length (rows_of m.sections s)) (omega arith) (λ p row a b t y. none p a b (same_offset p row t (eqb-true _ _ y)))
          ∙ rest_past (bears_number n) s (rows_of m.sections s) (length (rows_of m.sections s)) (omega arith)
      by (inr h) = rest_past (bears_number n) s (rows_of m.sections s) from h

  pub at_home : those (bears_number n) (records_of m.sections) ≡ rest (bears_number n) s (rows_of m.sections s) 0
  at_home = bearers_home l n m.floor m.sections law.rising fit.homed ∙ ap (λ t. those (bears_number n) (filed t 0 (rows_of m.sections t))) home

  first_is : first_in (found vs s) (n - s) ≡ linked (first_place (λ q. eqb (get_or offsets q 0) (n - s)) (length rows))
  unfolding offsets rows
  first_is =
      cond-true _ _ _ (lt-ltb (n - s) 64 (subst (λ t. n - t < 64) home (offset_near l n fit.some fit.few)))
      ∙ ap (λ (xs : List ℕ). linked (earliest xs (n - s) (length xs))) offsets_are
      ∙ ap (λ (i : ℕ). linked (earliest offsets (n - s) i)) long
      ∙ ap linked (earliest_is offsets (n - s) (length rows))

  pub none_bears : first_in (found vs s) (n - s) ≡ None → rest (bears_number n) s (rows_of m.sections s) 0 ≡ []
  unfolding rows
  none_bears h = ends 0 (λ p _ l e. first_none (λ q. eqb (get_or offsets q 0) (n - s)) (length rows) (linked_none _ (sym first_is ∙ h)) p l (eq-eqb _ _ e))

  pub some_bears : (q : ℕ) → first_in (found vs s) (n - s) ≡ Some q → Leads n s 0 q (rows_of m.sections s)
  unfolding rows
  some_bears q h =
      let f = first_some (λ q. eqb (get_or offsets q 0) (n - s)) (length rows) q (linked_some _ q (sym first_is ∙ h)) in
      leads 0 q (omega arith) f.below (eqb-true _ _ f.here) (λ p _ l e. f.before p l (eq-eqb _ _ e))

  -- The next one after a position that has the number.
  module _ (p : ℕ) (at : Row) (there : slice_get (rows_of m.sections s) p ≡ Some at) (number : at.label.number ≡ n) where
    here : get_or offsets p 0 ≡ n - s
    unfolding rows
    here = same_offset p at there number

    next_is : next_in (found vs s) p ≡ linked (first_place (λ q. ltb p q && eqb (get_or offsets q 0) (get_or offsets p 0)) (length rows))
    unfolding rows
    next_is =
        ap (λ (xs : List ℕ). cond (ltb p (length xs)) (linked (following xs p (length xs))) None) offsets_are
        ∙ cond-true _ _ _ (lt-ltb p (length offsets) (subst (λ i. p < i) (sym long) (nth_inside (rows_of m.sections s) p at there)))
        ∙ ap (λ (i : ℕ). linked (following offsets p i)) long
        ∙ ap linked (following_is offsets p (length rows))

    pub none_next : next_in (found vs s) p ≡ None → rest (bears_number n) s (rows_of m.sections s) (p + 1) ≡ []
    unfolding rows
    none_next h =
        ends (p + 1) (λ q a l e. first_none (λ q. ltb p q && eqb (get_or offsets q 0) (get_or offsets p 0)) (length rows) (linked_none _ (sym next_is ∙ h)) q l (and_from _ _ (lt-ltb p q (omega arith)) (eq-eqb _ _ (e ∙ sym here))))

    pub some_next : (q : ℕ) → next_in (found vs s) p ≡ Some q → Leads n s (p + 1) q (rows_of m.sections s)
    unfolding rows
    some_next q h =
        let f = first_some (λ q. ltb p q && eqb (get_or offsets q 0) (get_or offsets p 0)) (length rows) q (linked_some _ q (sym next_is ∙ h)) in
        let b = and_parts (ltb p q) (eqb (get_or offsets q 0) (get_or offsets p 0)) f.here in
        let lt : p < q = ltb-true _ _ b.0 in
        leads (p + 1) q (omega arith) f.below (eqb-true _ _ b.1 ∙ here)
        (λ i a l e. f.before i l (and_from _ _ (lt-ltb p i (omega arith)) (eq-eqb _ _ (e ∙ sym here))))

-- Whether a number is there, by the index.
pub there_is : (k : Coding) (width l : ℕ) (m : Meaning) (vs : List View) (n s : ℕ) → Fit k width l m vs → Lawful m → section_of l n ≡ s
    → some_in (those (bears_number n) (records_of m.sections)) ≡ is_some (first_in (found vs s) (n - s))
there_is k width l m vs n s fit law home = ap some_in (at_home k width l m vs n s fit law home) ∙ by (first_in (found vs s) (n - s)) refl
  where
    by : (o : Option ℕ) → first_in (found vs s) (n - s) ≡ o → some_in (rest (bears_number n) s (rows_of m.sections s) 0) ≡ is_some o
    by None e = ap some_in (none_bears k width l m vs n s fit law home e)
    by (Some p) e = ap some_in (some_bears k width l m vs n s fit law home p e).is
