-- Walks along the records that bear a number, and what is found at a place. Assumes nothing.
use Rattle.std.proofs.Common.{◌≡◌, ℕ, suc, ◌+◌, ◌-◌, ◌<◌, ◌≤◌, Bool, true, false, cond, eqb, ◌⊎◌, List, [], ◌∷◌, ◌++◌, length, Some, None, Option, sym, refl, ap, ◌∙◌, subst, inl, inr, append_assoc, append-nil, arith}
use Rattle.std.specs.List.{slice_get, AllByRecursion}
use Rattle.std.proofs.lemmas.Bool.{cond-true, cases_Bool, cases_lt, eq-eqb, eqb-true, ne_eqb, and_parts, and_from, and_left, and_right, le-leb}
use Rattle.journal.specs.Meaning.{Meaning, Row, rows_of, row_at, Lawful}
use Rattle.rules.specs.declared.answer.Place.{Place}
use Rattle.rules.specs.State.{Record, section_of, number_of, filed, records_of, those, some_in, same_bytes, bears_number, bears_key, bears_both, lies_at, put_by_number, by_number}
use Rattle.rules.specs.Calls.{Among}
use Rattle.law.proofs.Lists.{those_yes, those_no, those-++, those_under, those_among}
use Rattle.index_layout.specs.Views.{View, first_in, next_in}
use Rattle.index_layout.specs.Held.{found}
use Rattle.law.proofs.Arrivals.{starts_records}
use Rattle.law.proofs.Same.{own}
use Rattle.archive_layout.specs.Fit.{Coding, Homed, Fit}
use Rattle.archive_layout.specs.Walks.{filed_at, rest, WalksNumber}
use Rattle.archive_layout.proofs.Rests.{nth_past, rest_yes, rest_no, rest_skip, rest_past}
use Rattle.archive_layout.proofs.Numbers.{homed_records, Leads, at_home, none_bears, some_bears, none_next, some_next}

some_same : (q p : ℕ) → ◌≡◌ {A = Option ℕ} (Some q) (Some p) → q ≡ p
some_same q p h = cc

-- A walk begins, goes on and ends.
module _ (k : Coding) (width l : ℕ) (m : Meaning) (vs : List View) (n s : ℕ) (fit : Fit k width l m vs) (law : Lawful m) (home : section_of l n ≡ s) where
  -- What a link leads to, after the records `done`.
  leads_to : (from : ℕ) (done : List Record) (o : Option ℕ) → rest (bears_number n) s (rows_of m.sections s) 0 ≡ done ++ rest (bears_number n) s (rows_of m.sections s) from
      → (o ≡ None → rest (bears_number n) s (rows_of m.sections s) from ≡ []) → ((q : ℕ) → o ≡ Some q → Leads n s from q (rows_of m.sections s))
      → WalksNumber n s (rows_of m.sections s) done o
  leads_to from done None all none some = record {
    all = all ∙ ap (λ ys. done ++ ys) (none refl ∙ sym (rest_past (bears_number n) s (rows_of m.sections s) (length (rows_of m.sections s)) (omega arith)));
    here = λ q e. (let z : ◌≡◌ {A = ℕ} 0 1 = cc in absurd (omega arith));
  }
  leads_to from done (Some p) all none some =
      let f = some p refl in
      record {
        all = all ∙ ap (λ ys. done ++ ys) (f.is ∙ sym (rest_yes (bears_number n) s (rows_of m.sections s) p f.row f.there (eq-eqb _ _ f.number)));
        here = λ q e. (f.row, subst (λ i. slice_get (rows_of m.sections s) i ≡ Some f.row) (some_same p q e) f.there, f.number);
      }

  pub begins : (o : Option ℕ) → o ≡ first_in (found vs s) (n - s) → WalksNumber n s (rows_of m.sections s) [] o
  begins o e = leads_to 0 [] o refl (λ z. none_bears k width l m vs n s fit law home (sym e ∙ z)) (λ q z. some_bears k width l m vs n s fit law home q (sym e ∙ z))

  pub goes_on : (done : List Record) (q : ℕ) (row : Row) (o : Option ℕ) → WalksNumber n s (rows_of m.sections s) done (Some q) → slice_get (rows_of m.sections s) q ≡ Some row → row.label.number ≡ n
      → o ≡ next_in (found vs s) q → WalksNumber n s (rows_of m.sections s) (done ++ filed_at s q row ∷ []) o
  goes_on done q row o w there number e =
      leads_to (q + 1) (done ++ filed_at s q row ∷ []) o
      (w.all ∙ ap (λ ys. done ++ ys) (rest_yes (bears_number n) s (rows_of m.sections s) q row there (eq-eqb _ _ number)) ∙ sym (append_assoc done (filed_at s q row ∷ []) (rest (bears_number n) s (rows_of m.sections s) (q + 1))))
      (λ z. none_next k width l m vs n s fit law home q row there number (sym e ∙ z))
      (λ p z. some_next k width l m vs n s fit law home q row there number p (sym e ∙ z))

  pub ends : (done : List Record) → WalksNumber n s (rows_of m.sections s) done None → those (bears_number n) (records_of m.sections) ≡ done
  ends done w =
      at_home k width l m vs n s fit law home ∙ w.all
      ∙ ap (λ ys. done ++ ys) (rest_past (bears_number n) s (rows_of m.sections s) (length (rows_of m.sections s)) (omega arith)) ∙ append-nil done

-- How many are left at most.
pub length_rest : (t : Record → Bool) (s p : ℕ) (rows : List Row) → length (those t (filed s p rows)) ≤ length rows
length_rest t s p [] = omega arith
length_rest t s p (r ∷ rs) = let i = length_rest t s (p + 1) rs in by (t (filed_at s p r)) i
  where
    by : (b : Bool) → length (those t (filed s (p + 1) rs)) ≤ length rs → length (cond b (filed_at s p r ∷ those t (filed s (p + 1) rs)) (those t (filed s (p + 1) rs))) ≤ suc (length rs)
    by true i = omega arith
    by false i = omega arith

-- Records of one number stand in a listing as they arrived.
pub one_number : (n : ℕ) (rs : List Record) → ((r : Record) → Among r rs → number_of r ≡ n) → by_number rs ≡ rs
one_number n [] h = refl
one_number n (r ∷ rs) h = ap (put_by_number r) (one_number n rs (λ x a. h x (inr a))) ∙ ahead rs (λ x a. h x (inr a))
  where
    ahead : (xs : List Record) → ((x : Record) → Among x xs → number_of x ≡ n) → put_by_number r xs ≡ r ∷ xs
    ahead [] g = refl
    ahead (x ∷ xs) g = let a = h r (inl refl) in let b = g x (inl refl) in cond-true _ _ _ (le-leb (number_of r) (number_of x) (omega arith))

pub listed_number : (n : ℕ) (xs : List Record) → by_number (those (bears_number n) xs) ≡ those (bears_number n) xs
listed_number n xs = one_number n (those (bears_number n) xs) (λ r a. eqb-true _ _ (those_among (bears_number n) r xs a).1)

-- Of those that bear a number, those that bear a key too.
pub both_under : (n : ℕ) (key : List ℕ) (xs : List Record) → those (bears_both n key) (those (bears_number n) xs) ≡ those (bears_both n key) xs
both_under n key xs = those_under (bears_both n key) (bears_number n) xs (λ r a e. (and_parts (bears_number n r) (bears_key key r) e).0)

pub both_none : (n s q : ℕ) (key : List ℕ) (done : List Record) (row : Row) → those (bears_both n key) done ≡ [] → same_bytes row.key key ≡ false → those (bears_both n key) (done ++ filed_at s q row ∷ []) ≡ []
both_none n s q key done row none e =
    those-++ (bears_both n key) done (filed_at s q row ∷ []) ∙ ap (λ ys. ys ++ those (bears_both n key) (filed_at s q row ∷ [])) none
    ∙ those_no (bears_both n key) (filed_at s q row) [] (and_right (bears_number n (filed_at s q row)) (bears_key key (filed_at s q row)) e)

-- One that bears both is there, whatever else is.
some_here : (t : Record → Bool) (us ws : List Record) (x : Record) → t x ≡ true → some_in (those t (us ++ x ∷ ws)) ≡ true
some_here t [] ws x e = ap some_in (those_yes t x ws e)
some_here t (u ∷ us) ws x e = by (cases_Bool (t u)) (some_here t us ws x e)
  where
    by : (t u ≡ true) ⊎ (t u ≡ false) → some_in (those t (us ++ x ∷ ws)) ≡ true → some_in (those t (u ∷ (us ++ x ∷ ws))) ≡ true
    by (inl y) again = ap some_in (those_yes t u (us ++ x ∷ ws) y)
    by (inr y) again = ap some_in (those_no t u (us ++ x ∷ ws) y) ∙ again

pub both_some : (n s q : ℕ) (key : List ℕ) (rows : List Row) (done : List Record) (row : Row) → WalksNumber n s rows done (Some q) → slice_get rows q ≡ Some row → row.label.number ≡ n → same_bytes row.key key ≡ true
    → some_in (those (bears_both n key) (rest (bears_number n) s rows 0)) ≡ true
both_some n s q key rows done row w there number e =
    ap (λ ys. some_in (those (bears_both n key) ys)) (w.all ∙ ap (λ ys. done ++ ys) (rest_yes (bears_number n) s rows q row there (eq-eqb _ _ number)))
    ∙ some_here (bears_both n key) done (rest (bears_number n) s rows (q + 1)) (filed_at s q row) (and_from (bears_number n (filed_at s q row)) (bears_key key (filed_at s q row)) (eq-eqb _ _ number) e)

-- What lies at a place: the row at that position of the number's section, if it has the number.
module _ (l : ℕ) (m : Meaning) (p : Place) (law : Lawful m) (homed : AllByRecursion (Homed l) m.sections) where
  at_section : those (lies_at p) (records_of m.sections) ≡ rest (lies_at p) (section_of l p.number) (rows_of m.sections (section_of l p.number)) 0
  at_section =
      sym (own l p.number (lies_at p) (records_of m.sections) (homed_records l m.sections homed) (λ r e. eqb-true _ _ (and_parts (bears_number p.number r) (eqb r.position p.position) e).0))
      ∙ ap (those (lies_at p)) (starts_records (section_of l p.number) m.floor m.sections law.rising)

  elsewhere : (s q : ℕ) (row : Row) → (q ≡ p.position → ⊥) → lies_at p (filed_at s q row) ≡ true → ⊥
  elsewhere s q row ne e = ne (eqb-true _ _ (and_parts (bears_number p.number (filed_at s q row)) (eqb q p.position) e).1)

  module _ (s : ℕ) (home : section_of l p.number ≡ s) where
    rows : List Row
    rows = rows_of m.sections s

    skips : (a b : ℕ) → a ≤ b → ((q : ℕ) → a ≤ q → q < b → q ≡ p.position → ⊥) → rest (lies_at p) s (rows_of m.sections s) a ≡ rest (lies_at p) s (rows_of m.sections s) b
    skips a b le away = rest_skip (lies_at p) s (rows_of m.sections s) a b le (λ q row i j h e. elsewhere s q row (away q i j) e)

    here_on : those (lies_at p) (records_of m.sections) ≡ rest (lies_at p) s (rows_of m.sections s) p.position
    here_on = at_section ∙ ap (λ i. rest (lies_at p) i (rows_of m.sections i) 0) home ∙ skips 0 p.position (omega arith) (λ q i j e. omega arith)

    after_it : rest (lies_at p) s (rows_of m.sections s) (p.position + 1) ≡ []
    after_it = by (cases_lt (p.position + 1) (length (rows_of m.sections s)))
      where
        by : (p.position + 1 < length (rows_of m.sections s)) ⊎ (length (rows_of m.sections s) ≤ p.position + 1) → rest (lies_at p) s (rows_of m.sections s) (p.position + 1) ≡ []
        by (inl lt) =
            skips (p.position + 1) (length (rows_of m.sections s)) (omega arith) (λ q i j e. omega arith)
            ∙ rest_past (lies_at p) s (rows_of m.sections s) (length (rows_of m.sections s)) (omega arith)
        by (inr le) = rest_past (lies_at p) s (rows_of m.sections s) (p.position + 1) le

    pub none_there : row_at m s p.position ≡ None → those (lies_at p) (records_of m.sections) ≡ []
    none_there e = here_on ∙ rest_past (lies_at p) s (rows_of m.sections s) p.position (nth_past (rows_of m.sections s) p.position e)

    pub other_there : (row : Row) → row_at m s p.position ≡ Some row → (row.label.number ≡ p.number → ⊥) → those (lies_at p) (records_of m.sections) ≡ []
    other_there row e ne =
        here_on ∙ rest_no (lies_at p) s (rows_of m.sections s) p.position row e (and_left _ (eqb p.position p.position) (ne_eqb row.label.number p.number ne)) ∙ after_it

    pub lies_there : (row : Row) → row_at m s p.position ≡ Some row → row.label.number ≡ p.number → those (lies_at p) (records_of m.sections) ≡ filed_at s p.position row ∷ []
    lies_there row e q =
        here_on ∙ rest_yes (lies_at p) s (rows_of m.sections s) p.position row e (and_from _ _ (eq-eqb row.label.number p.number q) (eq-eqb p.position p.position refl))
        ∙ ap (λ ys. filed_at s p.position row ∷ ys) after_it
