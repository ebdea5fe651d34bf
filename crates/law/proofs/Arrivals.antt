-- The kept records by arrival and those in the journal: the same in each section. Assumes nothing.
use Rattle.std.proofs.Common.{◌≡◌, ℕ, ◌+◌, ◌<◌, ◌≤◌, Bool, true, false, cond, eqb, ltb, ◌⊎◌, List, [], ◌∷◌, ◌++◌, length, sym, refl, ap, ◌∙◌, inl, inr, append-nil, div-lt_iff_lt-mul, lt_of_mul-lt-mul_right, div-mul-le_self, arith, length-append}
use Rattle.std.proofs.lemmas.Bool.{cases_Bool, cases_lt, eq-eqb, ne_eqb, eqb-true, eqb-false, le-leb, lt-leb, cond-true, cond-false}
use Rattle.journal.specs.Meaning as journal
use Rattle.journal.specs.Meaning.{Section, Row, rows_of}
use Rattle.journal.specs.Calls.{placed, kept_from}
use Rattle.journal.proofs.Rows.{rows_below, rows_placed, rows_kept_from, rows_gone}
use Rattle.journal.proofs.Laws.{rising_placed}
use Rattle.rules.specs.State.{Record, section_of, filed, records_of, those}
use Rattle.rules.specs.Calls.{Among}
use Rattle.rules.specs.History.{rows_in, from_number, in_section, position_after, arrival, arrived}
use Rattle.law.proofs.Lists.{those_yes, those_no, those-++, those_all, those_none, those_under, those_apart}

-- Sections of numbers.
pub under : (l n x : ℕ) → 0 < l → section_of l n < section_of l x → n < section_of l x
under l n x p h = (div-lt_iff_lt-mul p).0 (lt_of_mul-lt-mul_right l h)

pub at_most : (l n : ℕ) → section_of l n ≤ n
at_most l n = div-mul-le_self n l

pub over : (l n x : ℕ) → 0 < l → section_of l x ≤ n → section_of l x ≤ section_of l n
over l n x p h = by (cases_lt (section_of l n) (section_of l x))
  where
    by : (section_of l n < section_of l x) ⊎ (section_of l x ≤ section_of l n) → section_of l x ≤ section_of l n
    by (inl k) = let u = under l n x p k in let z : ⊥ = omega arith in absurd z
    by (inr k) = k

-- Records of one section.
abbrev pub starts : ℕ → Record → Bool
starts s r = eqb r.start s

filed_start : (s p : ℕ) (rs : List Row) (r : Record) → Among r (filed s p rs) → r.start ≡ s
filed_start s p [] r a = absurd a
filed_start s p (x ∷ rs) r (inl e) = ap (λ y. y.start) e
filed_start s p (x ∷ rs) r (inr a) = filed_start s (p + 1) rs r a

pub starts_records : (s low : ℕ) (xs : List Section) → journal.Rising low xs → those (starts s) (records_of xs) ≡ filed s 0 (rows_of xs s)
starts_records s low [] up = refl
starts_records s low (x ∷ xs) up = those-++ (starts s) (filed x.start 0 x.rows) (records_of xs) ∙ by (cases_Bool (eqb x.start s)) (starts_records s (x.start + 1) xs up.1)
  where
    by : (eqb x.start s ≡ true) ⊎ (eqb x.start s ≡ false) → those (starts s) (records_of xs) ≡ filed s 0 (rows_of xs s)
        → those (starts s) (filed x.start 0 x.rows) ++ those (starts s) (records_of xs) ≡ filed s 0 (rows_of (x ∷ xs) s)
    by (inl e) i =
        let q = eqb-true x.start s e in
        let a = those_all (starts s) (filed x.start 0 x.rows) (λ r k. eq-eqb r.start s (filed_start x.start 0 x.rows r k ∙ q)) in
        let b = i ∙ ap (filed s 0) (rows_below (x.start + 1) xs s up.1 (omega arith)) in
        ap (λ ys. ys ++ those (starts s) (records_of xs)) a ∙ ap (λ ys. filed x.start 0 x.rows ++ ys) b ∙ append-nil (filed x.start 0 x.rows)
        ∙ ap (λ z. filed z 0 x.rows) q ∙ ap (filed s 0) (sym (cond-true (eqb x.start s) x.rows (rows_of xs s) e))
    by (inr e) i =
        let a = those_none (starts s) (filed x.start 0 x.rows) (λ r k. ne_eqb r.start s (λ z. eqb-false x.start s e (sym (filed_start x.start 0 x.rows r k) ∙ z))) in
        ap (λ ys. ys ++ those (starts s) (records_of xs)) a ∙ i ∙ ap (filed s 0) (sym (cond-false (eqb x.start s) x.rows (rows_of xs s) e))

-- By arrival: the rows of a section, in their order, have the positions from 0 on.
pub starts_arrived : (l s : ℕ) (before rs : List Row) → those (starts s) (arrived l before rs) ≡ filed s (position_after l before s) (those (in_section l s) rs)
starts_arrived l s before [] = refl
starts_arrived l s before (r ∷ rs) = by (cases_Bool (in_section l s r)) (starts_arrived l s (before ++ r ∷ []) rs)
  where
    by : (in_section l s r ≡ true) ⊎ (in_section l s r ≡ false)
        → those (starts s) (arrived l (before ++ r ∷ []) rs) ≡ filed s (position_after l (before ++ r ∷ []) s) (those (in_section l s) rs)
        → those (starts s) (arrived l before (r ∷ rs)) ≡ filed s (position_after l before s) (those (in_section l s) (r ∷ rs))
    by (inl e) i =
        let q = eqb-true (section_of l r.label.number) s e in
        let G : ℕ → Record = λ z. record { start = z; position = position_after l before z; row = r } in
        let n : position_after l (before ++ r ∷ []) s ≡ position_after l before s + 1 =
        ap length (those-++ (in_section l s) before (r ∷ []) ∙ ap (λ ys. those (in_section l s) before ++ ys) (those_yes (in_section l s) r [] e)) ∙ length-append (those (in_section l s) before) (r ∷ []) in
        those_yes (starts s) (arrival l before r) (arrived l (before ++ r ∷ []) rs) e
        ∙ ap (λ ys. arrival l before r ∷ ys) (i ∙ ap (λ p. filed s p (those (in_section l s) rs)) n) ∙ ap (λ y. y ∷ filed s (position_after l before s + 1) (those (in_section l s) rs)) (ap G q)
        ∙ ap (filed s (position_after l before s)) (sym (those_yes (in_section l s) r rs e))
    by (inr e) i =
        let n : position_after l (before ++ r ∷ []) s ≡ position_after l before s =
        ap length (those-++ (in_section l s) before (r ∷ []) ∙ ap (λ ys. those (in_section l s) before ++ ys) (those_no (in_section l s) r [] e) ∙ append-nil (those (in_section l s) before)) in
        those_no (starts s) (arrival l before r) (arrived l (before ++ r ∷ []) rs) e
        ∙ i ∙ ap (λ p. filed s p (those (in_section l s) rs)) n ∙ ap (filed s (position_after l before s)) (sym (those_no (in_section l s) r rs e))

-- The book's rows and the journal's: the same rows in each section, in the same order.
pub record Held (l : ℕ) (rs : List Row) (xs : List Section) : Type 0 where
  pub some : 0 < l
  pub up : journal.Rising 0 xs
  pub rows : (s : ℕ) → those (in_section l s) rs ≡ rows_of xs s

-- Every row of a section belongs there.
abbrev pub Home : ℕ → List Section → Type 0
Home l [] = Unit {0}
Home l (x ∷ xs) = ((r : Row) → Among r x.rows → section_of l r.label.number ≡ x.start) × Home l xs

-- A load.
rows_loaded : (l s low : ℕ) (xs : List Section) → journal.Rising low xs → Home l xs → those (in_section l s) (rows_in xs) ≡ rows_of xs s
rows_loaded l s low [] up h = refl
rows_loaded l s low (x ∷ xs) up h = those-++ (in_section l s) x.rows (rows_in xs) ∙ by (cases_Bool (eqb x.start s)) (rows_loaded l s (x.start + 1) xs up.1 h.1)
  where
    by : (eqb x.start s ≡ true) ⊎ (eqb x.start s ≡ false) → those (in_section l s) (rows_in xs) ≡ rows_of xs s
        → those (in_section l s) x.rows ++ those (in_section l s) (rows_in xs) ≡ rows_of (x ∷ xs) s
    by (inl e) i =
        let q = eqb-true x.start s e in
        let a = those_all (in_section l s) x.rows (λ r k. eq-eqb (section_of l r.label.number) s (h.0 r k ∙ q)) in
        let b = i ∙ rows_below (x.start + 1) xs s up.1 (omega arith) in
        ap (λ ys. ys ++ those (in_section l s) (rows_in xs)) a ∙ ap (λ ys. x.rows ++ ys) b ∙ append-nil x.rows ∙ sym (cond-true (eqb x.start s) x.rows (rows_of xs s) e)
    by (inr e) i =
        let a = those_none (in_section l s) x.rows (λ r k. ne_eqb (section_of l r.label.number) s (λ z. eqb-false x.start s e (sym (h.0 r k) ∙ z))) in
        ap (λ ys. ys ++ those (in_section l s) (rows_in xs)) a ∙ i ∙ sym (cond-false (eqb x.start s) x.rows (rows_of xs s) e)

pub held_loaded : (l : ℕ) (xs : List Section) → 0 < l → journal.Rising 0 xs → Home l xs → Held l (rows_in xs) xs
held_loaded l xs p up h = record { some = p; up = up; rows = λ s. rows_loaded l s 0 xs up h }

-- A put.
pub held_put : (l : ℕ) (rs : List Row) (xs : List Section) (r : Row) → Held l rs xs → Held l (rs ++ r ∷ []) (placed xs (section_of l r.label.number) r)
held_put l rs xs r h = record {
  some = h.some;
  up = rising_placed 0 xs (section_of l r.label.number) r h.up (omega arith);
  rows = λ s. those-++ (in_section l s) rs (r ∷ []) ∙ by s (cases_Bool (in_section l s r)) ∙ sym (rows_placed xs (section_of l r.label.number) s r);
}
  where
    by : (s : ℕ) → (in_section l s r ≡ true) ⊎ (in_section l s r ≡ false)
        → those (in_section l s) rs ++ those (in_section l s) (r ∷ []) ≡ cond (eqb (section_of l r.label.number) s) (rows_of xs s ++ r ∷ []) (rows_of xs s)
    by s (inl e) = ap (λ ys. those (in_section l s) rs ++ ys) (those_yes (in_section l s) r [] e) ∙ ap (λ ys. ys ++ r ∷ []) (h.rows s) ∙ sym (cond-true _ _ _ e)
    by s (inr e) = ap (λ ys. those (in_section l s) rs ++ ys) (those_no (in_section l s) r [] e) ∙ append-nil (those (in_section l s) rs) ∙ h.rows s ∙ sym (cond-false _ _ _ e)

-- A prune.
rising_any : (q low : ℕ) (xs : List Section) → q ≤ low → journal.Rising low xs → journal.Rising q xs
rising_any q low [] h up = tt
rising_any q low (x ∷ xs) h up = (omega (arith, up.0), up.1)

rising_from : (low n : ℕ) (xs : List Section) → journal.Rising low xs → journal.Rising low (kept_from xs n)
rising_from low n [] up = tt
rising_from low n (x ∷ xs) up = by (ltb x.start n) (rising_from (x.start + 1) n xs up.1)
  where
    by : (b : Bool) → journal.Rising (x.start + 1) (kept_from xs n) → journal.Rising low (cond b (kept_from xs n) (x ∷ kept_from xs n))
    by true k = rising_any low (x.start + 1) (kept_from xs n) (omega (arith, up.0)) k
    by false k = (up.0, k)

pub rising_zero : (low : ℕ) (xs : List Section) → journal.Rising low xs → journal.Rising 0 xs
rising_zero low xs up = rising_any 0 low xs (omega arith) up

-- The rows of a section at or above the rounded minimum are not struck; those of a section below it all are.
pub rows_spared : (l s m : ℕ) (rs : List Row) → m ≤ s → those (in_section l s) (those (from_number m) rs) ≡ those (in_section l s) rs
rows_spared l s m rs k =
    those_under (in_section l s) (from_number m) rs
    (λ r a e. le-leb m r.label.number (let d = at_most l r.label.number in omega (arith, d, k, eqb-true (section_of l r.label.number) s e)))

rows_struck : (l s x : ℕ) (rs : List Row) → 0 < l → s < section_of l x → those (in_section l s) (those (from_number (section_of l x)) rs) ≡ []
rows_struck l s x rs p k =
    those_apart (in_section l s) (from_number (section_of l x)) rs
    (λ r a e. lt-leb (section_of l x) r.label.number (under l r.label.number x p (rw (eqb-true (section_of l r.label.number) s e) k)))

pub held_pruned : (l x : ℕ) (rs : List Row) (xs : List Section) → Held l rs xs → Held l (those (from_number (section_of l x)) rs) (kept_from xs (section_of l x))
held_pruned l x rs xs h = record { some = h.some; up = rising_from 0 (section_of l x) xs h.up; rows = λ s. by s (cases_lt s (section_of l x)) }
  where
    by : (s : ℕ) → (s < section_of l x) ⊎ (section_of l x ≤ s) → those (in_section l s) (those (from_number (section_of l x)) rs) ≡ rows_of (kept_from xs (section_of l x)) s
    by s (inl k) = rows_struck l s x rs h.some k ∙ sym (rows_gone xs (section_of l x) s k)
    by s (inr k) = rows_spared l s (section_of l x) rs k ∙ h.rows s ∙ sym (rows_kept_from xs (section_of l x) s k)
