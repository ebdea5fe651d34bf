-- The records that share a translated key, counted slot by slot. Assumes nothing.
use Rattle.std.proofs.Common.{◌≡◌, ℕ, zero, suc, ◌+◌, ◌-◌, ◌%◌, ◌^◌, ◌<◌, ◌≤◌, Bool, true, false, cond, ◌⊎◌, List, [], ◌∷◌, length, Some, None, Option, sym, refl, ap, ◌∙◌, inl, inr, arith, length-append}
use Rattle.std.specs.List.{slice_get}
use Rattle.std.proofs.lemmas.Bool.{cond-true, cond-false, cases_Bool, eq-eqb, eqb-true, both_ways}
use Rattle.journal.specs.Meaning.{Meaning, Section, Row, Lawful}
use Rattle.rules.specs.State.{Kind, filed, records_of, those, is_candidate}
use Rattle.law.proofs.Lists.{those-++}
use Rattle.index_layout.specs.Views.{View, Apart}
use Rattle.index_layout.specs.Held.{total}
use Rattle.archive_layout.specs.Fit.{Coding, full_view, Agree}
use Rattle.archive_layout.specs.Walks.{filed_at, rest, below_link}
use Rattle.archive_layout.specs.Keys.{coded_at, in_place, HandledAt, count_coded, candidates_in, Steps, Coded}
use Rattle.archive_layout.proofs.Sums.{totals, sums}
use Rattle.archive_layout.proofs.Fits.{some_rows}
use Rattle.archive_layout.proofs.Rests.{nth_there, rest_yes, rest_no, rest_past}
use Rattle.archive_layout.proofs.Keys.{is_coded, coded_is, long}
use Rattle.archive_layout.proofs.Handles.{InSlot, WalksOn}

pub count_le : (v : View) (c h n : ℕ) → count_coded v c h n ≤ n
count_le v c h zero = omega arith
count_le v c h (suc n) = let i = count_le v c h n in by (coded_at v c h n) i
  where
    by : (b : Bool) → count_coded v c h n ≤ n → cond b (count_coded v c h n + 1) (count_coded v c h n) ≤ suc n
    by true i = omega arith
    by false i = omega arith

-- A step of a walk: nothing between is counted, and what it comes to is.
module _ (v : View) (c h : ℕ) where
  count_over : (d a : ℕ) → ((q : ℕ) → a ≤ q → q < a + d → coded_at v c h q ≡ true → ⊥) → count_coded v c h (a + d) ≡ count_coded v c h a
  count_over zero a none = let e : a + 0 ≡ a = omega arith in ap (count_coded v c h) e
  count_over (suc d) a none =
      let e : a + suc d ≡ suc (a + d) = omega arith in
      ap (count_coded v c h) e ∙ by (cases_Bool (coded_at v c h (a + d))) ∙ count_over d a (λ q l u. none q l (omega arith))
    where
      by : (coded_at v c h (a + d) ≡ true) ⊎ (coded_at v c h (a + d) ≡ false) → cond (coded_at v c h (a + d)) (count_coded v c h (a + d) + 1) (count_coded v c h (a + d)) ≡ count_coded v c h (a + d)
      by (inl t) = absurd (none (a + d) (omega arith) (omega arith) t)
      by (inr t) = cond-false _ _ _ t

  pub count_step : (n : ℕ) (o : Option ℕ) → Steps v c h n o → count_coded v c h n ≡ count_coded v c h (below_link o)
  count_step n o st =
      let b = st.below in
      let e : below_link o + (n - below_link o) ≡ n = omega arith in
      ap (count_coded v c h) (sym e) ∙ count_over (n - below_link o) (below_link o) (λ q l u. st.between q l (omega arith))

  pub count_here : (q : ℕ) → coded_at v c h q ≡ true → count_coded v c h (q + 1) ≡ count_coded v c h q + 1
  count_here q t = let e : q + 1 ≡ suc q = omega arith in ap (count_coded v c h) e ∙ cond-true _ _ _ t

-- In a section whose slot shows its rows these are the candidates of the rules.
module _ (kind : Kind) (k : Coding) (m : Meaning) (key : List ℕ) (code hash : ℕ) (same : kind.translated ≡ k.translated) (coded : Coded k m key code hash) where
  passes : (s q : ℕ) (rows : List Row) (row : Row) → slice_get rows q ≡ Some row → is_candidate kind key (filed_at s q row) ≡ coded_at (full_view k s rows) code hash q
  passes s q rows row there = by (cases_Bool (coded_at (full_view k s rows) code hash q)) (cases_Bool (is_candidate kind key (filed_at s q row)))
    where
      at : (x : List ℕ) → kind.translated x ≡ k.translated x
      at x = ap (λ f. f x) same

      by : (coded_at (full_view k s rows) code hash q ≡ true) ⊎ (coded_at (full_view k s rows) code hash q ≡ false)
          → (is_candidate kind key (filed_at s q row) ≡ true) ⊎ (is_candidate kind key (filed_at s q row) ≡ false)
          → is_candidate kind key (filed_at s q row) ≡ coded_at (full_view k s rows) code hash q
      by (inl a) b = eq-eqb _ _ (at row.key ∙ coded_is k m key code hash s (full_view k s rows) rows coded refl q row there a ∙ sym (at key)) ∙ sym a
      by (inr a) (inl b) =
          absurd (both_ways (coded_at (full_view k s rows) code hash q) a (is_coded k m key code hash s (full_view k s rows) rows coded refl q row there (sym (at row.key) ∙ eqb-true _ _ b ∙ at key)))
      by (inr a) (inr b) = b ∙ sym a

  counted_rows : (s n : ℕ) (rows : List Row) → n ≤ length rows → count_coded (full_view k s rows) code hash n + length (rest (is_candidate kind key) s rows n) ≡ length (rest (is_candidate kind key) s rows 0)
  counted_rows s zero rows le = omega arith
  counted_rows s (suc n) rows le =
      let r = nth_there rows n (omega arith) in
      let again = counted_rows s n rows (omega arith) in
      let e : suc n ≡ n + 1 = omega arith in
      ap (λ i. count_coded (full_view k s rows) code hash (suc n) + length (rest (is_candidate kind key) s rows i)) e ∙ by r.0 r.1 (cases_Bool (coded_at (full_view k s rows) code hash n)) ∙ again
    where
      by : (row : Row) → slice_get rows n ≡ Some row → (coded_at (full_view k s rows) code hash n ≡ true) ⊎ (coded_at (full_view k s rows) code hash n ≡ false)
          → cond (coded_at (full_view k s rows) code hash n) (count_coded (full_view k s rows) code hash n + 1) (count_coded (full_view k s rows) code hash n) + length (rest (is_candidate kind key) s rows (n + 1))
          ≡ count_coded (full_view k s rows) code hash n + length (rest (is_candidate kind key) s rows n)
      by row there (inl t) =
          let a = cond-true _ (count_coded (full_view k s rows) code hash n + 1) (count_coded (full_view k s rows) code hash n) t in
          let b = ap length (rest_yes (is_candidate kind key) s rows n row there (passes s n rows row there ∙ t)) in
          omega arith
      by row there (inr t) =
          let a = cond-false _ (count_coded (full_view k s rows) code hash n + 1) (count_coded (full_view k s rows) code hash n) t in
          let b = ap length (rest_no (is_candidate kind key) s rows n row there (passes s n rows row there ∙ t)) in
          omega arith

  counted_section : (s : ℕ) (rows : List Row) → candidates_in code hash (full_view k s rows) ≡ length (those (is_candidate kind key) (filed s 0 rows))
  counted_section s rows =
      let a = counted_rows s (length rows) rows (omega arith) in
      let b = ap length (rest_past (is_candidate kind key) s rows (length rows) (omega arith)) in
      let c = ap (count_coded (full_view k s rows) code hash) (long k m key code hash s (full_view k s rows) rows coded refl) in
      omega arith

  counted_sections : (xs : List Section) → totals k (candidates_in code hash) xs ≡ length (those (is_candidate kind key) (records_of xs))
  counted_sections [] = refl
  counted_sections (x ∷ xs) =
      let a = counted_section x.start x.rows in
      let b = counted_sections xs in
      let c = ap length (those-++ (is_candidate kind key) (filed x.start 0 x.rows) (records_of xs)) in
      let d = length-append (those (is_candidate kind key) (filed x.start 0 x.rows)) (those (is_candidate kind key) (records_of xs)) in
      omega arith

  pub counted_candidates : (vs : List View) → Agree k vs m.sections → Lawful m → Apart vs → total (candidates_in code hash) vs ≡ length (those (is_candidate kind key) (records_of m.sections))
  counted_candidates vs agree law apart =
      sums k (candidates_in code hash) m.sections vs m.floor law.rising (some_rows m.limits m.sections law.within) apart agree ∙ counted_sections m.sections

-- Counting along the chain of a slot.
module _ (v : View) (i c h : ℕ) where
  pub count_begins : (r : Option ℕ) → WalksOn v i c h (length v.codes) r → InSlot i r → (0 + count_coded v c h (below_link (in_place r)) ≡ candidates_in c h v) × (candidates_in c h v ≤ 128)
  count_begins r w at =
      let a = count_step v c h (length v.codes) (in_place r) w.steps in
      let b = count_le v c h (below_link (in_place r)) in
      let d = low r at in
      (omega arith, omega arith)
    where
      low : (o : Option ℕ) → InSlot i o → below_link (in_place o) ≤ 128
      low None k = omega arith
      low (Some x) k = let z = k.1 in omega arith

  pub count_goes_on : (x n all : ℕ) (at r : Option ℕ) → at ≡ Some x → HandledAt v i c h x → WalksOn v i c h (x % 2 ^ 40) r → n + count_coded v c h (below_link (in_place at)) ≡ all
      → n + 1 + count_coded v c h (below_link (in_place r)) ≡ all
  count_goes_on x n all at r e here w was =
      let a = count_step v c h (x % 2 ^ 40) (in_place r) w.steps in
      let b = count_here v c h (x % 2 ^ 40) here.coded in
      let d = ap (λ o. count_coded v c h (below_link (in_place o))) e in
      omega arith
