-- A load, row by row. Assumes nothing.
use Rattle.std.proofs.Common.{◌≡◌, ℕ, zero, suc, ◌+◌, ◌-◌, ◌<◌, ◌≤◌, Bool, true, false, cond, not, ◌||◌, eqb, ltb, ◌⊎◌, List, [], ◌∷◌, ◌++◌, length, take, drop, Some, None, Ok, Err, Option, Result, sym, refl, ap, ◌∙◌, subst, inl, inr, append_assoc, arith, length-take}
use Rattle.std.specs.List.{slice_get, AllByRecursion}
use Rattle.std.proofs.lemmas.List.{take-append-drop, take_all}
use Rattle.std.proofs.lemmas.Bool.{cond-true, cond-false, cases_Bool, eq-eqb, ne_eqb, eqb-true, le-ltb, lt-ltb, not-false, and_from, or_left, or_right}
use Rattle.journal.specs.Meaning.{Meaning, Section, Row, rows_of, is_kept}
use Rattle.journal.specs.Calls.{placed, extended, opened, or_fault}
use Rattle.journal.proofs.Rows.{rows_not_kept}
use Rattle.rules.specs.declared.fault.ArchiveFault.{ArchiveFault}
use Rattle.rules.specs.declared.fault.ArchiveFault.TheVariants.{WrongSection, Key}
use Rattle.keys.specs.declared.fault.KeyFault.TheVariants.{StoredKey}
use Rattle.rules.specs.State.{Kind, Record, section_of, number_of, filed, records_of}
use Rattle.rules.specs.Calls.{row_fault, first_fault, is_key}
use Rattle.law.proofs.FirstLoads.{none_both}
use Rattle.index_layout.specs.Views.{View, Apart}
use Rattle.index_layout.specs.Held.{found, total, one, has_room, Noted}
use Rattle.archive_layout.specs.Fit.{Coding, expected, offset_of, code_of, bucket_by, Agree, Homed}
use Rattle.archive_layout.specs.Walks.{filed_at}
use Rattle.archive_layout.specs.Loads.{with_part, IndexesRow, SectionReady, IndexesSection}
use Rattle.archive_layout.proofs.Sums.{sums}
use Rattle.archive_layout.proofs.Fits.{agree_placed, takes_row, offset_near, totals_one, ok_none, err_some}
use Rattle.archive_layout.proofs.Rests.{drop_at, nth_inside, nth_there}

-- Faults of a list of rows, one part after the other.
module _ (kind : Kind) (l : ℕ) where
  pub fault-++ : (us bs : List Record) → row_fault kind l (us ++ bs) ≡ first_fault (row_fault kind l us) (row_fault kind l bs)
  fault-++ [] bs = refl
  fault-++ (a ∷ us) bs = by (not (is_key (kind.flaw a.row.key))) (not (eqb (section_of l (number_of a)) a.start)) (fault-++ us bs)
    where
      by : (x y : Bool) → row_fault kind l (us ++ bs) ≡ first_fault (row_fault kind l us) (row_fault kind l bs)
          → cond x (Some (Key (StoredKey a.start a.position))) (cond y (Some (WrongSection a.start a.position)) (row_fault kind l (us ++ bs)))
          ≡ first_fault (cond x (Some (Key (StoredKey a.start a.position))) (cond y (Some (WrongSection a.start a.position)) (row_fault kind l us))) (row_fault kind l bs)
      by true y e = refl
      by false true e = refl
      by false false e = e

  pub fault_one : (a : Record) (us : List Record) → row_fault kind l (a ∷ us) ≡ first_fault (row_fault kind l (a ∷ [])) (row_fault kind l us)
  fault_one a us = fault-++ (a ∷ []) us

  -- A row without a fault is in its section.
  pub fault_home : (a : Record) → row_fault kind l (a ∷ []) ≡ None → section_of l (number_of a) ≡ a.start
  fault_home a h = by (cases_Bool (not (is_key (kind.flaw a.row.key)))) (cases_Bool (not (eqb (section_of l (number_of a)) a.start)))
    where
      by : (not (is_key (kind.flaw a.row.key)) ≡ true) ⊎ (not (is_key (kind.flaw a.row.key)) ≡ false)
          → (not (eqb (section_of l (number_of a)) a.start) ≡ true) ⊎ (not (eqb (section_of l (number_of a)) a.start) ≡ false) → section_of l (number_of a) ≡ a.start
      by (inl e) f = let k : ◌≡◌ {A = Option ArchiveFault} (Some (Key (StoredKey a.start a.position))) None = sym (cond-true _ _ _ e) ∙ h in let z : ◌≡◌ {A = ℕ} 0 1 = cc in absurd (omega arith)
      by (inr e) (inl f) =
          let k : ◌≡◌ {A = Option ArchiveFault} (Some (WrongSection a.start a.position)) None = sym (cond-false _ _ _ e ∙ cond-true _ _ _ f) ∙ h in let z : ◌≡◌ {A = ℕ} 0 1 = cc in absurd (omega arith)
      by (inr e) (inr f) = eqb-true _ _ (not-false _ f)

  rows_home : (s p : ℕ) (rs : List Row) → row_fault kind l (filed s p rs) ≡ None → AllByRecursion (λ r. section_of l r.label.number ≡ s) rs
  rows_home s p [] h = tt
  rows_home s p (r ∷ rs) h =
      let b = none_both (row_fault kind l (filed_at s p r ∷ [])) (row_fault kind l (filed s (p + 1) rs)) (sym (fault_one (filed_at s p r) (filed s (p + 1) rs)) ∙ h) in
      (fault_home (filed_at s p r) b.0, rows_home s (p + 1) rs b.1)

  pub all_homed : (xs : List Section) → row_fault kind l (records_of xs) ≡ None → AllByRecursion (Homed l) xs
  all_homed [] h = tt
  all_homed (x ∷ xs) h =
      let b = none_both (row_fault kind l (filed x.start 0 x.rows)) (row_fault kind l (records_of xs)) (sym (fault-++ (filed x.start 0 x.rows) (records_of xs)) ∙ h) in
      (rows_home x.start 0 x.rows b.0, all_homed xs b.1)

pub filed-++ : (s p : ℕ) (us bs : List Row) → filed s p (us ++ bs) ≡ filed s p us ++ filed s (p + length us) bs
filed-++ s p [] bs = let e : p + 0 ≡ p = omega arith in ap (λ i. filed s i bs) (sym e)
filed-++ s p (a ∷ us) bs =
    let e : p + 1 + length us ≡ p + suc (length us) = omega arith in
    ap (λ rs. filed_at s p a ∷ rs) (filed-++ s (p + 1) us bs ∙ ap (λ i. filed s (p + 1) us ++ filed s i bs) e)

pub records-++ : (xs ys : List Section) → records_of (xs ++ ys) ≡ records_of xs ++ records_of ys
records-++ [] ys = refl
records-++ (x ∷ xs) ys = ap (λ rs. filed x.start 0 x.rows ++ rs) (records-++ xs ys) ∙ sym (append_assoc (filed x.start 0 x.rows) (records_of xs) (records_of ys))

-- The rows up to p, and the row p.
module _ (rows : List Row) (p : ℕ) (row : Row) (there : slice_get rows p ≡ Some row) where
  pub take_row : take (p + 1) rows ≡ take p rows ++ row ∷ []
  take_row = at rows p there
    where
      at : (xs : List Row) (i : ℕ) → slice_get xs i ≡ Some row → take (i + 1) xs ≡ take i xs ++ row ∷ []
      at [] i h = let z : ◌≡◌ {A = ℕ} 0 1 = cc in absurd (omega arith)
      at (x ∷ xs) zero h = let e : x ≡ row = cc in ap (λ y. y ∷ []) e
      at (x ∷ xs) (suc i) h = let e : suc i + 1 ≡ suc (i + 1) = omega arith in ap (λ j. take j (x ∷ xs)) e ∙ ap (λ ys. x ∷ ys) (at xs i h)

  long_front : length (take p rows) ≡ p
  long_front = let a = length-take p rows in let b = nth_inside rows p row there in omega arith

  pub split_row : (s : ℕ) → filed s 0 rows ≡ filed s 0 (take p rows) ++ filed_at s p row ∷ filed s (p + 1) (drop (p + 1) rows)
  split_row s =
      ap (filed s 0) (sym (take-append-drop p rows) ∙ ap (λ ys. take p rows ++ ys) (drop_at rows p row there))
      ∙ filed-++ s 0 (take p rows) (row ∷ drop (p + 1) rows)
      ∙ (let e : 0 + length (take p rows) ≡ p = omega (arith, long_front) in ap (λ i. filed s 0 (take p rows) ++ filed s i (row ∷ drop (p + 1) rows)) e)

  -- The first fault comes at p where there is none before it.
  pub fault_at : (kind : Kind) (l s : ℕ) (f : ArchiveFault) → row_fault kind l (filed s 0 (take p rows)) ≡ None → row_fault kind l (filed_at s p row ∷ []) ≡ Some f → row_fault kind l (filed s 0 rows) ≡ Some f
  fault_at kind l s f none here =
      ap (row_fault kind l) (split_row s) ∙ fault-++ kind l (filed s 0 (take p rows)) (filed_at s p row ∷ filed s (p + 1) (drop (p + 1) rows))
      ∙ ap (λ o. first_fault o (row_fault kind l (filed_at s p row ∷ filed s (p + 1) (drop (p + 1) rows)))) none
      ∙ fault_one kind l (filed_at s p row) (filed s (p + 1) (drop (p + 1) rows)) ∙ ap (λ o. first_fault o (row_fault kind l (filed s (p + 1) (drop (p + 1) rows)))) here

  pub fault_past : (kind : Kind) (l s : ℕ) → row_fault kind l (filed s 0 (take p rows)) ≡ None → row_fault kind l (filed_at s p row ∷ []) ≡ None → row_fault kind l (filed s 0 (take (p + 1) rows)) ≡ None
  fault_past kind l s none here =
      ap (λ ys. row_fault kind l (filed s 0 ys)) take_row ∙ ap (row_fault kind l) (filed-++ s 0 (take p rows) (row ∷ []))
      ∙ (let e : 0 + length (take p rows) ≡ p = omega (arith, long_front) in ap (λ i. row_fault kind l (filed s 0 (take p rows) ++ filed_at s i row ∷ [])) e)
      ∙ fault-++ kind l (filed s 0 (take p rows)) (filed_at s p row ∷ []) ∙ ap (λ o. first_fault o (row_fault kind l (filed_at s p row ∷ []))) none ∙ here

-- A section that is last of all, row by row.
module _ (ys : List Section) (s : ℕ) (before : AllByRecursion (λ (x : Section). x.start < s) ys) where
  not_kept : (zs : List Section) → AllByRecursion (λ (x : Section). x.start < s) zs → is_kept zs s ≡ false
  not_kept [] h = refl
  not_kept (z ∷ zs) h = cond-false _ _ _ (ne_eqb z.start s (λ e. omega (arith, h.0, e))) ∙ not_kept zs h.1

  opened_last : (zs : List Section) (r : Row) → AllByRecursion (λ (x : Section). x.start < s) zs → opened zs s r ≡ zs ++ record { start = s; rows = r ∷ [] } ∷ []
  opened_last [] r h = refl
  opened_last (z ∷ zs) r h = cond-false _ _ _ (le-ltb s z.start (omega (arith, h.0))) ∙ ap (λ xs. z ∷ xs) (opened_last zs r h.1)

  kept_last : (zs : List Section) (rs : List Row) → AllByRecursion (λ (x : Section). x.start < s) zs → is_kept (zs ++ record { start = s; rows = rs } ∷ []) s ≡ true
  kept_last [] rs h = cond-true _ _ _ (eq-eqb s s refl)
  kept_last (z ∷ zs) rs h = cond-false _ _ _ (ne_eqb z.start s (λ e. omega (arith, h.0, e))) ∙ kept_last zs rs h.1

  extended_last : (zs : List Section) (rs : List Row) (r : Row) → AllByRecursion (λ (x : Section). x.start < s) zs
      → extended (zs ++ record { start = s; rows = rs } ∷ []) s r ≡ zs ++ record { start = s; rows = rs ++ r ∷ [] } ∷ []
  extended_last [] rs r h = cond-true _ _ _ (eq-eqb s s refl)
  extended_last (z ∷ zs) rs r h = cond-false _ _ _ (ne_eqb z.start s (λ e. omega (arith, h.0, e))) ∙ ap (λ xs. z ∷ xs) (extended_last zs rs r h.1)

  rows_last : (zs : List Section) (rs : List Row) → AllByRecursion (λ (x : Section). x.start < s) zs → rows_of (zs ++ record { start = s; rows = rs } ∷ []) s ≡ rs
  rows_last [] rs h = cond-true _ _ _ (eq-eqb s s refl)
  rows_last (z ∷ zs) rs h = cond-false _ _ _ (ne_eqb z.start s (λ e. omega (arith, h.0, e))) ∙ rows_last zs rs h.1

  pub placed_part : (rs : List Row) (r : Row) → placed (with_part ys s rs) s r ≡ with_part ys s (rs ++ r ∷ [])
  placed_part [] r = cond-false _ _ _ (not_kept ys before) ∙ opened_last ys r before
  placed_part (x ∷ rs) r = cond-true _ _ _ (kept_last ys (x ∷ rs) before) ∙ extended_last ys (x ∷ rs) r before

  pub rows_part : (rs : List Row) → rows_of (with_part ys s rs) s ≡ rs
  rows_part [] = rows_not_kept ys s (not_kept ys before)
  rows_part (x ∷ rs) = rows_last ys (x ∷ rs) before

-- One row more goes in: there is room, and then the index has it.
module _ (k : Coding) (m : Meaning) (ys : List Section) (l width s p : ℕ) (before' vs : List View) (row : Row) (ready : SectionReady k m before' ys l width s) (apart : Apart vs)
    (there : slice_get (rows_of m.sections s) p ≡ Some row) (agree : Agree k vs (with_part ys s (take p (rows_of m.sections s)))) where
  rows : List Row
  rows = rows_of m.sections s

  seat : (rs : List Row) → Agree k vs (with_part ys s rs) → ((found vs s).used || ltb (total one vs) 16) ≡ true
  seat [] a =
      let u = sums k one ys vs 0 ready.rising ready.filled apart a in
      let w = totals_one k ys in
      or_right _ _ (lt-ltb (total one vs) 16 (omega (arith, u, w, ready.slots)))
  seat (x ∷ rs) a = or_left _ _ (ap (λ v. v.used) (a s ∙ ap (expected k s) (rows_part ys s ready.before (x ∷ rs))))

  pub room_in : section_of l row.label.number ≡ s → has_room vs s (row.label.number - s) ≡ true
  room_in home =
      let q = nth_inside (rows_of m.sections s) p row there in
      let long : length (rows_of (with_part ys s (take p (rows_of m.sections s))) s) < 128 =
      subst (λ n. n < 128) (sym (ap length (rows_part ys s ready.before (take p (rows_of m.sections s))) ∙ long_front (rows_of m.sections s) p row there)) (omega (arith, q, ready.rows)) in
      and_from _ _
      (takes_row k vs (with_part ys s (take p (rows_of m.sections s))) s (row.label.number - s) agree (subst (λ i. row.label.number - i < 64) home (offset_near l row.label.number ready.some ready.few)) long)
      (seat (take p (rows_of m.sections s)) agree)

  pub agree_more : (vs' : List View) → Noted vs vs' s (offset_of s row) (code_of k row) (bucket_by k row) → Agree k vs' (with_part ys s (take (p + 1) (rows_of m.sections s)))
  agree_more vs' noted =
      subst (λ zs. Agree k vs' zs)
      (placed_part ys s ready.before (take p (rows_of m.sections s)) row ∙ ap (with_part ys s) (sym (take_row (rows_of m.sections s) p row there)))
      (agree_placed k (with_part ys s (take p (rows_of m.sections s))) vs vs' s row agree noted)

-- The rows of a section, one after another: how far the index has come.
pub record PartIn (kind : Kind) (k : Coding) (l s : ℕ) (rows : List Row) (ys : List Section) (vs : List View) (p : ℕ) : Type 0 where
  pub agree : Agree k vs (with_part ys s (take p rows))
  pub none : row_fault kind l (filed s 0 (take p rows)) ≡ None

module _ (kind : Kind) {k : Coding} {m : Meaning} {ys : List Section} {l width s : ℕ} {before' : List View} (ready : SectionReady k m before' ys l width s) where
  pub part_none : PartIn kind k l s (rows_of m.sections s) ys before' 0
  part_none = record { agree = ready.agree; none = refl }

  module _ {p : ℕ} {vs : List View} (apart : Apart vs) (part : PartIn kind k l s (rows_of m.sections s) ys vs p) (lt : p < length (rows_of m.sections s)) where
    next : (r : Row) × (slice_get (rows_of m.sections s) p ≡ Some r)
    next = nth_there (rows_of m.sections s) p lt

    pub part_row : Row
    part_row = next.0

    pub part_there : slice_get (rows_of m.sections s) p ≡ Some part_row
    unfolding part_row
    part_there = next.1

    pub part_room : section_of l part_row.label.number ≡ s → has_room vs s (part_row.label.number - s) ≡ true
    unfolding part_row
    part_room = room_in k m ys l width s p before' vs next.0 ready apart next.1 part.agree

    module _ {vs' : List View} {r : Result Unit ArchiveFault} (row : IndexesRow kind k l s p part_row vs vs' r) where
      pub part_more : r ≡ Ok tt → PartIn kind k l s (rows_of m.sections s) ys vs' (p + 1)
      unfolding part_row
      part_more e =
          let none = (ok_none (row_fault kind l (filed_at s p next.0 ∷ [])) tt tt (sym row.answer ∙ e)).0 in
          record {
            agree = agree_more k m ys l width s p before' vs next.0 ready apart next.1 part.agree vs' (row.noted none);
            none = fault_past (rows_of m.sections s) p next.0 next.1 kind l s part.none none;
          }

      pub part_fault : (f : ArchiveFault) → r ≡ Err f → row_fault kind l (filed s 0 (rows_of m.sections s)) ≡ Some f
      unfolding part_row
      part_fault f e = fault_at (rows_of m.sections s) p next.0 next.1 kind l s f part.none (err_some (row_fault kind l (filed_at s p next.0 ∷ [])) tt f (sym row.answer ∙ e))

  pub section_refused : (vs' : List View) (f : ArchiveFault) → row_fault kind l (filed s 0 (rows_of m.sections s)) ≡ Some f → IndexesSection kind k l s (rows_of m.sections s) ys vs' (Err f)
  section_refused vs' f e = record {
    answer = ap (λ o. or_fault o (length (rows_of m.sections s))) (sym e);
    agree = λ none. (let z : ◌≡◌ {A = Option ArchiveFault} (Some f) None = sym e ∙ none in let w : ◌≡◌ {A = ℕ} 0 1 = cc in absurd (omega arith));
  }

  pub section_in : {p : ℕ} {vs' : List View} (n : ℕ) → PartIn kind k l s (rows_of m.sections s) ys vs' p → length (rows_of m.sections s) ≤ p → n ≡ length (rows_of m.sections s)
      → IndexesSection kind k l s (rows_of m.sections s) ys vs' (Ok n)
  section_in {p = p} {vs' = vs'} n part le count =
      let all = take_all p (rows_of m.sections s) le in
      record {
        answer = ap (λ i. Ok i) count ∙ ap (λ o. or_fault o (length (rows_of m.sections s))) (sym (ap (λ rs. row_fault kind l (filed s 0 rs)) (sym all) ∙ part.none));
        agree = λ _. subst (λ rs. Agree k vs' (with_part ys s rs)) all part.agree;
      }
