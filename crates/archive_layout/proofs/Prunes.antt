-- A prune, the counts and a load, by the rules. Assumes nothing.
use Rattle.std.proofs.Common.{◌≡◌, ℕ, ◌<◌, ◌≤◌, Bool, true, false, cond, not, eqb, ◌⊎◌, List, length, Some, None, Ok, Err, Option, Result, sym, ap, ◌∙◌, ap₂, inl, inr, arith}
use Rattle.std.proofs.lemmas.Bool.{cond-true, cond-false, cases_Bool, and_parts, leb-true, eqb-true}
use Rattle.journal.specs.Meaning.{Meaning, Lawful}
use Rattle.journal.specs.Calls.{pruned, or_fault, or_keep}
use Rattle.journal.specs.Making.{between}
use Rattle.rules.specs.declared.answer.Pruned.{Pruned}
use Rattle.rules.specs.declared.answer.Pruned.TheVariants.{Struck}
use Rattle.rules.specs.declared.answer.Counts.{Counts}
use Rattle.rules.specs.declared.fault.ArchiveFault.{ArchiveFault}
use Rattle.rules.specs.declared.fault.ArchiveFault.TheVariants.{SectionSize, JournalLimits, KeyWidth}
use Rattle.rules.specs.State.{Kind, State, section_of, records_of, kept, distinct}
use Rattle.rules.specs.Calls.{if_loaded, changed_if_loaded, floor_reaches, struck, prune_at, prune_answer, prune_next, prune_after, counts_answer, archive_limits, load_check, first_fault, row_fault, fresh_load_fault, load_fault_by, load_fault, load_answer, loaded, load_after}
use Rattle.index_layout.specs.Views.{View, Apart}
use Rattle.index_layout.specs.Held.{total, under, records, numbers}
use Rattle.archive_layout.specs.Fit.{Coding, Fit}
use Rattle.archive_layout.proofs.Counting.{those_old, counted_records, counted_numbers}

pub record PruneIs (s s' : State) (min : ℕ) (r : Result Pruned ArchiveFault) : Type 0 where
  pub answer : r ≡ prune_answer s min
  pub after : s' ≡ prune_after s min

module _ (s : State) (min : ℕ) where
  module _ (l start : ℕ) (e : s.size ≡ Some l) (home : start ≡ section_of l min) where
    by_start : (s' : State) (r : Result Pruned ArchiveFault) → r ≡ prune_at s start → s' ≡ prune_next s start → PruneIs s s' min r
    by_start s' r a b = record {
      answer = a ∙ ap (prune_at s) home ∙ ap (λ o. if_loaded o (λ l. prune_at s (section_of l min))) (sym e);
      after = b ∙ ap (prune_next s) home ∙ sym (ap (λ o. changed_if_loaded o (λ l. prune_next s (section_of l min)) s) e);
    }

    pub prune_struck : (k : Coding) (width ns rs : ℕ) (m' : Meaning) (vs : List View) → floor_reaches s.floor start ≡ false → Fit k width l s.journal vs → Lawful s.journal → Apart vs
        → ns ≡ total (under start numbers) vs → rs ≡ total (under start records) vs → m' ≡ pruned s.journal start
        → PruneIs s (record { size = s.size; floor = Some start; journal = m' }) min (Ok (Struck ns rs))
    prune_struck k width ns rs m' vs h fit law apart en er to =
        let a : ns ≡ distinct (struck s start) = en ∙ counted_numbers k width l s.journal vs (Some start) fit law apart ∙ ap distinct (sym (those_old start s.journal.sections)) in
        let b : rs ≡ length (struck s start) = er ∙ counted_records k width l s.journal vs (Some start) fit law apart ∙ ap length (sym (those_old start s.journal.sections)) in
        by_start (record { size = s.size; floor = Some start; journal = m' }) (Ok (Struck ns rs))
        (ap₂ (λ (x : ℕ) (y : ℕ). Ok (Struck x y)) a b ∙ sym (cond-false _ _ _ h))
        (ap (λ m. record { size = s.size; floor = Some start; journal = m }) to ∙ sym (cond-false _ _ _ h))

pub counts_are : (k : Coding) (width : ℕ) (s : State) (l ns rs : ℕ) (vs : List View) → s.size ≡ Some l → Fit k width l s.journal vs → Lawful s.journal → Apart vs
    → ns ≡ total numbers vs → rs ≡ total records vs → Ok (record { records = rs; numbers = ns; floor = s.floor }) ≡ counts_answer s
counts_are k width s l ns rs vs e fit law apart en er =
    ap₂ (λ (x : ℕ) (y : ℕ). Ok (record { records = x; numbers = y; floor = s.floor })) (er ∙ counted_records k width l s.journal vs None fit law apart) (en ∙ counted_numbers k width l s.journal vs None fit law apart)
    ∙ ap (λ o. if_loaded {X = Counts} o (λ _. Ok (record { records = length (kept s); numbers = distinct (kept s); floor = s.floor }))) (sym e)

-- A load.
pub record LoadIs (kind : Kind) (s s' : State) (l : ℕ) (r : Result ℕ ArchiveFault) : Type 0 where
  pub answer : r ≡ load_answer kind s l
  pub after : s' ≡ load_after kind s l

module _ (kind : Kind) (s : State) (l : ℕ) where
  pub load_refused : (f : ArchiveFault) → load_fault kind s l ≡ Some f → LoadIs kind s s l (Err f)
  load_refused f e = record { answer = ap (λ o. or_fault o (length (kept s))) (sym e); after = ap (λ o. or_keep o (loaded s l) s) (sym e) }

  pub load_accepted : (s' : State) (n : ℕ) → load_fault kind s l ≡ None → n ≡ length (kept s) → s' ≡ loaded s l → LoadIs kind s s' l (Ok n)
  load_accepted s' n e c to = record {
    answer = ap (λ i. Ok i) c ∙ ap (λ o. or_fault o (length (kept s))) (sym e);
    after = to ∙ ap (λ o. or_keep o (loaded s l) s) (sym e);
  }

  module _ (fresh : s.size ≡ None) where
    new_fault : load_fault kind s l ≡ fresh_load_fault kind s.journal l
    new_fault = ap (λ o. load_fault_by kind o s.journal l) fresh

    -- What the check before any row refuses, the load does; what it lets pass is decided by the rows.
    pub fault_checked : (f : ArchiveFault) → load_check l s.journal.limits kind.width ≡ Some f → load_fault kind s l ≡ Some f
    fault_checked f e = new_fault ∙ ap (λ o. first_fault o (row_fault kind l (records_of s.journal.sections))) e

    pub record Passes : Type 0 where
      pub some : 0 < l
      pub few : l ≤ 64
      pub limits : archive_limits s.journal.limits ≡ true
      pub wide : s.journal.limits.width ≡ kind.width
      pub rows : load_fault kind s l ≡ row_fault kind l (records_of s.journal.sections)

    pub passes : load_check l s.journal.limits kind.width ≡ None → Passes
    passes e = by (cases_Bool (between 1 l 64)) (cases_Bool (archive_limits s.journal.limits)) (cases_Bool (eqb kind.width s.journal.limits.width))
      where
        no : (x : ArchiveFault) → ◌≡◌ {A = Option ArchiveFault} (Some x) None → ⊥
        no x q = let z : ◌≡◌ {A = ℕ} 0 1 = cc in omega arith

        by : (between 1 l 64 ≡ true) ⊎ (between 1 l 64 ≡ false) → (archive_limits s.journal.limits ≡ true) ⊎ (archive_limits s.journal.limits ≡ false)
            → (eqb kind.width s.journal.limits.width ≡ true) ⊎ (eqb kind.width s.journal.limits.width ≡ false) → Passes
        by (inr a) b c = absurd (no SectionSize (sym (cond-true _ _ _ (ap not a)) ∙ e))
        by (inl a) (inr b) c = absurd (no JournalLimits (sym (cond-false _ _ _ (ap not a) ∙ cond-true _ _ _ (ap not b)) ∙ e))
        by (inl a) (inl b) (inr c) = absurd (no KeyWidth (sym (cond-false _ _ _ (ap not a) ∙ cond-false _ _ _ (ap not b) ∙ cond-true _ _ _ (ap not c)) ∙ e))
        by (inl a) (inl b) (inl c) =
            let p = and_parts _ _ a in
            let q = leb-true 1 l p.0 in record {
              some = omega (arith, q);
              few = leb-true _ _ p.1;
              limits = b;
              wide = sym (eqb-true _ _ c);
              rows = new_fault ∙ ap (λ o. first_fault o (row_fault kind l (records_of s.journal.sections))) e;
            }
