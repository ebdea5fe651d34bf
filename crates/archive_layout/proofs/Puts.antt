-- A put, by the rules, on each of its ways. Assumes nothing.
use Rattle.std.proofs.Common.{◌≡◌, ℕ, ◌-◌, ◌≤◌, Bool, true, false, List, is_some, Some, Ok, Result, sym, ap, ◌∙◌}
use Rattle.std.proofs.lemmas.Bool.{cond-true, cond-false, le-ltb, or_right, or_from}
use Rattle.journal.specs.declared.row.Label.{Label}
use Rattle.journal.specs.declared.fault.JournalFault.{JournalFault}
use Rattle.journal.specs.Meaning.{Meaning, Lawful}
use Rattle.journal.specs.Calls.{append_answer, appended}
use Rattle.rules.specs.declared.answer.Put.{Put}
use Rattle.rules.specs.declared.answer.Put.TheVariants.{AlreadyThere}
use Rattle.rules.specs.declared.fault.ArchiveFault.{ArchiveFault}
use Rattle.rules.specs.State.{State, section_of, or_zero}
use Rattle.rules.specs.Calls.{is_below, is_there, if_loaded, changed_if_loaded, stored_by, put_at, put_answer, put_next, put_after, with_journal}
use Rattle.index_layout.specs.Views.{View, first_in}
use Rattle.index_layout.specs.Held.{found}
use Rattle.archive_layout.specs.Fit.{Coding, Fit}
use Rattle.archive_layout.proofs.Numbers.{there_is}

-- An answer and the state after it are those of the rules.
pub record PutIs (s s' : State) (multi : Bool) (label : Label) (key value : List ℕ) (r : Result Put ArchiveFault) : Type 0 where
  pub answer : r ≡ put_answer s multi label key value
  pub after : s' ≡ put_after s multi label key value

module _ (s : State) (multi : Bool) (label : Label) (key value : List ℕ) where
  module _ (l : ℕ) (e : s.size ≡ Some l) where
    by_size : (s' : State) (r : Result Put ArchiveFault) → r ≡ put_at l s multi label key value → s' ≡ put_next l s multi label key value → PutIs s s' multi label key value r
    by_size s' r a b = record {
      answer = a ∙ ap (λ o. if_loaded o (λ l. put_at l s multi label key value)) (sym e);
      after = b ∙ sym (ap (λ o. changed_if_loaded o (λ l. put_next l s multi label key value) s) e);
    }

    pub already : or_zero s.floor ≤ label.number → is_there multi s label.number ≡ true → PutIs s s multi label key value (Ok AlreadyThere)
    already h there =
        let t : is_below s label.number ≡ false = le-ltb _ _ h in
        by_size s (Ok AlreadyThere) (sym (cond-false _ _ _ t ∙ cond-true _ _ _ there)) (sym (cond-true _ _ _ (or_right _ _ there)))

    pub tried : (start : ℕ) (m' : Meaning) (r : Result ℕ JournalFault) → or_zero s.floor ≤ label.number → is_there multi s label.number ≡ false → start ≡ section_of l label.number
        → r ≡ append_answer s.journal start key value → m' ≡ appended s.journal start label key value → PutIs s (with_journal s m') multi label key value (stored_by start r)
    tried start m' r h there home er em =
        let t : is_below s label.number ≡ false = le-ltb _ _ h in
        by_size (with_journal s m') (stored_by start r)
        (ap (stored_by start) er ∙ ap (λ i. stored_by i (append_answer s.journal i key value)) home ∙ sym (cond-false _ _ _ t ∙ cond-false _ _ _ there))
        (ap (with_journal s) (em ∙ ap (λ i. appended s.journal i label key value) home) ∙ sym (cond-false _ _ _ (or_from _ _ t there)))

-- The test by the index is the test of the rules.
pub there_by : {k : Coding} {width l : ℕ} {vs : List View} (s : State) (b : Bool) (n start offset : ℕ) → Fit k width l s.journal vs → Lawful s.journal → start ≡ section_of l n → offset ≡ n - start
    → b ≡ is_some (first_in (found vs start) offset) → is_there false s n ≡ b
there_by {k = k} {width = width} {l = l} {vs = vs} s b n start offset fit law home near e =
    there_is k width l s.journal vs n start fit law (sym home) ∙ ap (λ i. is_some (first_in (found vs start) i)) (sym near) ∙ sym e
