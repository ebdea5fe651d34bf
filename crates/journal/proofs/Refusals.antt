-- Which refusal an append gets, from the facts in their order. Assumes nothing.
use Rattle.std.proofs.Common.{◌≡◌, ℕ, ◌+◌, ◌<◌, ◌≤◌, true, false, List, length, Some, None, Ok, Err, Option, sym, ap, ◌∙◌}
use Rattle.std.proofs.lemmas.Bool.{cond-true, cond-false, lt-ltb, le-ltb, eq-eqb, ne_eqb, not_from_true, not_from_false}
use Rattle.journal.specs.declared.row.Label.{Label}
use Rattle.journal.specs.declared.fault.JournalFault.{JournalFault}
use Rattle.journal.specs.declared.fault.JournalFault.TheVariants.{WrongWidth, BelowFloor, NoSlot, RowsFull, BytesFull}
use Rattle.journal.specs.Meaning.{Meaning, rows_of, cost, cost_of}
use Rattle.journal.specs.Calls.{no_slot, append_fault, append_answer, appended, or_fault, or_keep, with_row, new_row}

module _ (m : Meaning) (s : ℕ) (key value : List ℕ) where
  pub fault_width : (length key ≡ m.limits.width → ⊥) → append_fault m s key value ≡ Some WrongWidth
  fault_width w = cond-true _ _ _ (not_from_false _ (ne_eqb _ _ w))

  module _ (w : length key ≡ m.limits.width) where
    pub fault_floor : s < m.floor → append_fault m s key value ≡ Some (BelowFloor s)
    fault_floor f = cond-false _ _ _ (not_from_true _ (eq-eqb _ _ w)) ∙ cond-true _ _ _ (lt-ltb _ _ f)

    module _ (f : m.floor ≤ s) where
      pub fault_slot : no_slot m s ≡ true → append_fault m s key value ≡ Some (NoSlot s)
      fault_slot n = cond-false _ _ _ (not_from_true _ (eq-eqb _ _ w)) ∙ cond-false _ _ _ (le-ltb _ _ f) ∙ cond-true _ _ _ n

      module _ (n : no_slot m s ≡ false) where
        pub fault_rows : m.limits.rows ≤ length (rows_of m.sections s) → append_fault m s key value ≡ Some (RowsFull s)
        fault_rows r = cond-false _ _ _ (not_from_true _ (eq-eqb _ _ w)) ∙ cond-false _ _ _ (le-ltb _ _ f) ∙ cond-false _ _ _ n ∙ cond-true _ _ _ (not_from_false _ (le-ltb _ _ r))

        module _ (r : length (rows_of m.sections s) < m.limits.rows) where
          pub fault_bytes : m.limits.bytes < cost (rows_of m.sections s) + cost_of (length value) → append_fault m s key value ≡ Some (BytesFull s)
          fault_bytes b = cond-false _ _ _ (not_from_true _ (eq-eqb _ _ w)) ∙ cond-false _ _ _ (le-ltb _ _ f) ∙ cond-false _ _ _ n ∙ cond-false _ _ _ (not_from_true _ (lt-ltb _ _ r)) ∙ cond-true _ _ _ (lt-ltb _ _ b)

          pub fault_none : cost (rows_of m.sections s) + cost_of (length value) ≤ m.limits.bytes → append_fault m s key value ≡ None
          fault_none b = cond-false _ _ _ (not_from_true _ (eq-eqb _ _ w)) ∙ cond-false _ _ _ (le-ltb _ _ f) ∙ cond-false _ _ _ n ∙ cond-false _ _ _ (not_from_true _ (lt-ltb _ _ r)) ∙ cond-false _ _ _ (le-ltb _ _ b)

  -- A refused append: its answer, and that it leaves the meaning.
  pub refused : (label : Label) (e : JournalFault) → append_fault m s key value ≡ Some e → (Err e ≡ append_answer m s key value) × (m ≡ appended m s label key value)
  refused label e h = (
    sym (ap (λ (o : Option JournalFault). or_fault o (length (rows_of m.sections s))) h),
    sym (ap (λ (o : Option JournalFault). or_keep o (with_row m s (new_row label key value)) m) h),
  )

  -- An accepted one: its answer, and the row that the meaning has more.
  pub taken : (label : Label) → append_fault m s key value ≡ None
      → (Ok (length (rows_of m.sections s)) ≡ append_answer m s key value) × (with_row m s (new_row label key value) ≡ appended m s label key value)
  taken label h = (
    sym (ap (λ (o : Option JournalFault). or_fault o (length (rows_of m.sections s))) h),
    sym (ap (λ (o : Option JournalFault). or_keep o (with_row m s (new_row label key value)) m) h),
  )
