-- One row of a load, by what was read of it. Assumes nothing.
use Rattle.std.proofs.Common.{◌≡◌, ℕ, ◌-◌, true, false, not, eqb, List, [], ◌∷◌, take, is_ok, Some, None, Ok, Option, Result, sym, refl, ap, ◌∙◌, subst}
use Rattle.std.proofs.lemmas.Bool.{cond-false, eq-eqb, both_ways}
use Rattle.keys.specs.declared.fault.KeyFault.{KeyFault}
use Rattle.keys.specs.Reading.{read_answer}
use Rattle.journal.specs.declared.row.Entry.{Entry}
use Rattle.journal.specs.Meaning.{Meaning, Row, row_at}
use Rattle.journal.specs.Calls.{or_fault}
use Rattle.rules.specs.State.{Kind, section_of}
use Rattle.rules.specs.Calls.{is_key, row_fault}
use Rattle.index_layout.specs.Views.{View, bucket_of}
use Rattle.index_layout.specs.Held.{Noted}
use Rattle.archive_layout.specs.Fit.{Coding, code_of, bucket_by}
use Rattle.archive_layout.specs.Walks.{filed_at}
use Rattle.archive_layout.specs.Loads.{IndexesRow}
use Rattle.archive_layout.proofs.Bearers.{ReadRow}

key_of : (o : Option ℕ) (r : Result Unit KeyFault) → r ≡ read_answer o → is_ok r ≡ true → is_key o ≡ true
key_of None r e f = refl
key_of (Some p) r e f = absurd (both_ways _ refl (sym (ap is_ok e) ∙ f))

module _ (kind : Kind) (k : Coding) (l : ℕ) {m : Meaning} {s p : ℕ} {e : Entry} {after : List ℕ} (r : ReadRow m s p e after) {n : ℕ} {row : Row} (wide : n ≡ m.limits.width) (there : row_at m s p ≡ Some row) where
  same : r.row ≡ row
  same = let z : ◌≡◌ {A = Option Row} (Some r.row) (Some row) = sym r.there ∙ there in cc

  -- The bytes that were read are the row's key, and the number is the row's.
  pub read_key : take n after ≡ row.key
  read_key = r.front n wide ∙ ap (λ (x : Row). x.key) same

  pub read_number : e.label.number ≡ row.label.number
  read_number = ap (λ (x : Entry). x.label.number) (sym r.entry) ∙ ap (λ (x : Row). x.label.number) same

  module _ (t : Result Unit KeyFault) (f : t ≡ read_answer (kind.flaw (take n after))) (g : is_ok t ≡ true) where
    is_one : not (is_key (kind.flaw row.key)) ≡ false
    is_one = ap not (key_of (kind.flaw row.key) t (f ∙ ap (λ x. read_answer (kind.flaw x)) read_key) g)

    pub row_in : (vs vs' : List View) (start offset code hash : ℕ) → start ≡ section_of l e.label.number → start ≡ s → offset ≡ e.label.number - s → code ≡ k.translated (take n after) → hash ≡ k.hashed code
        → Noted vs vs' s offset code (bucket_of hash) → IndexesRow kind k l s p row vs vs' (Ok tt)
    row_in vs vs' start offset code hash home at eo ec eh noted =
        let b : eqb (section_of l row.label.number) s ≡ true = eq-eqb _ _ (ap (section_of l) (sym read_number) ∙ sym home ∙ at) in
        let a : row_fault kind l (filed_at s p row ∷ []) ≡ None = cond-false _ _ _ is_one ∙ cond-false _ _ _ (ap not b) in
        let c : code ≡ code_of k row = ec ∙ ap k.translated read_key in
        record {
          answer = ap (λ o. or_fault o tt) (sym a);
          noted = λ none.
              subst (λ x. Noted vs vs' s x (code_of k row) (bucket_by k row)) (eo ∙ ap (λ i. i - s) read_number)
              (subst (λ x. Noted vs vs' s offset x (bucket_by k row)) c
              (subst (λ x. Noted vs vs' s offset code (bucket_of x)) (eh ∙ ap k.hashed c) noted));
        }
