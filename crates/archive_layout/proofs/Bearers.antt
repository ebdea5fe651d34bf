-- A row read and held against a key. Assumes nothing.
use Rattle.std.proofs.Common.{◌≡◌, ℕ, true, false, ◌⊎◌, List, ◌++◌, length, take, drop, Some, None, Ok, sym, ap, ◌∙◌, inl, inr}
use Rattle.std.proofs.lemmas.List.{take_at}
use Rattle.std.proofs.lemmas.Bool.{cond-true, cond-false, cases_Bool, le-ltb}
use Rattle.journal.specs.declared.row.Entry.{Entry}
use Rattle.journal.specs.Meaning.{Meaning, Row, Lawful, row_at}
use Rattle.journal.specs.Calls.{entry_of, entry_fill, entry_read, entry_buffer}
use Rattle.journal.proofs.Rows.{entry_found, key_width}
use Rattle.rules.specs.State.{same_bytes}
use Rattle.law.proofs.Tests.{same_as, as_same}
use Rattle.archive_layout.specs.Promises.{bearer_of}

-- An entry that was read, with the buffer after it: the row is there, and its key is in front.
pub record ReadRow (m : Meaning) (s p : ℕ) (e : Entry) (after : List ℕ) : Type 0 where
  pub row : Row
  pub there : row_at m s p ≡ Some row
  pub entry : entry_of row ≡ e
  pub front : (n : ℕ) → n ≡ m.limits.width → take n after ≡ row.key

pub read_row : (m : Meaning) (s p : ℕ) (before after : List ℕ) (e : Entry) → Lawful m → Ok e ≡ entry_read m s p (length before) → after ≡ entry_buffer m s p before → ReadRow m s p e after
read_row m s p before after e law answer buffer =
    let f = entry_found (row_at m s p) m.limits.width s p (length before) e (sym answer) in
    let w = key_width m s p f.0 law f.1 in
    let is : after ≡ f.0.key ++ drop m.limits.width before = buffer ∙ ap (λ o. entry_fill o m.limits.width before) f.1 ∙ cond-false _ _ _ (le-ltb _ _ f.2) in
    record {
      row = f.0;
      there = f.1;
      entry = f.3;
      front = λ n q. ap (take n) is ∙ take_at f.0.key (drop m.limits.width before) n (w ∙ sym q);
    }

module _ {m : Meaning} {s p : ℕ} {e : Entry} {after : List ℕ} (r : ReadRow m s p e after) {n : ℕ} {key : List ℕ} (wide : length key ≡ m.limits.width) (long : n ≡ length key) where
  pub bearer_yes : take n after ≡ key → Some e.label.number ≡ bearer_of (row_at m s p) key
  bearer_yes same =
      sym (ap (λ o. bearer_of o key) r.there ∙ cond-true _ _ _ (same_as r.row.key key (sym (r.front n (long ∙ wide)) ∙ same)) ∙ ap (λ (x : Entry). Some x.label.number) r.entry)

  pub bearer_no : (take n after ≡ key → ⊥) → None ≡ bearer_of (row_at m s p) key
  bearer_no other =
      sym (ap (λ o. bearer_of o key) r.there ∙ by (cases_Bool (same_bytes r.row.key key)))
    where
      by : (same_bytes r.row.key key ≡ true) ⊎ (same_bytes r.row.key key ≡ false) → bearer_of (Some r.row) key ≡ None
      by (inl t) = absurd (other (r.front n (long ∙ wide) ∙ as_same r.row.key key t))
      by (inr t) = cond-false _ _ _ t
