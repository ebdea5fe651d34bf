-- Walks that leave a journal's meaning as it was, one after another. Assumes nothing.
use Rattle.std.proofs.Common.{◌≡◌, ℕ, List, [], length, Some, None, Ok, Option, Result, MatchOption, sym, refl, ◌∙◌, subst}
use Rattle.journal.specs.declared.row.Entry.{Entry}
use Rattle.journal.specs.declared.fault.JournalFault.{JournalFault}
use Rattle.journal.specs.Meaning.{Meaning, Lawful, rows_of, first_from}
use Rattle.journal.specs.Calls.{kept_from}
use Rattle.journal.specs.Calls as calls
use Rattle.journal.specs.Promises.{TellsFirst, TellsCount, ReadsEntry, ReadsValue}
use Rattle.journal.proofs.Walks.{from_or_end, comes, stops}
use Rattle.archive_layout.specs.Promises.{Reads}
use Rattle.archive_layout.proofs.Bearers.{ReadRow, read_row}

-- What the look for the next start from a number, or from none, tells of the meaning.
pub record StartsFrom (from r : Option ℕ) (m : Meaning) : Type 0 where
  pub comes : (s : ℕ) → r ≡ Some s → Some s ≡ first_from m.sections (from_or_end from)
  pub stops : Lawful m → r ≡ None → kept_from m.sections (from_or_end from) ≡ []

module _ {O J : Type 0} {fits : O → J → Type 0} {meaning : J → Meaning} where
  pub read_none : {j : J} {P : Meaning → Type 0} → ((m : Meaning) → P m) → Reads fits meaning j j P
  read_none {j = j} h = record { fit = λ o f. f; after = λ o f. refl; told = λ o f. h (meaning j) }

  pub read_so : {j j' : J} {P Q : Meaning → Type 0} → Reads fits meaning j j' P → ((m : Meaning) → P m → Q m) → Reads fits meaning j j' Q
  read_so {j = j} a h = record { fit = a.fit; after = a.after; told = λ o f. h (meaning j) (a.told o f) }

  pub read_on : {j j' j'' : J} {P Q R : Meaning → Type 0} → Reads fits meaning j j' P → Reads fits meaning j' j'' Q → ((m : Meaning) → P m → Q m → R m) → Reads fits meaning j j'' R
  read_on {j = j} {Q = Q} a b h = record {
    fit = λ o f. b.fit o (a.fit o f);
    after = λ o f. b.after o (a.fit o f) ∙ a.after o f;
    told = λ o f. h (meaning j) (a.told o f) (subst Q (a.after o f) (b.told o (a.fit o f)));
  }

  pub read_both : {j j' j'' : J} {P Q : Meaning → Type 0} → Reads fits meaning j j' P → Reads fits meaning j' j'' Q → Reads fits meaning j j'' (λ m. P m × Q m)
  read_both a b = read_on a b (λ m p q. (p, q))

  pub read_start : (j : J) (from r : Option ℕ) → MatchOption from (r ≡ None) (λ n. TellsFirst fits meaning j n r) → Reads fits meaning j j (StartsFrom from r)
  read_start j from r h = record {
    fit = λ o f. f;
    after = λ o f. refl;
    told = λ o f. record {
      comes = λ s e. comes fits meaning j o f (meaning j) refl from r s h e;
      stops = λ law e. stops fits meaning j o f (meaning j) refl from r law h e;
    };
  }

  pub read_count : {j : J} {s n : ℕ} → TellsCount fits meaning j s n → Reads fits meaning j j (λ m. n ≡ length (rows_of m.sections s))
  read_count a = record { fit = λ o f. f; after = λ o f. refl; told = a.answer }

  pub read_entry : {j j' : J} {s p : ℕ} {key key' : List ℕ} {r : Result Entry JournalFault} → ReadsEntry fits meaning j j' s p key key' r
      → Reads fits meaning j j' (λ m. Lawful m → (e : Entry) → r ≡ Ok e → ReadRow m s p e key')
  read_entry {j = j} {s = s} {p = p} {key = key} {key' = key'} a = record {
    fit = a.fit;
    after = a.after;
    told = λ o f law e is. read_row (meaning j) s p key key' e law (sym is ∙ a.answer o f) (a.buffer o f);
  }

  pub read_value : {j j' : J} {s p : ℕ} {value value' : List ℕ} {r : Result ℕ JournalFault} → ReadsValue fits meaning j j' s p value value' r
      → Reads fits meaning j j' (λ m. (r ≡ calls.value_read m s p (length value)) × (value' ≡ calls.value_buffer m s p value))
  read_value a = record { fit = a.fit; after = a.after; told = λ o f. (a.answer o f, a.buffer o f) }

  pub read_refused : {j j' : J} {s p : ℕ} {key key' : List ℕ} {r : Result Entry JournalFault} → ReadsEntry fits meaning j j' s p key key' r
      → Reads fits meaning j j' (λ m. r ≡ calls.entry_read m s p (length key))
  read_refused a = record { fit = a.fit; after = a.after; told = a.answer }
