-- What an archive that fits knows once it is loaded. Assumes nothing.
use Rattle.std.proofs.Common.{◌≡◌, ℕ, ◌<◌, ◌≤◌, true, false, ◌⊎◌, List, length, is_some, Some, None, Ok, Option, sym, refl, ap, ◌∙◌, subst, inl, inr, arith}
use Rattle.std.proofs.lemmas.Bool.{cond-true, cond-false, cases_lt, lt-ltb, le-ltb, both_ways}
use Rattle.std.proofs.lemmas.List.{length-map}
use Rattle.journal.specs.Meaning as journal
use Rattle.journal.specs.Meaning.{Meaning, Lawful}
use Rattle.index.specs.declared.index.Index.{Index}
use Rattle.index.specs.Viewed.{slot_view}
use Rattle.index.specs.Slots.{views}
use Rattle.archive_layout.specs.Fit.{Coding, Fit, FitBy}
use Rattle.archive_layout.specs.Promises.{Numbered, Known, Reads}
use Rattle.archive.specs.declared.numbers.Arrivals.{Arrivals}
use Rattle.archive.specs.Parts.{coding_of}
use Rattle.rules.specs.State.{State, section_of, or_zero}
use Rattle.rules.specs.Calls.{with_journal}
use Rattle.archive.specs.Archives.{state_of, Fits, Does, home_of}
use Rattle.archive.specs.declared.archive.Archive.{Archive}

pub fit_of : {O J T K : Type 0} {fits : O → J → Type 0} {meaning : J → Meaning} {translated : T → List ℕ → ℕ} {hashed : T → ℕ → ℕ} {width : ℕ} {o : O} (a : Archive J T K) (l : ℕ)
    → Fits fits meaning translated hashed width o a → a.size ≡ Some l → Fit (coding_of translated hashed a.translator) width l (meaning a.journal) (views a.index)
fit_of {meaning = meaning} {translated = translated} {hashed = hashed} {width = width} a l f e =
    subst (λ x. FitBy (coding_of translated hashed a.translator) width x (meaning a.journal) (views a.index)) e f.index

-- The journal was only read.
pub fit_read : {O J T K : Type 0} {fits : O → J → Type 0} {meaning : J → Meaning} {translated : T → List ℕ → ℕ} {hashed : T → ℕ → ℕ} {width : ℕ} {o : O} (a a' : Archive J T K)
    → a'.translator ≡ a.translator → a'.size ≡ a.size → a'.index ≡ a.index → meaning a'.journal ≡ meaning a.journal → fits o a'.journal
    → Fits fits meaning translated hashed width o a → Fits fits meaning translated hashed width o a'
fit_read {meaning = meaning} {translated = translated} {hashed = hashed} {width = width} a a' et es ei em g f = record {
  journal = g;
  lawful = subst (λ m. journal.Lawful m) (sym em) f.lawful;
  index =
      subst (λ t. FitBy (coding_of translated hashed t) width a'.size (meaning a'.journal) (views a'.index)) (sym et)
      (subst (λ z. FitBy (coding_of translated hashed a.translator) width z (meaning a'.journal) (views a'.index)) (sym es)
      (subst (λ m. FitBy (coding_of translated hashed a.translator) width a.size m (views a'.index)) (sym em)
      (subst (λ x. FitBy (coding_of translated hashed a.translator) width a.size (meaning a.journal) (views x)) (sym ei) f.index)));
}

pub size_of : (o : Option ℕ) → is_some o ≡ true → (l : ℕ) × (o ≡ Some l)
size_of None h = absurd (both_ways _ refl h)
size_of (Some l) h = (l, refl)

pub sixteen : (x : Index) → length (views x) ≡ 16
sixteen x = length-map x.slots slot_view ∙ x.sized

-- What a walk along a number rests on; the number's section is in the type.
pub numbered : {k : Coding} {width : ℕ} {m : Meaning} (a : Arrivals) → Lawful m → Fit k width a.size m (views a.index.now) → Numbered k width a.size m (views a.index.now) a.number a.start a.offset
numbered a law fit = record { lawful = law; fit = fit; home = a.home; near = a.near }

-- What a search for a key rests on.
pub known : {O J T K : Type 0} {fits : O → J → Type 0} {meaning : J → Meaning} {translated : T → List ℕ → ℕ} {hashed : T → ℕ → ℕ} {width : ℕ} {o : O} (a : Archive J T K) (l : ℕ) (key : List ℕ) (code hash : ℕ)
    → Fits fits meaning translated hashed width o a → a.size ≡ Some l → length key ≡ width → code ≡ translated a.translator key → hash ≡ hashed a.translator code
    → Known (coding_of translated hashed a.translator) width l (meaning a.journal) (views a.index) key code hash
known a l key code hash f size long ec eh =
    let fit = fit_of a l f size in
    record { lawful = f.lawful; fit = fit; coded = record { wide = long ∙ sym fit.wide; coded = ec; hashed = eh } }

-- What the home of a number tells.
pub home_at : (size floor : Option ℕ) (n start : ℕ) → home_of size floor n ≡ Ok (Some start) → (l : ℕ) × (size ≡ Some l) × (or_zero floor ≤ n) × (start ≡ section_of l n)
home_at None floor n start h = let z : ◌≡◌ {A = ℕ} 0 1 = cc in absurd (omega arith)
home_at (Some l) floor n start h = let w = by (cases_lt n (or_zero floor)) in (l, refl, w.0, w.1)
  where
    by : (n < or_zero floor) ⊎ (or_zero floor ≤ n) → (or_zero floor ≤ n) × (start ≡ section_of l n)
    by (inl lt) = let e : ◌≡◌ {A = Option ℕ} None (Some start) = let t = cond-true _ None (Some (section_of l n)) (lt-ltb n (or_zero floor) lt) in cc in let z : ◌≡◌ {A = ℕ} 0 1 = cc in absurd (omega arith)
    by (inr le) = let e : ◌≡◌ {A = Option ℕ} (Some (section_of l n)) (Some start) = let t = cond-false _ None (Some (section_of l n)) (le-ltb n (or_zero floor) le) in cc in (le, cc)

-- A call that changes nothing, and one that did what another says.
module _ {O J T K X : Type 0} {fits : O → J → Type 0} {meaning : J → Meaning} {translated : T → List ℕ → ℕ} {hashed : T → ℕ → ℕ} {width : ℕ} {a : Archive J T K} where
  pub does_none : {says : State → X → Type 0} {next : State → State} {r : X} → ((o : O) → Fits fits meaning translated hashed width o a → says (state_of meaning a) r × (state_of meaning a ≡ next (state_of meaning a)))
      → Does fits meaning translated hashed width a a says next r
  does_none h = record { fit = λ o f. f; answer = λ o f. (h o f).0; after = λ o f. (h o f).1; same = refl }

  pub does_so : {a' : Archive J T K} {says says' : State → X → Type 0} {next next' : State → State} {r : X} → Does fits meaning translated hashed width a a' says next r
      → ((o : O) → Fits fits meaning translated hashed width o a → (says (state_of meaning a) r → says' (state_of meaning a) r) × (next (state_of meaning a) ≡ next' (state_of meaning a)))
      → Does fits meaning translated hashed width a a' says' next' r
  does_so d h = record { fit = d.fit; answer = λ o f. (h o f).0 (d.answer o f); after = λ o f. d.after o f ∙ (h o f).1; same = d.same }

  -- A call that only read the journal.
  pub does_read : {j' : J} {P : Meaning → Type 0} {says : State → X → Type 0} {r : X} → Reads fits meaning a.journal j' P
      → ((o : O) → Fits fits meaning translated hashed width o a → P (meaning a.journal) → says (state_of meaning a) r)
      → Does fits meaning translated hashed width a (record { journal = j'; translator = a.translator; key = a.key; size = a.size; floor = a.floor; index = a.index }) says (λ s. s) r
  does_read {j' = j'} d h = record {
    fit = λ o f. fit_read a _ refl refl refl (d.after o f.journal) (d.fit o f.journal) f;
    answer = λ o f. h o f (d.told o f.journal);
    after = λ o f. ap (with_journal (state_of meaning a)) (d.after o f.journal);
    same = refl;
  }

pub unloaded : (o : Option ℕ) → is_some o ≡ false → o ≡ None
unloaded None e = refl
unloaded (Some l) e = absurd (both_ways _ e refl)
