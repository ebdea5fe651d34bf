-- A first load is accepted where it may be, and else refused with what hinders it. Assumes nothing.
use Rattle.std.proofs.Common.{◌≡◌, ℕ, zero, suc, ◌+◌, Bool, true, false, cond, not, ◌&&◌, leb, eqb, ◌⊎◌, List, [], ◌∷◌, length, Some, None, Option, sym, refl, ap, ◌∙◌, subst, inl, inr, arith}
use Rattle.std.proofs.lemmas.Bool.{both_ways, eqb-true, eqb-false, le-leb, leb-true, and_parts, and_from}
use Rattle.std.specs.List.{slice_get}
use Rattle.keys.specs.declared.fault.KeyFault.TheVariants.{StoredKey}
use Rattle.journal.specs.declared.limits.Limits.{Limits}
use Rattle.journal.specs.Making.{between}
use Rattle.journal.specs.Meaning.{Meaning, Section, Row}
use Rattle.journal.specs.Calls.{or_fault}
use Rattle.rules.specs.declared.answer.Reply.TheVariants as reply
use Rattle.rules.specs.declared.fault.ArchiveFault.{ArchiveFault}
use Rattle.rules.specs.declared.fault.ArchiveFault.TheVariants.{SectionSize, JournalLimits, KeyWidth, WrongSection, Key}
use Rattle.rules.specs.State.{Kind, section_of, Record, number_of, filed, records_of}
use Rattle.rules.specs.Calls.{Among, archive_limits, is_key, row_fault, first_fault, fresh_load_fault}
use Rattle.rules.specs.Steps.{Handed, Answer, answer, said}
use Rattle.rules.specs.History.{rows_in}
use Rattle.rules.specs.Told.{plain, Ranges, SuitsArchive, Loadable, Hinders, ToldLoad}
use Rattle.law.proofs.Lists.{among_left, among_right, among_either}

none_some : {X : Type 0} {Y : Type 0} (o : Option X) (x : X) → o ≡ Some x → o ≡ None → Y
none_some o x e n = let z : ◌≡◌ {A = ℕ} 0 1 = cc in let v : ⊥ = omega arith in absurd v

-- Of two reasons one after the other there is none where neither is one.
pub none_both : (a b : Option ArchiveFault) → first_fault a b ≡ None → (a ≡ None) × (b ≡ None)
none_both None b e = (refl, e)
none_both (Some f) b e = none_some (Some f) f refl e

-- Rows by their places.
filed_row : (s p : ℕ) (rs : List Row) (q : Record) → Among q (filed s p rs) → (i : ℕ) × (q.start ≡ s) × (q.position ≡ p + i) × (slice_get rs i ≡ Some q.row)
filed_row s p [] q a = absurd a
filed_row s p (r ∷ rs) q (inl e) = (0, ap (λ y. y.start) e, (let k = ap (λ y. y.position) e in omega arith), ap (λ y. Some y.row) (sym e))
filed_row s p (r ∷ rs) q (inr a) = let k = filed_row s (p + 1) rs q a in (suc k.0, k.1, omega (arith, k.2), k.3)

row_filed : (s p i : ℕ) (rs : List Row) (r : Row) → slice_get rs i ≡ Some r → (q : Record) × Among q (filed s p rs) × (q.start ≡ s) × (q.row ≡ r)
row_filed s p i [] r e = none_some (slice_get [] i) r e refl
row_filed s p zero (x ∷ rs) r e = (record { start = s; position = p; row = x }, inl refl, refl, cc)
row_filed s p (suc i) (x ∷ rs) r e = let k = row_filed s (p + 1) i rs r e in (k.0, inr k.1, k.2, k.3)

-- The row of a record, in its section.
abbrev There : List Section → Record → Type 0
There xs q = (x : Section) × Among x xs × (x.start ≡ q.start) × (slice_get x.rows q.position ≡ Some q.row)

record_row : (xs : List Section) (q : Record) → Among q (records_of xs) → There xs q
record_row [] q a = absurd a
record_row (x ∷ xs) q a = by (among_either q (filed x.start 0 x.rows) (records_of xs) a) (λ b. record_row xs q b)
  where
    by : Among q (filed x.start 0 x.rows) ⊎ Among q (records_of xs) → (Among q (records_of xs) → There xs q) → There (x ∷ xs) q
    by (inl b) further =
        let k = filed_row x.start 0 x.rows q b in
        let e : q.position ≡ k.0 = omega (arith, k.2) in
        (x, inl refl, sym k.1, ap (slice_get x.rows) e ∙ k.3)
    by (inr b) further = let k = further b in (k.0, inr k.1, k.2, k.3)

row_record : (xs : List Section) (x : Section) (p : ℕ) (r : Row) → Among x xs → slice_get x.rows p ≡ Some r → (q : Record) × Among q (records_of xs) × (q.start ≡ x.start) × (q.row ≡ r)
row_record [] x p r a e = absurd a
row_record (y ∷ xs) x p r (inl d) e =
    let k = row_filed y.start 0 p y.rows r (ap (λ z. slice_get z.rows p) (sym d) ∙ e) in
    (k.0, among_left k.0 (filed y.start 0 y.rows) (records_of xs) k.1, k.2 ∙ ap (λ z. z.start) (sym d), k.3)
row_record (y ∷ xs) x p r (inr a) e = let k = row_record xs x p r a e in (k.0, among_right k.0 (filed y.start 0 y.rows) (records_of xs) k.1, k.2, k.3)

module _ (kind : Kind) (l : ℕ) where
  -- What a refusal names of a record.
  abbrev Names : Record → ArchiveFault → Type 0
  Names q f =
      ((f ≡ Key (StoredKey q.start q.position)) × (kind.flaw q.row.key ≡ None → ⊥))
      ⊎ ((f ≡ WrongSection q.start q.position) × (section_of l (number_of q) ≡ q.start → ⊥))

  abbrev Looked : List Record → Option ArchiveFault → Type 0
  Looked rs None = (q : Record) → Among q rs → (kind.flaw q.row.key ≡ None) × (section_of l (number_of q) ≡ q.start)
  Looked rs (Some f) = (q : Record) × Among q rs × Names q f

  looked : (rs : List Record) → Looked rs (row_fault kind l rs)
  looked [] = λ q a. absurd a
  looked (r ∷ rs) = by (kind.flaw r.row.key) refl (eqb (section_of l (number_of r)) r.start) refl (row_fault kind l rs) (looked rs)
    where
      by : (w : Option ℕ) → kind.flaw r.row.key ≡ w → (b : Bool) → eqb (section_of l (number_of r)) r.start ≡ b → (o : Option ArchiveFault) → Looked rs o
          → Looked (r ∷ rs) (cond (not (is_key w)) (Some (Key (StoredKey r.start r.position))) (cond (not b) (Some (WrongSection r.start r.position)) o))
      by (Some i) e b h o k = (r, inl refl, inl (refl, (λ n. none_some (kind.flaw r.row.key) i e n)))
      by None e false h o k = (r, inl refl, inr (refl, eqb-false (section_of l (number_of r)) r.start h))
      by None e true h (Some f) k = (k.0, inr k.1, k.2)
      by None e true h None k = λ q a. here q a
        where
          here : (q : Record) → Among q (r ∷ rs) → (kind.flaw q.row.key ≡ None) × (section_of l (number_of q) ≡ q.start)
          here q (inl d) = (ap (λ y. kind.flaw y.row.key) d ∙ e, ap (λ y. section_of l (number_of y)) d ∙ (eqb-true (section_of l (number_of r)) r.start h ∙ ap (λ y. y.start) (sym d)))
          here q (inr a) = k q a

-- Ranges, as tests and as bounds.
ranges : (low x high : ℕ) → between low x high ≡ true → Ranges low x high
ranges low x high e = let p = and_parts (leb low x) (leb x high) e in (leb-true low x p.0, leb-true x high p.1)

in_range : (low x high : ℕ) → Ranges low x high → between low x high ≡ true
in_range low x high k = and_from (leb low x) (leb x high) (le-leb low x k.0) (le-leb x high k.1)

suits : (m : Limits) → archive_limits m ≡ true → SuitsArchive m
suits m e =
    let p = and_parts (between 1 m.slots 16) (between 1 m.rows 128 && between 4 m.bytes 4096) e in
    let q = and_parts (between 1 m.rows 128) (between 4 m.bytes 4096) p.1 in
    record { slots = ranges 1 m.slots 16 p.0; rows = ranges 1 m.rows 128 q.0; bytes = ranges 4 m.bytes 4096 q.1 }

is_suited : (m : Limits) → SuitsArchive m → archive_limits m ≡ true
is_suited m k =
    and_from (between 1 m.slots 16) (between 1 m.rows 128 && between 4 m.bytes 4096) (in_range 1 m.slots 16 k.slots)
    (and_from (between 1 m.rows 128) (between 4 m.bytes 4096) (in_range 1 m.rows 128 k.rows) (in_range 4 m.bytes 4096 k.bytes))

module _ (kind : Kind) (m : Meaning) (l : ℕ) (h : Handed) (a : Answer) where
  loadable : between 1 l 64 ≡ true → archive_limits m.limits ≡ true → eqb kind.width m.limits.width ≡ true → Looked kind l (records_of m.sections) None → Loadable kind m l
  loadable x y z k =
      record {
        sized = ranges 1 l 64 x;
        limits = suits m.limits y;
        wide = eqb-true kind.width m.limits.width z;
        keys = λ s p r at. let q = row_record m.sections at.0 p r at.1 at.3 in sym (ap (λ w. kind.flaw w.key) q.3) ∙ (k q.0 q.1).0;
        homes = λ s p r at. let q = row_record m.sections at.0 p r at.1 at.3 in sym (ap (λ w. section_of l w.label.number) q.3) ∙ ((k q.0 q.1).1 ∙ (q.2 ∙ at.2));
      }

  hinders : (f : ArchiveFault) → (q : Record) × Among q (records_of m.sections) × Names kind l q f → Hinders kind m l f
  hinders f (q, n, inl k) =
      let at = record_row m.sections q n in
      subst (Hinders kind m l) (sym k.0) (q.row, (at.0, at.1, at.2, at.3), k.1)
  hinders f (q, n, inr k) =
      let at = record_row m.sections q n in
      subst (Hinders kind m l) (sym k.0) (q.row, (at.0, at.1, at.2, at.3), k.1)

  pub told_load : (n : ℕ) → n ≡ length (rows_in m.sections) → a ≡ answer (said reply.Loaded (or_fault (fresh_load_fault kind m l) n)) h.bytes h.places → ToldLoad kind m l h a
  told_load n e w =
      by (between 1 l 64) (archive_limits m.limits) (eqb kind.width m.limits.width) refl refl refl (row_fault kind l (records_of m.sections)) (looked kind l (records_of m.sections)) w
    where
      by : (x y z : Bool) → between 1 l 64 ≡ x → archive_limits m.limits ≡ y → eqb kind.width m.limits.width ≡ z
          → (o : Option ArchiveFault) → Looked kind l (records_of m.sections) o
          → a ≡ answer (said reply.Loaded (or_fault (first_fault (cond (not x) (Some SectionSize) (cond (not y) (Some JournalLimits) (cond (not z) (Some KeyWidth) None))) o) n)) h.bytes h.places
          → ToldLoad kind m l h a
      by false y z ex ey ez o k w = inr (SectionSize, (λ r. both_ways _ ex (in_range 1 l 64 r)), w)
      by true false z ex ey ez o k w = inr (JournalLimits, (λ r. both_ways _ ey (is_suited m.limits r)), w)
      by true true false ex ey ez o k w = inr (KeyWidth, eqb-false kind.width m.limits.width ez, w)
      by true true true ex ey ez None k w = inl (loadable ex ey ez k, w ∙ ap (λ i. plain h (reply.Loaded i)) e)
      by true true true ex ey ez (Some f) k w = inr (f, hinders f k, w)
