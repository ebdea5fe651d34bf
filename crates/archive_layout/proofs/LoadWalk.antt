-- A load, section by section. Assumes nothing.
use Rattle.std.proofs.Common.{◌≡◌, ℕ, zero, suc, ◌+◌, ◌-◌, ◌^◌, ◌<◌, ◌≤◌, min, eqb, List, [], ◌∷◌, ◌++◌, length, take, drop, Some, None, Ok, Err, Option, Result, sym, refl, ap, ◌∙◌, subst, append-nil, arith, length-append, length-take}
use Rattle.std.specs.List.{AllByRecursion}
use Rattle.std.proofs.lemmas.List.{take_all, take-append-drop}
use Rattle.journal.specs.Meaning.{Meaning, Section, Row, Lawful, Within, Rising, rows_of, first_from}
use Rattle.journal.specs.Calls.{or_fault, kept_from}
use Rattle.journal.proofs.Walks.{Leads, first_some, kept_all, walk, inside, next_taken, drop_end, drop_some}
use Rattle.rules.specs.declared.fault.ArchiveFault.{ArchiveFault}
use Rattle.rules.specs.State.{Kind, filed, records_of}
use Rattle.rules.specs.Calls.{row_fault, first_fault}
use Rattle.index_layout.specs.Views.{View}
use Rattle.archive_layout.specs.Fit.{Coding, Agree}
use Rattle.archive_layout.specs.Loads.{with_part, SectionReady, IndexesSection, IndexReady, IndexesAll}
use Rattle.archive_layout.proofs.Sums.{SomeRows}
use Rattle.archive_layout.proofs.Fits.{small, some_rows, ok_none, err_some}
use Rattle.std.proofs.lemmas.Bool.{cond_both}
use Rattle.archive_layout.proofs.Sections.{first_rows}
use Rattle.archive_layout.proofs.Counting.{length_filed, rising_weaker}
use Rattle.archive_layout.proofs.Searches.{records_most}
use Rattle.archive_layout.proofs.Loads.{fault-++, records-++}

-- What is true of sections is true of the first of them.
all_take : (P : Section → Type 0) (i : ℕ) (xs : List Section) → AllByRecursion P xs → AllByRecursion P (take i xs)
all_take P zero xs h = tt
all_take P (suc i) [] h = tt
all_take P (suc i) (x ∷ xs) h = (h.0, all_take P i xs h.1)

rising_take : (low i : ℕ) (xs : List Section) → Rising low xs → Rising low (take i xs)
rising_take low zero xs up = tt
rising_take low (suc i) [] up = tt
rising_take low (suc i) (x ∷ xs) up = (up.0, rising_take (x.start + 1) i xs up.1)

before_next : (low i : ℕ) (xs : List Section) (y : Section) (zs : List Section) → Rising low xs → drop i xs ≡ y ∷ zs → AllByRecursion (λ (x : Section). x.start < y.start) (take i xs) × (low ≤ y.start)
before_next low zero [] y zs up e = let z : ◌≡◌ {A = ℕ} 0 1 = cc in absurd (omega arith)
before_next low zero (x ∷ xs) y zs up e = let q : x ≡ y = cc in (tt, subst (λ (u : Section). low ≤ u.start) q up.0)
before_next low (suc i) [] y zs up e = let z : ◌≡◌ {A = ℕ} 0 1 = cc in absurd (omega arith)
before_next low (suc i) (x ∷ xs) y zs up e =
    let f = before_next (x.start + 1) i xs y zs up.1 e in
    let u = up.0 in
    let w = f.1 in
    ((omega arith, f.0), omega arith)

-- How far a load has come: the first i sections are in the index, and the others are those from `from` on.
pub record LoadedTo (kind : Kind) (k : Coding) (l : ℕ) (m : Meaning) (vs : List View) (from i count : ℕ) : Type 0 where
  pub rest : kept_from m.sections from ≡ drop i m.sections
  pub within : i ≤ length m.sections
  pub agree : Agree k vs (take i m.sections)
  pub none : row_fault kind l (records_of (take i m.sections)) ≡ None
  pub counted : count ≡ length (records_of (take i m.sections))

pub load_begins : (kind : Kind) (k : Coding) {l width : ℕ} {m : Meaning} {vs : List View} → Lawful m → IndexReady m vs l width → LoadedTo kind k l m vs 0 0 0
load_begins kind k {m = m} law ready = record {
  rest = kept_all m.floor 0 m.sections law.rising (omega arith);
  within = omega arith;
  agree = ready.empty;
  none = refl;
  counted = refl;
}

module _ {kind : Kind} {k : Coding} {l width : ℕ} {m : Meaning} {begun vs : List View} {from i count : ℕ} (law : Lawful m) (ready : IndexReady m begun l width) (to : LoadedTo kind k l m vs from i count) where
  whole : i ≡ length m.sections → IndexesAll kind k l m.sections vs (Ok count)
  whole e =
      let all = take_all i m.sections (omega arith) in
      record {
        answer = ap (λ n. Ok n) (to.counted ∙ ap (λ ys. length (records_of ys)) all) ∙ ap (λ o. or_fault o (length (records_of m.sections))) (sym (ap (λ ys. row_fault kind l (records_of ys)) (sym all) ∙ to.none));
        agree = λ _. subst (λ ys. Agree k vs ys) all to.agree;
      }

  pub load_end : kept_from m.sections from ≡ [] → IndexesAll kind k l m.sections vs (Ok count)
  load_end e = let d = drop_end m.sections i (sym to.rest ∙ e) in whole (let w = to.within in omega arith)

  pub load_slots : 16 ≤ i → IndexesAll kind k l m.sections vs (Ok count)
  load_slots h = whole (let w = to.within in let a = law.slots in let b = (small m.limits ready.limits).slots in omega arith)

  -- The next section.
  module _ (s : ℕ) (comes : Some s ≡ first_from m.sections from) where
    lead : Leads m.floor from s m.sections
    lead = first_some m.floor from s m.sections law.rising (sym comes)

    cut : drop i m.sections ≡ lead.section ∷ kept_from m.sections (s + 1)
    cut = sym to.rest ∙ lead.rest

    pub load_ready : SectionReady k m vs (take i m.sections) l width s
    load_ready =
        let b = before_next m.floor i m.sections lead.section (kept_from m.sections (s + 1)) law.rising cut in
        let lt = drop_some m.sections i lead.section (kept_from m.sections (s + 1)) cut in
        let q = small m.limits ready.limits in
        record {
          some = ready.some;
          few = ready.few;
          wide = ready.wide;
          rows = (let a = rows_few m.sections law.within in let c = q.rows in omega arith);
          slots = (let a = length-take i m.sections in let c = law.slots in let d = q.slots in omega arith);
          rising = rising_take 0 i m.sections (rising_weaker m.floor 0 m.sections (omega arith) law.rising);
          filled = all_take SomeRows i m.sections (some_rows m.limits m.sections law.within);
          before = subst (λ n. AllByRecursion (λ (x : Section). x.start < n) (take i m.sections)) lead.start b.0;
          agree = to.agree;
        }
      where
        rows_few : (xs : List Section) → AllByRecursion (Within m.limits) xs → length (rows_of xs s) ≤ m.limits.rows
        rows_few [] h = omega arith
        rows_few (x ∷ xs) h = cond_both (eqb x.start s) x.rows (rows_of xs s) (λ ys. length ys ≤ m.limits.rows) (λ _. h.0.rows) (λ _. rows_few xs h.1)

    taken : take (i + 1) m.sections ≡ take i m.sections ++ record { start = s; rows = rows_of m.sections s } ∷ []
    taken =
        let n = next_taken m.floor from i s m.sections law.rising to.rest (sym comes) in
        n.3 ∙ ap (λ (x : Section). take i m.sections ++ x ∷ []) (ap (λ j. record { start = j; rows = n.0.rows }) n.1 ∙ ap (λ rs. record { start = s; rows = rs }) (sym n.2))

    part_is : with_part (take i m.sections) s (rows_of m.sections s) ≡ take (i + 1) m.sections
    part_is = some_part (rows_of m.sections s) here ∙ sym taken
      where
        here : 0 < length (rows_of m.sections s)
        here = first_rows m.floor from s m.limits m.sections law.rising (some_rows m.limits m.sections law.within) (sym comes)

        some_part : (rs : List Row) → 0 < length rs → with_part (take i m.sections) s rs ≡ take i m.sections ++ record { start = s; rows = rs } ∷ []
        some_part [] h = absurd (omega arith)
        some_part (r ∷ rs) h = refl

    records_next : records_of (take (i + 1) m.sections) ≡ records_of (take i m.sections) ++ filed s 0 (rows_of m.sections s)
    records_next = ap records_of taken ∙ records-++ (take i m.sections) (record { start = s; rows = rows_of m.sections s } ∷ []) ∙ ap (λ ys. records_of (take i m.sections) ++ ys) (append-nil (filed s 0 (rows_of m.sections s)))

    module _ {vs' : List View} {r : Result ℕ ArchiveFault} (sec : IndexesSection kind k l s (rows_of m.sections s) (take i m.sections) vs' r) where
      pub load_more : (n count' : ℕ) → r ≡ Ok n → count' ≡ min (n + count) (2 ^ 64 - 1) → LoadedTo kind k l m vs' (s + 1) (i + 1) count'
      load_more n count' e sum =
          let f = ok_none (row_fault kind l (filed s 0 (rows_of m.sections s))) (length (rows_of m.sections s)) n (sym sec.answer ∙ e) in
          let lt = inside m.floor from i s m.sections law.rising to.rest (sym comes) in
          let c : n + count ≡ length (records_of (take (i + 1) m.sections)) =
          (let a = ap length records_next in let b = length-append (records_of (take i m.sections)) (filed s 0 (rows_of m.sections s)) in
          let d = length_filed s 0 (rows_of m.sections s) in let g = to.counted in let h = f.1 in omega arith) in
          let q = small m.limits ready.limits in
          let most = records_most m.limits (take (i + 1) m.sections) q.rows (all_take (Within m.limits) (i + 1) m.sections law.within) in
          let long = length-take (i + 1) m.sections in
          record {
            rest = walk m.floor from i s m.sections law.rising to.rest (sym comes);
            within = omega arith;
            agree = subst (λ ys. Agree k vs' ys) part_is (sec.agree f.0);
            none = ap (row_fault kind l) records_next ∙ fault-++ kind l (records_of (take i m.sections)) (filed s 0 (rows_of m.sections s))
                ∙ ap (λ o. first_fault o (row_fault kind l (filed s 0 (rows_of m.sections s)))) to.none ∙ f.0;
            counted = (let w = law.slots in let v = q.slots in omega arith);
          }

      pub load_fault_at : (f : ArchiveFault) → r ≡ Err f → IndexesAll kind k l m.sections vs' (Err f)
      load_fault_at f e =
          let b = err_some (row_fault kind l (filed s 0 (rows_of m.sections s))) (length (rows_of m.sections s)) f (sym sec.answer ∙ e) in
          let all : records_of m.sections ≡ records_of (take (i + 1) m.sections) ++ records_of (drop (i + 1) m.sections) =
          ap records_of (sym (take-append-drop (i + 1) m.sections)) ∙ records-++ (take (i + 1) m.sections) (drop (i + 1) m.sections) in
          let here : row_fault kind l (records_of (take (i + 1) m.sections)) ≡ Some f =
          ap (row_fault kind l) records_next ∙ fault-++ kind l (records_of (take i m.sections)) (filed s 0 (rows_of m.sections s))
          ∙ ap (λ o. first_fault o (row_fault kind l (filed s 0 (rows_of m.sections s)))) to.none ∙ b in
          let fault : row_fault kind l (records_of m.sections) ≡ Some f =
          ap (row_fault kind l) all ∙ fault-++ kind l (records_of (take (i + 1) m.sections)) (records_of (drop (i + 1) m.sections))
          ∙ ap (λ o. first_fault o (row_fault kind l (records_of (drop (i + 1) m.sections)))) here in
          record {
            answer = ap (λ o. or_fault o (length (records_of m.sections))) (sym fault);
            agree = λ none. (let z : ◌≡◌ {A = Option ArchiveFault} (Some f) None = sym fault ∙ none in let w : ◌≡◌ {A = ℕ} 0 1 = cc in absurd (omega arith));
          }
