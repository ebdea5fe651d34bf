-- A walk over the sections that lays one total after another over the front of a slice. Assumes nothing.
use Rattle.std.proofs.Common.{◌≡◌, ℕ, ◌+◌, ◌≤◌, List, [], ◌∷◌, ◌++◌, map, length, take, drop, set, Some, Ok, Result, sym, refl, ap, ◌∙◌, ap₂, arith, length-take}
use Rattle.std.proofs.lemmas.List.{take_all, map-append, length-map}
use Rattle.journal.specs.declared.fault.JournalFault.{JournalFault}
use Rattle.journal.specs.Meaning.{Meaning, Section, Lawful, cost, rows_of, first_from}
use Rattle.journal.specs.Calls.{kept_from}
use Rattle.journal.proofs.Walks.{next_taken, kept_all, walk, inside, drop_end}
use Rattle.summary.specs.declared.total.SectionTotal.{SectionTotal}
use Rattle.summary.specs.Totals.{total_of, laid, Summarises}

laid_next : (ts out : List SectionTotal) (t : SectionTotal) → set (laid ts out) (length ts) t ≡ laid (ts ++ t ∷ []) out
laid_next [] [] t = refl
laid_next [] (x ∷ xs) t = refl
laid_next (u ∷ ts) [] t = refl
laid_next (u ∷ ts) (x ∷ xs) t = ap (λ ys. u ∷ ys) (laid_next ts xs t)

-- The first i sections are laid, and the others are those from `from` on; m at the beginning, m' now.
pub record Walked (m m' : Meaning) (from i : ℕ) (out out' : List SectionTotal) : Type 0 where
  pub same : m' ≡ m
  pub rest : kept_from m.sections from ≡ drop i m.sections
  pub within : i ≤ length m.sections
  pub laid_so : out' ≡ laid (map total_of (take i m.sections)) out

pub begun : (m : Meaning) (out : List SectionTotal) → Lawful m → Walked m m 0 0 out out
begun m out lawful = record { same = refl; rest = kept_all _ 0 _ lawful.rising (omega arith); within = omega arith; laid_so = refl }

-- One section more.
module _ (m m' : Meaning) (from i s : ℕ) (out out' : List SectionTotal) (lawful : Lawful m) (w : Walked m m' from i out out') (comes : Some s ≡ first_from m.sections from) where
  first : first_from m.sections from ≡ Some s
  first = sym comes

  pub went : (m'' : Meaning) (next : List SectionTotal) (rows spent : ℕ) → m'' ≡ m' → rows ≡ length (rows_of m'.sections s)
      → ◌≡◌ {A = Result ℕ JournalFault} (Ok spent) (Ok (cost (rows_of m'.sections s))) → next ≡ set out' i (record { start = s; rows = rows; cost = spent })
      → Walked m m'' (s + 1) (i + 1) out next
  went m'' next rows spent to count paid is =
      let k = next_taken m.floor from i s m.sections lawful.rising w.rest first in
      let p : spent ≡ cost (rows_of m'.sections s) = cc in
      let q : rows_of m'.sections s ≡ k.0.rows = ap (λ (n : Meaning). rows_of n.sections s) w.same ∙ k.2 in
      let t : ◌≡◌ {A = SectionTotal} (record { start = s; rows = rows; cost = spent }) (total_of k.0) =
      ap₂ (λ (a : ℕ) (b : ℕ). record { start = s; rows = a; cost = b }) (count ∙ ap length q) (p ∙ ap cost q)
      ∙ ap (λ (a : ℕ). record { start = a; rows = length k.0.rows; cost = cost k.0.rows }) (sym k.1) in
      let n : i ≡ length (map total_of (take i m.sections)) = omega (arith, w.within, length-map (take i m.sections) total_of, length-take i m.sections) in
      record {
        same = to ∙ w.same;
        rest = walk _ _ _ _ _ lawful.rising w.rest first;
        within = omega (arith, inside m.floor from i s m.sections lawful.rising w.rest first);
        laid_so =
            is ∙ ap₂ (λ (a : List SectionTotal) (b : SectionTotal). set a i b) w.laid_so t
            ∙ ap (λ (j : ℕ). set (laid (map total_of (take i m.sections)) out) j (total_of k.0)) n
            ∙ laid_next (map total_of (take i m.sections)) out (total_of k.0)
            ∙ ap (λ (ts : List SectionTotal). laid ts out) (sym (ap (map total_of) k.3 ∙ map-append total_of (take i m.sections) (k.0 ∷ [])));
      }

-- The two ends: no section is left, and no slot is left.
module _ (m m' : Meaning) (from i : ℕ) (out out' : List SectionTotal) (lawful : Lawful m) (w : Walked m m' from i out out') where
  pub at_rest : kept_from m.sections from ≡ [] → i ≡ length m.sections
  at_rest e = let d = drop_end m.sections i (sym w.rest ∙ e) in omega (arith, d, w.within)

  pub at_slots : m.limits.slots ≤ i → i ≡ length m.sections
  at_slots e = omega (arith, e, lawful.slots, w.within)

-- A walk that came to its end is a summary.
pub ended : {O J : Type 0} (fits : O → J → Type 0) (meaning : J → Meaning) (j j' : J) (out out' : List SectionTotal) (from i : ℕ)
    → ((o : O) → fits o j → fits o j' × Walked (meaning j) (meaning j') from i out out' × (i ≡ length (meaning j).sections)) → Summarises fits meaning j j' out out' (Ok i)
ended fits meaning j j' out out' from i w =
    record {
      fit = λ o f. (w o f).0;
      answer = λ o f. ap (λ (n : ℕ). Ok n) (w o f).2;
      after = λ o f. (w o f).1.same;
      buffer = λ o f. (w o f).1.laid_so ∙ ap (λ (ys : List Section). laid (map total_of ys) out) (take_all i (meaning j).sections (omega (arith, (w o f).2)));
    }
