-- That an append and a prune leave a lawful meaning lawful. Assumes nothing.
use Rattle.std.proofs.Common.{◌≡◌, ℕ, ◌+◌, ◌^◌, ◌<◌, ◌≤◌, max, Bool, true, false, cond, eqb, ltb, List, [], ◌∷◌, ◌++◌, length, Some, None, Ok, Err, Option, refl, ap, subst, arith, length-append}
use Rattle.std.proofs.lemmas.Bool.Decides.{nat_tests}
use Rattle.std.proofs.ByRecursion.{All-push}
use Rattle.std.proofs.lemmas.Bool.{cond_both, eqb-true, ltb-true, ltb-false, not-false}
use Rattle.std.specs.List.{AllByRecursion}
use Rattle.journal.specs.declared.limits.Limits.{Limits}
use Rattle.journal.specs.declared.row.Label.{Label}
use Rattle.journal.specs.declared.fault.JournalFault.{JournalFault}
use Rattle.journal.specs.Meaning.{Meaning, Section, Row, is_kept, rows_of, cost, cost_of, size, Rising, Lawful, Within}
use Rattle.journal.specs.Calls.{extended, opened, placed, no_slot, append_fault, appended, or_keep, with_row, new_row, kept_from, pruned}
use Rattle.journal.specs.Making.{empty, nothing, made, checked}
use Rattle.journal.proofs.Rows.{rows_not_kept}

pub cost_push : (xs : List Row) (r : Row) → cost (xs ++ r ∷ []) ≡ cost xs + cost_of (size r.content)
cost_push [] r = omega arith
cost_push (x ∷ xs) r = let h = cost_push xs r in omega arith

-- Append: the order.
rising_extended : (low : ℕ) (xs : List Section) (s : ℕ) (r : Row) → Rising low xs → Rising low (extended xs s r)
rising_extended low [] s r up = tt
rising_extended low (x ∷ xs) s r up =
    cond_both (eqb x.start s) _ _ (Rising low)
    (λ e. (omega (arith, up.0, eqb-true _ _ e), subst (λ n. Rising (n + 1) xs) (eqb-true _ _ e) up.1))
    (λ e. (up.0, rising_extended (x.start + 1) xs s r up.1))

rising_opened : (low : ℕ) (xs : List Section) (s : ℕ) (r : Row) → Rising low xs → low ≤ s → is_kept xs s ≡ false → Rising low (opened xs s r)
rising_opened low [] s r up h k = (h, tt)
rising_opened low (x ∷ xs) s r up h k =
    let n : eqb x.start s ≡ false = grind (arith, nat_tests) in
    let k' : is_kept xs s ≡ false = simp n at k in
    cond_both (ltb s x.start) _ _ (Rising low)
    (λ l. let q : s + 1 ≤ x.start = omega (arith, ltb-true s x.start l) in (h, (q, up.1)))
    (λ l. let q : x.start + 1 ≤ s = grind (arith, nat_tests) in (up.0, rising_opened (x.start + 1) xs s r up.1 q k'))

pub rising_placed : (low : ℕ) (xs : List Section) (s : ℕ) (r : Row) → Rising low xs → low ≤ s → Rising low (placed xs s r)
rising_placed low xs s r up h =
    cond_both (is_kept xs s) _ _ (Rising low) (λ k. rising_extended low xs s r up) (λ k. rising_opened low xs s r up h k)

-- Append: how many sections.
length_extended : (xs : List Section) (s : ℕ) (r : Row) → length (extended xs s r) ≡ length xs
length_extended [] s r = refl
length_extended (x ∷ xs) s r = let i = length_extended xs s r in grind (arith, nat_tests)

length_opened : (xs : List Section) (s : ℕ) (r : Row) → length (opened xs s r) ≡ length xs + 1
length_opened [] s r = refl
length_opened (x ∷ xs) s r = let i = length_opened xs s r in grind (arith, nat_tests)

pub length_placed : (xs : List Section) (s : ℕ) (r : Row) → length (placed xs s r) ≡ cond (is_kept xs s) (length xs) (length xs + 1)
length_placed xs s r = let a = length_extended xs s r in let b = length_opened xs s r in grind (arith, nat_tests)

-- Append: each section.
module _ (l : Limits) (s : ℕ) (r : Row) (w : s < 2 ^ 64) (k : length r.key ≡ l.width) where
  within_extended : (xs : List Section) → AllByRecursion (Within l) xs → length (rows_of xs s) < l.rows → cost (rows_of xs s) + cost_of (size r.content) ≤ l.bytes → AllByRecursion (Within l) (extended xs s r)
  within_extended [] h n b = tt
  within_extended (x ∷ xs) h n b =
      cond_both (eqb x.start s) _ _ (AllByRecursion (Within l))
      (λ e. let n' : length x.rows < l.rows = simp e at n in
      let b' : cost x.rows + cost_of (size r.content) ≤ l.bytes = simp e at b in (
        record {
          start = w;
          some = simp length-append (omega arith);
          rows = simp length-append (omega arith);
          bytes = omega (arith, cost_push x.rows r);
          keys = All-push (λ r. length r.key ≡ l.width) x.rows r h.0.keys k;
        },
        h.1,
      ))
      (λ e. let n' : length (rows_of xs s) < l.rows = simp e at n in
      let b' : cost (rows_of xs s) + cost_of (size r.content) ≤ l.bytes = simp e at b in
      (h.0, within_extended xs h.1 n' b'))

  within_opened : (xs : List Section) → AllByRecursion (Within l) xs → 0 < l.rows → cost_of (size r.content) ≤ l.bytes → AllByRecursion (Within l) (opened xs s r)
  within_opened [] h n b = (record { start = w; some = omega arith; rows = omega arith; bytes = omega arith; keys = (k, tt) }, tt)
  within_opened (x ∷ xs) h n b =
      cond_both (ltb s x.start) _ _ (AllByRecursion (Within l))
      (λ q. (record { start = w; some = omega arith; rows = omega arith; bytes = omega arith; keys = (k, tt) }, h))
      (λ q. (h.0, within_opened xs h.1 n b))

  pub within_placed : (xs : List Section) → AllByRecursion (Within l) xs → length (rows_of xs s) < l.rows → cost (rows_of xs s) + cost_of (size r.content) ≤ l.bytes → AllByRecursion (Within l) (placed xs s r)
  within_placed xs h n b =
      cond_both (is_kept xs s) _ _ (AllByRecursion (Within l)) (λ q. within_extended xs h n b)
      (λ q. let z = rows_not_kept xs s q in
      let n' : 0 < l.rows = omega (arith, n, ap length z) in
      let b' : cost_of (size r.content) ≤ l.bytes = omega (arith, b, ap cost z) in
      within_opened xs h n' b')

cond_none : {Y : Type 0} (b : Bool) (f : Y) (o : Option Y) → cond b (Some f) o ≡ None → (b ≡ false) × (o ≡ None)
cond_none true f o h = let z : ◌≡◌ {A = ℕ} 0 1 = cc in absurd (omega arith)
cond_none false f o h = (refl, h)

-- What an accepted append tells.
pub record Accepted (m : Meaning) (s : ℕ) (key value : List ℕ) : Type 0 where
  pub width : length key ≡ m.limits.width
  pub floor : m.floor ≤ s
  pub slot : no_slot m s ≡ false
  pub rows : length (rows_of m.sections s) < m.limits.rows
  pub bytes : cost (rows_of m.sections s) + cost_of (length value) ≤ m.limits.bytes

pub accepted : (m : Meaning) (s : ℕ) (key value : List ℕ) → append_fault m s key value ≡ None → Accepted m s key value
accepted m s key value h =
    let a = cond_none _ _ _ h in
    let b = cond_none _ _ _ a.1 in
    let c = cond_none _ _ _ b.1 in
    let d = cond_none _ _ _ c.1 in
    let e = cond_none _ _ _ d.1 in
    record {
      width = eqb-true _ _ (not-false _ a.0);
      floor = ltb-false _ _ b.0;
      slot = c.0;
      rows = ltb-true _ _ (not-false _ d.0);
      bytes = ltb-false _ _ e.0;
    }

slots_within : (m : Meaning) (s : ℕ) → Lawful m → no_slot m s ≡ false → cond (is_kept m.sections s) (length m.sections) (length m.sections + 1) ≤ m.limits.slots
slots_within m s h n = let k = h.slots in grind (arith, nat_tests)

pub lawful_appended : (m : Meaning) (s : ℕ) (label : Label) (key value : List ℕ) → s < 2 ^ 64 → Lawful m → Lawful (appended m s label key value)
lawful_appended m s label key value w h = by (append_fault m s key value) refl
  where
    by : (o : Option JournalFault) → append_fault m s key value ≡ o → Lawful (or_keep o (with_row m s (new_row label key value)) m)
    by (Some f) e = h
    by None e =
        let a = accepted m s key value e in
        record {
          narrow = h.narrow;
          slots = rw (length_placed m.sections s (new_row label key value)) (slots_within m s h a.slot);
          rising = rising_placed m.floor m.sections s _ h.rising a.floor;
          within = within_placed m.limits s _ w a.width m.sections h.within a.rows a.bytes;
        }

-- The limits stay.
pub limits_appended : (m : Meaning) (s : ℕ) (label : Label) (key value : List ℕ) → (appended m s label key value).limits ≡ m.limits
limits_appended m s label key value = by (append_fault m s key value)
  where
    by : (o : Option JournalFault) → (or_keep o (with_row m s (new_row label key value)) m).limits ≡ m.limits
    by (Some f) = refl
    by None = refl

-- Prune.
rising_weaker : (a b : ℕ) (xs : List Section) → b ≤ a → Rising a xs → Rising b xs
rising_weaker a b [] h up = tt
rising_weaker a b (x ∷ xs) h up = (omega (arith, up.0), up.1)

rising_kept : (low n : ℕ) (xs : List Section) → Rising low xs → Rising (max low n) (kept_from xs n)
rising_kept low n [] up = tt
rising_kept low n (x ∷ xs) up =
    let again = rising_kept (x.start + 1) n xs up.1 in
    cond_both (ltb x.start n) _ _ (Rising (max low n))
    (λ l. rising_weaker (max (x.start + 1) n) (max low n) (kept_from xs n) (omega (arith, up.0)) again)
    (λ l. (omega (arith, up.0, ltb-false x.start n l), rising_weaker (max (x.start + 1) n) (x.start + 1) (kept_from xs n) (omega arith) again))

length_kept : (n : ℕ) (xs : List Section) → length (kept_from xs n) ≤ length xs
length_kept n [] = omega arith
length_kept n (x ∷ xs) = let h = length_kept n xs in cond_both (ltb x.start n) _ _ (λ ys. length ys ≤ length (x ∷ xs)) (λ l. omega arith) (λ l. omega arith)

all_kept : (P : Section → Type 0) (n : ℕ) (xs : List Section) → AllByRecursion P xs → AllByRecursion P (kept_from xs n)
all_kept P n [] h = tt
all_kept P n (x ∷ xs) h = cond_both (ltb x.start n) _ _ (AllByRecursion P) (λ l. all_kept P n xs h.1) (λ l. (h.0, all_kept P n xs h.1))

pub lawful_pruned : (m : Meaning) (n : ℕ) → Lawful m → Lawful (pruned m n)
lawful_pruned m n h =
    record {
      narrow = h.narrow;
      slots = omega (arith, length_kept n m.sections, h.slots);
      rising = rising_kept m.floor n m.sections h.rising;
      within = all_kept (Within m.limits) n m.sections h.within;
    }

-- A journal that keeps nothing.
pub lawful_empty : (l : Limits) → l.width ≤ 32 → Lawful (empty l)
lawful_empty l w = record { narrow = w; slots = omega arith; rising = tt; within = tt }

-- What a making means where one test decides its check: the journal wanted, or that of limits 0.
pub made_by : (b : Bool) (f : JournalFault) (m : Meaning) → made (cond b None (Some f)) m ≡ cond b m (empty nothing)
made_by true f m = refl
made_by false f m = refl

pub checked_by : (b : Bool) (f : JournalFault) → checked (cond b None (Some f)) ≡ cond b (Ok tt) (Err f)
checked_by true f = refl
checked_by false f = refl
