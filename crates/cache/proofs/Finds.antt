-- What the table's search finds. Assumes nothing.
use Rattle.std.proofs.Common.{◌≡◌, ℕ, zero, suc, ◌+◌, ◌<◌, Bool, true, false, cond, get_or, MatchOption, List, [], ◌∷◌, length, take, set, is_some, Some, None, Ok, Err, Option, Result, sym, refl, ap, ◌∙◌, subst, ⊎_elim, arith}
use Rattle.std.specs.List.{AllByRecursion, position_from}
use Rattle.std.proofs.lemmas.Bool.{cond-true, cond-false, cond_both, and_parts, and_from, eqb-true, eq-eqb, cases_Bool}
use Rattle.journal.specs.declared.row.Entry.{Entry}
use Rattle.journal.specs.declared.fault.JournalFault.{JournalFault}
use Rattle.cache.specs.declared.row_copy.RowCopy.{RowCopy}
use Rattle.cache.specs.Row.{is_of, copy_of}
use Rattle.cache.specs.Table.{Table, find_slot, held, with_copy, table_read}

-- Whether a place has a copy of that row.
abbrev pub has_copy : ℕ → ℕ → Option RowCopy → Bool
has_copy s p None = false
has_copy s p (Some x) = is_of x s p

-- The place i, k places on, has what a search finds.
abbrev Lies : List (Option RowCopy) → ℕ → Option RowCopy → ℕ → Type 0
Lies xs k f i = (at : ℕ) × (i ≡ k + at) × (at < length xs) × ((d : Option RowCopy) → get_or xs at d ≡ f)

later : (y : Option RowCopy) (ys : List (Option RowCopy)) (k : ℕ) (f : Option RowCopy) (o : Option ℕ) → MatchOption o (None ≡ f) (Lies ys (k + 1) f) → MatchOption o (None ≡ f) (Lies (y ∷ ys) k f)
later y ys k f None h = h
later y ys k f (Some i) h = (suc h.0, omega (arith, h.1), omega (arith, h.2), h.3)

step : (b : Bool) (x : RowCopy) (ys : List (Option RowCopy)) (k : ℕ) (f : Option RowCopy) (o : Option ℕ) → MatchOption o (None ≡ f) (Lies ys (k + 1) f)
    → MatchOption (cond b (Some k) o) (None ≡ cond b (Some x) f) (Lies (Some x ∷ ys) k (cond b (Some x) f))
step true x ys k f o h = (0, omega arith, omega arith, λ d. refl)
step false x ys k f o h = later (Some x) ys k f o h

placed : (s p : ℕ) (xs : List (Option RowCopy)) (k : ℕ) → MatchOption (position_from (has_copy s p) k xs) (None ≡ find_slot xs s p) (Lies xs k (find_slot xs s p))
placed s p [] k = refl
placed s p (None ∷ ys) k = later None ys k (find_slot ys s p) (position_from (has_copy s p) (k + 1) ys) (placed s p ys (k + 1))
placed s p (Some x ∷ ys) k = step (is_of x s p) x ys k (find_slot ys s p) (position_from (has_copy s p) (k + 1) ys) (placed s p ys (k + 1))

-- The place at which the search stops has the first copy of that row, and where it stops nowhere there is none.
pub place_found : (s p : ℕ) (xs : List (Option RowCopy)) (r : Option ℕ) → r ≡ position_from (has_copy s p) 0 xs → MatchOption r (None ≡ find_slot xs s p) (λ i. (i < length xs) × ((d : Option RowCopy) → get_or xs i d ≡ find_slot xs s p))
place_found s p xs r e = by r (subst (λ o. MatchOption o (None ≡ find_slot xs s p) (Lies xs 0 (find_slot xs s p))) (sym e) (placed s p xs 0))
  where
    by : (o : Option ℕ) → MatchOption o (None ≡ find_slot xs s p) (Lies xs 0 (find_slot xs s p)) → MatchOption o (None ≡ find_slot xs s p) (λ i. (i < length xs) × ((d : Option RowCopy) → get_or xs i d ≡ find_slot xs s p))
    by None h = h
    by (Some i) h = let e : i ≡ h.0 = omega (arith, h.1) in (omega (arith, e, h.2), λ d. ap (λ (j : ℕ). get_or xs j d) e ∙ h.3 d)

-- A copy found: what holds of every place holds of its place, and it is of that row.
pub record Found (P : Option RowCopy → Type 0) (s p : ℕ) (x : RowCopy) : Type 0 where
  pub known : P (Some x)
  pub start : x.start ≡ s
  pub position : x.position ≡ p

pub found : (P : Option RowCopy → Type 0) (xs : List (Option RowCopy)) (s p : ℕ) (x : RowCopy) → AllByRecursion P xs → find_slot xs s p ≡ Some x → Found P s p x
found P [] s p x h e = cc
found P (None ∷ ys) s p x h e = found P ys s p x h.1 e
found P (Some y ∷ ys) s p x h e =
    ⊎_elim
    (λ t. let q : ◌≡◌ {A = Option RowCopy} (Some y) (Some x) = sym (cond-true _ _ _ t) ∙ e in
    let i : y ≡ x = cc in
    let a = and_parts _ _ t in
    subst (Found P s p) i (record { known = h.0; start = eqb-true _ _ a.0; position = eqb-true _ _ a.1 }))
    (λ t. found P ys s p x h.1 (sym (cond-false _ _ _ t) ∙ e))
    (cases_Bool (is_of y s p))

-- A place filled with a copy of a row: the table then holds it.
held_set : (xs : List (Option RowCopy)) (at : ℕ) (x : RowCopy) → at < length xs → held (set xs at (Some x)) x.start x.position ≡ true
held_set [] at x h = absurd (omega arith)
held_set (y ∷ ys) zero x h =
    ap is_some (cond-true (is_of x x.start x.position) (Some x) _ (and_from _ _ (eq-eqb x.start x.start refl) (eq-eqb x.position x.position refl)))
held_set (None ∷ ys) (suc at) x h = held_set ys at x (omega arith)
held_set (Some y ∷ ys) (suc at) x h =
    cond_both (is_of y x.start x.position) (Some y) (find_slot (set ys at (Some x)) x.start x.position) (λ o. is_some o ≡ true) (λ _. refl) (λ _. held_set ys at x (omega arith))

pub held_after : (xs ys : List (Option RowCopy)) (at s p : ℕ) (x : RowCopy) → at < length xs → x.start ≡ s → x.position ≡ p → ys ≡ set xs at (Some x) → held ys s p ≡ true
held_after xs ys at s p x h a b e = rw (e, ← a, ← b) (held_set xs at x h)

-- The table after a read: of a row with a copy, and of one without.
pub read_held : (t : Table) (s p : ℕ) (key : List ℕ) (r : Result Entry JournalFault) → held t.slots s p ≡ true → t ≡ table_read t s p key r
read_held t s p key (Err f) h = refl
read_held t s p key (Ok e) h = sym (cond-true _ _ _ h)

pub read_new : (t t' : Table) (s p w w' : ℕ) (key : List ℕ) (e : Entry) (x : RowCopy) → held t.slots s p ≡ false → w ≡ w' → x ≡ copy_of s p e (take w key) → t' ≡ with_copy t x → t' ≡ table_read t s p (take w' key) (Ok e)
read_new t t' s p w w' key e x h wide is to =
    to ∙ ap (with_copy t) (is ∙ ap (λ (n : ℕ). copy_of s p e (take n key)) wide) ∙ sym (cond-false _ _ _ h)
