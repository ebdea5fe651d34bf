-- What a call changes of the rows of a section, and what a read tells of them. Assumes nothing.
use Rattle.std.proofs.Common.{◌≡◌, ℕ, zero, suc, ◌+◌, ◌<◌, ◌≤◌, true, false, cond, eqb, ltb, List, [], ◌∷◌, ◌++◌, length, Some, None, Ok, Err, Option, sym, refl, ap, ◌∙◌, subst, ⊎_elim, arith}
use Rattle.std.proofs.lemmas.Bool.Decides.{nat_tests}
use Rattle.std.proofs.lemmas.Bool.{cond-true, cond-false, cond_both, eq-eqb, ne_eqb, lt-ltb, le-ltb, cases_lt, both_ways}
use Rattle.std.specs.List.{slice_get, AllByRecursion}
use Rattle.journal.specs.declared.limits.Limits.{Limits}
use Rattle.journal.specs.declared.row.Entry.{Entry}
use Rattle.journal.specs.declared.fault.JournalFault.TheVariants.{Short}
use Rattle.journal.specs.Meaning.{Meaning, Section, Row, cost, is_kept, rows_of, row_at, Rising, Lawful, Within}
use Rattle.journal.specs.Calls.{extended, opened, placed, kept_from, entry_answer, entry_of}

pub kept_below : (low : ℕ) (xs : List Section) (s : ℕ) → Rising low xs → s < low → is_kept xs s ≡ false
kept_below low [] s up h = refl
kept_below low (x ∷ xs) s up h =
    let e : eqb x.start s ≡ false = grind (arith, nat_tests) in
    let k : s < x.start + 1 = omega arith in
    cond-false _ _ _ e ∙ kept_below (x.start + 1) xs s up.1 k

pub rows_not_kept : (xs : List Section) (s : ℕ) → is_kept xs s ≡ false → rows_of xs s ≡ []
rows_not_kept [] s h = refl
rows_not_kept (x ∷ xs) s h = let i = rows_not_kept xs s in grind (arith, nat_tests)

pub rows_below : (low : ℕ) (xs : List Section) (s : ℕ) → Rising low xs → s < low → rows_of xs s ≡ []
rows_below low xs s up h = rows_not_kept xs s (kept_below low xs s up h)

-- The rows after an append.
rows_extended : (xs : List Section) (s t : ℕ) (r : Row) → is_kept xs s ≡ true → rows_of (extended xs s r) t ≡ cond (eqb s t) (rows_of xs t ++ r ∷ []) (rows_of xs t)
rows_extended [] s t r h = absurd (both_ways false refl h)
rows_extended (x ∷ xs) s t r h = let i = rows_extended xs s t r in grind (arith, nat_tests)

rows_opened : (xs : List Section) (s t : ℕ) (r : Row) → is_kept xs s ≡ false → rows_of (opened xs s r) t ≡ cond (eqb s t) (rows_of xs t ++ r ∷ []) (rows_of xs t)
rows_opened [] s t r h = refl
rows_opened (x ∷ xs) s t r h = let i = rows_opened xs s t r in let n = rows_not_kept xs s in grind (arith, nat_tests)

pub rows_placed : (xs : List Section) (s t : ℕ) (r : Row) → rows_of (placed xs s r) t ≡ cond (eqb s t) (rows_of xs t ++ r ∷ []) (rows_of xs t)
rows_placed xs s t r =
    cond_both (is_kept xs s) (extended xs s r) (opened xs s r) (λ ys. rows_of ys t ≡ cond (eqb s t) (rows_of xs t ++ r ∷ []) (rows_of xs t))
    (rows_extended xs s t r) (rows_opened xs s t r)

pub rows_placed_same : (xs : List Section) (s : ℕ) (r : Row) → rows_of (placed xs s r) s ≡ rows_of xs s ++ r ∷ []
rows_placed_same xs s r = rows_placed xs s s r ∙ cond-true _ _ _ (eq-eqb s s refl)

pub rows_placed_other : (xs : List Section) (s t : ℕ) (r : Row) → (t ≡ s → ⊥) → rows_of (placed xs s r) t ≡ rows_of xs t
rows_placed_other xs s t r h = rows_placed xs s t r ∙ cond-false _ _ _ (ne_eqb s t (λ e. h (sym e)))

-- The rows after a prune, of a section that stays.
pub rows_kept_from : (xs : List Section) (n s : ℕ) → n ≤ s → rows_of (kept_from xs n) s ≡ rows_of xs s
rows_kept_from [] n s h = refl
rows_kept_from (x ∷ xs) n s h = let i = rows_kept_from xs n s h in grind (arith, nat_tests)

pub rows_gone : (xs : List Section) (n s : ℕ) → s < n → rows_of (kept_from xs n) s ≡ []
rows_gone [] n s h = refl
rows_gone (x ∷ xs) n s h = let i = rows_gone xs n s h in grind (arith, nat_tests)

pub nth_last : {X : Type 0} (xs : List X) (x : X) → slice_get (xs ++ x ∷ []) (length xs) ≡ Some x
nth_last [] x = refl
nth_last (y ∷ xs) x = nth_last xs x

pub nth_kept : {X : Type 0} (xs : List X) (x y : X) (p : ℕ) → slice_get xs p ≡ Some y → slice_get (xs ++ x ∷ []) p ≡ Some y
nth_kept [] x y p h = let z : ◌≡◌ {A = ℕ} 0 1 = cc in absurd (omega arith)
nth_kept (z ∷ xs) x y zero h = h
nth_kept (z ∷ xs) x y (suc p) h = nth_kept xs x y p h

-- An append leaves each row at its place.
pub row_stays : (xs : List Section) (s t p : ℕ) (new r : Row) → slice_get (rows_of xs t) p ≡ Some r → slice_get (rows_of (placed xs s new) t) p ≡ Some r
row_stays xs s t p new r h =
    ap (λ rs. slice_get rs p) (rows_placed xs s t new)
    ∙ cond_both (eqb s t) (rows_of xs t ++ new ∷ []) (rows_of xs t) (λ rs. slice_get rs p ≡ Some r) (λ _. nth_kept (rows_of xs t) new r p h) (λ _. h)

-- Keys have the width of the limits.
all_nth : {X : Type 0} (P : X → Type 0) (xs : List X) (i : ℕ) (x : X) → AllByRecursion P xs → slice_get xs i ≡ Some x → P x
all_nth P [] i x h e = let z : ◌≡◌ {A = ℕ} 0 1 = cc in absurd (omega arith)
all_nth P (y ∷ xs) zero x h e = let q : y ≡ x = cc in subst P q h.0
all_nth P (y ∷ xs) (suc i) x h e = all_nth P xs i x h.1 e

rows_keys : (l : Limits) (xs : List Section) (s : ℕ) → AllByRecursion (Within l) xs → AllByRecursion (λ r. length r.key ≡ l.width) (rows_of xs s)
rows_keys l [] s h = tt
rows_keys l (x ∷ xs) s h = cond_both (eqb x.start s) x.rows (rows_of xs s) (AllByRecursion (λ r. length r.key ≡ l.width)) (λ e. h.0.keys) (λ e. rows_keys l xs s h.1)

pub key_width : (m : Meaning) (s p : ℕ) (r : Row) → Lawful m → row_at m s p ≡ Some r → length r.key ≡ m.limits.width
key_width m s p r h e = all_nth (λ r. length r.key ≡ m.limits.width) (rows_of m.sections s) p r (rows_keys m.limits m.sections s h.within) e

-- What the rows of a section cost is within the limits.
pub rows_cost : (l : Limits) (xs : List Section) (s : ℕ) → AllByRecursion (Within l) xs → cost (rows_of xs s) ≤ l.bytes
rows_cost l [] s h = omega arith
rows_cost l (x ∷ xs) s h = cond_both (eqb x.start s) x.rows (rows_of xs s) (λ rs. cost rs ≤ l.bytes) (λ e. h.0.bytes) (λ e. rows_cost l xs s h.1)

-- What an accepted read of an entry tells.
pub entry_found : (o : Option Row) (width s p room : ℕ) (e : Entry) → entry_answer o width s p room ≡ Ok e → (r : Row) × (o ≡ Some r) × (width ≤ room) × (entry_of r ≡ e)
entry_found None width s p room e h = let z : ◌≡◌ {A = ℕ} 0 1 = cc in absurd (omega arith)
entry_found (Some r) width s p room e h =
    ⊎_elim
    (λ l. let k = sym (cond-true (ltb room width) (Err (Short s p width)) (Ok (entry_of r)) (lt-ltb _ _ l)) ∙ h in let z : ◌≡◌ {A = ℕ} 0 1 = cc in absurd (omega arith))
    (λ l. let k = sym (cond-false (ltb room width) (Err (Short s p width)) (Ok (entry_of r)) (le-ltb _ _ l)) ∙ h in
    let q : entry_of r ≡ e = cc in (r, refl, l, q))
    (cases_lt room width)
