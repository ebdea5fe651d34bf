-- Lookups by start over the slots, and sums over them. Assumes nothing.
--   found_cases      a start is held by a slot, or by none
--   found_at         the slot that holds a start is the one that is found
--   found_none       what no slot holds is found free
--   found_set_other  another slot's change is not seen
--   found_kept       what a strike leaves, by start
--   total_set        one slot changed; total_none, total_all, total_step and total_end go through the slots
--   Summed, summed_more   a sum of what is small
use Rattle.std.proofs.Common.{◌≡◌, ℕ, zero, suc, ◌+◌, ◌*◌, ◌<◌, ◌≤◌, Bool, true, false, cond, eqb, ltb, ◌⊎◌, List, [], ◌∷◌, map, length, get_or, drop, set, sym, refl, ap, ◌∙◌, inl, inr, ⊎_elim, arith}
use Rattle.std.proofs.lemmas.List.{drop_more, drop_all}
use Rattle.std.proofs.lemmas.Bool.Decides.{nat_tests}
use Rattle.std.proofs.lemmas.Bool.{cond-true, cond-false, cond_both, cases_Bool, cases_eq, cases_lt, eqb-true, eq-eqb, ne_eqb, and_parts, and_from, both_ways, lt-ltb, le-ltb}
use Rattle.index_layout.specs.Views.{View, free_view, view_at, Holds, Apart, kept_view}
use Rattle.index_layout.specs.Held.{holds, found, weight, total, one}

-- Where a start is held, or that it is not.
abbrev pub Nowhere : List View → ℕ → Type 0
Nowhere vs s = (k : ℕ) → k < length vs → Holds vs k s → ⊥

pub record Somewhere (vs : List View) (s : ℕ) : Type 0 where
  pub slot : ℕ
  pub below : slot < length vs
  pub here : Holds vs slot s
  pub is : found vs s ≡ view_at vs slot

pub held_from : (v : View) (s : ℕ) → holds s v ≡ true → (v.used ≡ true) × (v.start ≡ s)
held_from v s h = let p = and_parts _ _ h in (p.0, eqb-true _ _ p.1)

pub held_to : (v : View) (s : ℕ) → v.used ≡ true → v.start ≡ s → holds s v ≡ true
held_to v s u e = and_from _ _ u (eq-eqb _ _ e)

pub found_cases : (vs : List View) (s : ℕ) → (Nowhere vs s × (found vs s ≡ free_view)) ⊎ Somewhere vs s
found_cases [] s = inl ((λ k l h. omega arith), refl)
found_cases (v ∷ vs) s = by (cases_Bool (holds s v)) (found_cases vs s)
  where
    by : (holds s v ≡ true) ⊎ (holds s v ≡ false) → (Nowhere vs s × (found vs s ≡ free_view)) ⊎ Somewhere vs s
        → (Nowhere (v ∷ vs) s × (found (v ∷ vs) s ≡ free_view)) ⊎ Somewhere (v ∷ vs) s
    by (inl e) again = inr (record { slot = 0; below = omega arith; here = held_from v s e; is = cond-true _ _ _ e })
    by (inr e) (inl none) = inl ((λ k. step k), cond-false _ _ _ e ∙ none.1)
      where
        step : (k : ℕ) → k < length (v ∷ vs) → Holds (v ∷ vs) k s → ⊥
        step zero l h = both_ways _ e (held_to v s h.0 h.1)
        step (suc k) l h = none.0 k (omega arith) h
    by (inr e) (inr some) = inr (record { slot = suc some.slot; below = omega (arith, some.below); here = some.here; is = cond-false _ _ _ e ∙ some.is })

pub found_at : (vs : List View) (i s : ℕ) → i < length vs → Holds vs i s → Apart vs → found vs s ≡ view_at vs i
found_at vs i s l h apart =
    ⊎_elim
    (λ none. absurd (none.0 i l h))
    (λ some. let e : some.slot ≡ i = apart (record { i = some.slot; j = i; s = s; i_below = some.below; j_below = l; at_i = some.here; at_j = h }) in
    some.is ∙ ap (λ j. get_or vs j free_view) e)
    (found_cases vs s)

pub found_none : (vs : List View) (s : ℕ) → Nowhere vs s → found vs s ≡ free_view
found_none vs s none = ⊎_elim (λ n. n.1) (λ some. absurd (none some.slot some.below some.here)) (found_cases vs s)

pub found_set_other : (vs : List View) (i : ℕ) (w : View) (s : ℕ) → holds s w ≡ false → holds s (view_at vs i) ≡ false → found (set vs i w) s ≡ found vs s
found_set_other [] i w s n o = refl
found_set_other (v ∷ vs) zero w s n o = cond-false _ _ _ n ∙ sym (cond-false _ _ _ o)
found_set_other (v ∷ vs) (suc i) w s n o = ap (λ x. cond (holds s v) v x) (found_set_other vs i w s n o)

pub found_kept : (vs : List View) (min s : ℕ) → found (map (kept_view min) vs) s ≡ cond (ltb s min) free_view (found vs s)
found_kept [] min s = cond_both (ltb s min) _ _ (λ x. free_view ≡ x) (λ e. refl) (λ e. refl)
found_kept (v ∷ vs) min s = by v.used refl (cases_eq v.start s) (cases_lt v.start min) (found_kept vs min s)
  where
    by : (u : Bool) → v.used ≡ u → (v.start ≡ s) ⊎ (v.start ≡ s → ⊥) → (v.start < min) ⊎ (min ≤ v.start)
        → found (map (kept_view min) vs) s ≡ cond (ltb s min) free_view (found vs s)
        → found (map (kept_view min) (v ∷ vs)) s ≡ cond (ltb s min) free_view (found (v ∷ vs) s)
    by false e c d again = simp e again
    by true e (inl c) (inl d) again =
        let a : eqb v.start s ≡ true = eq-eqb _ _ c in
        let b : ltb v.start min ≡ true = lt-ltb _ _ d in
        let g : ltb s min ≡ true = grind (arith, nat_tests) in
        simp (e, b) (again ∙ simp g)
    by true e (inl c) (inr d) again =
        let a : eqb v.start s ≡ true = eq-eqb _ _ c in
        let b : ltb v.start min ≡ false = le-ltb _ _ d in
        let g : ltb s min ≡ false = grind (arith, nat_tests) in
        simp (e, a, b, g)
    by true e (inr c) (inl d) again =
        let a : eqb v.start s ≡ false = ne_eqb _ _ c in
        let b : ltb v.start min ≡ true = lt-ltb _ _ d in
        simp (e, a, b) again
    by true e (inr c) (inr d) again =
        let a : eqb v.start s ≡ false = ne_eqb _ _ c in
        let b : ltb v.start min ≡ false = le-ltb _ _ d in
        simp (e, a, b) again

-- Sums.
pub total_set : (h : View → ℕ) (vs : List View) (i : ℕ) (w : View) → i < length vs → total h (set vs i w) + weight h (view_at vs i) ≡ total h vs + weight h w
total_set h [] i w l = absurd (omega arith)
total_set h (v ∷ vs) zero w l = omega arith
total_set h (v ∷ vs) (suc i) w l = let again = total_set h vs i w (omega arith) in omega arith

pub total_none : (h : View → ℕ) (vs : List View) → ((k : ℕ) → k < length vs → (view_at vs k).used ≡ false) → total h vs ≡ 0
total_none h [] none = refl
total_none h (v ∷ vs) none =
    let e = none 0 (omega arith) in
    let z : weight h v ≡ 0 = cond-false _ _ _ e in
    let again = total_none h vs (λ k l. none (suc k) (omega arith)) in omega arith

pub total_all : (vs : List View) → ((k : ℕ) → k < length vs → (view_at vs k).used ≡ true) → total one vs ≡ length vs
total_all [] all = refl
total_all (v ∷ vs) all =
    let e = all 0 (omega arith) in
    let z : weight one v ≡ 1 = cond-true _ _ _ e in
    let again = total_all vs (λ k l. all (suc k) (omega arith)) in omega arith

-- A free slot makes the sum of ones less than the number of slots.
pub total_free : (vs : List View) (i : ℕ) → i < length vs → (view_at vs i).used ≡ false → total one vs < length vs
total_free [] i l h = absurd (omega arith)
total_free (v ∷ vs) zero l h =
    let z : weight one v ≡ 0 = cond-false _ _ _ h in
    let again = total_few vs in omega arith
  where
    total_few : (vs : List View) → total one vs ≤ length vs
    total_few [] = omega arith
    total_few (v ∷ vs) =
        let again = total_few vs in
        cond_both v.used 1 0 (λ n. n + total one vs ≤ length (v ∷ vs)) (λ _. omega arith) (λ _. omega arith)
total_free (v ∷ vs) (suc i) l h =
    let again = total_free vs i (omega arith) h in
    cond_both v.used 1 0 (λ n. n + total one vs < length (v ∷ vs)) (λ _. omega arith) (λ _. omega arith)

-- One more slot of a sum, and its end.
pub total_step : (h : View → ℕ) (vs : List View) (i n m : ℕ) → i < length vs → m ≡ weight h (view_at vs i)
    → n + total h (drop i vs) ≡ total h vs → n + m + total h (drop (i + 1) vs) ≡ total h vs
total_step h vs i n m l e inv =
    let d : total h (drop i vs) ≡ weight h (view_at vs i) + total h (drop (i + 1) vs) = ap (total h) (drop_more vs i free_view l) in
    omega arith

pub total_end : (h : View → ℕ) (vs : List View) (i n : ℕ) → length vs ≤ i → n + total h (drop i vs) ≡ total h vs → n ≡ total h vs
total_end h vs i n l inv = let d : total h (drop i vs) ≡ 0 = ap (total h) (drop_all i vs l) in omega arith

-- A sum of what is at most 128 each, as far as the slot i.
pub record Summed (h : View → ℕ) (vs : List View) (i n : ℕ) : Type 0 where
  pub rest : n + total h (drop i vs) ≡ total h vs
  pub few : n ≤ 128 * i

pub summed_more : (h : View → ℕ) (vs : List View) (i n m r : ℕ) → i < length vs → Summed h vs i n → m ≡ weight h (view_at vs i) → r ≡ n + m → r ≤ n + 128 → Summed h vs (i + 1) r
summed_more h vs i n m r l sum em er few =
    record { rest = ap (λ k. k + total h (drop (i + 1) vs)) er ∙ total_step h vs i n m l em sum.rest; few = omega (arith, sum.few) }
