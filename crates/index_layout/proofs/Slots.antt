-- Going through the slots. Assumes nothing.
--   slot_place               the search for a start, and slot_tells what its answer says
--   struck_step, struck_end   a strike, slot by slot
use Rattle.std.proofs.Common.{◌≡◌, ℕ, zero, suc, ◌+◌, ◌<◌, ◌≤◌, true, false, cond, ◌≢◌, ◌⊎◌, List, [], ◌∷◌, map, length, set, is_some, Some, None, Option, sym, refl, ap, ◌∙◌, subst, inl, inr, arith, get_or-set_other, get_or-set_same, below_more, MatchOption}
use Rattle.std.specs.List.{position_from}
use Rattle.std.proofs.lemmas.List.{length-map, get_or-map, ext_get_or}
use Rattle.std.proofs.lemmas.Bool.{cond-true, cond-false, cases_Bool, both_ways}
use Rattle.index_layout.specs.Views.{View, free_view, kept_view, view_at, Holds}
use Rattle.index_layout.specs.Held.{holds, found, slot_from, slot_of}
use Rattle.index_layout.proofs.Held.{Nowhere, held_from, held_to}

-- The slot of a start, as a place in a list of what the slots stand for.
pub slot_place : {A : Type 0} (f : A → View) (xs : List A) (i s : ℕ) → position_from (λ x. holds s (f x)) i xs ≡ slot_from i (map f xs) s
slot_place f [] i s = refl
slot_place f (x ∷ xs) i s = ap (λ r. cond (holds s (f x)) (Some i) r) (slot_place f xs (i + 1) s)

-- The slot i, k slots on.
record Slot (vs : List View) (s k i : ℕ) : Type 0 where
  at : ℕ
  on : i ≡ k + at
  below : at < length vs
  here : Holds vs at s
  is : found vs s ≡ view_at vs at

slot_from_tells : (vs : List View) (s k : ℕ) → MatchOption (slot_from k vs s) (Nowhere vs s × (found vs s ≡ free_view)) (Slot vs s k)
slot_from_tells [] s k = ((λ i l h. omega arith), refl)
slot_from_tells (v ∷ vs) s k = by (cases_Bool (holds s v)) (slot_from_tells vs s (k + 1))
  where
    rest : holds s v ≡ false → (r : Option ℕ) → MatchOption r (Nowhere vs s × (found vs s ≡ free_view)) (Slot vs s (k + 1))
        → MatchOption r (Nowhere (v ∷ vs) s × (found (v ∷ vs) s ≡ free_view)) (Slot (v ∷ vs) s k)
    rest e None none = ((λ i. step i), cond-false _ _ _ e ∙ none.1)
      where
        step : (i : ℕ) → i < length (v ∷ vs) → Holds (v ∷ vs) i s → ⊥
        step zero l h = both_ways _ e (held_to v s h.0 h.1)
        step (suc i) l h = none.0 i (omega arith) h
    rest e (Some i) q = record { at = suc q.at; on = omega (arith, q.on); below = omega (arith, q.below); here = q.here; is = cond-false _ _ _ e ∙ q.is }

    by : (holds s v ≡ true) ⊎ (holds s v ≡ false) → MatchOption (slot_from (k + 1) vs s) (Nowhere vs s × (found vs s ≡ free_view)) (Slot vs s (k + 1))
        → MatchOption (slot_from k (v ∷ vs) s) (Nowhere (v ∷ vs) s × (found (v ∷ vs) s ≡ free_view)) (Slot (v ∷ vs) s k)
    by (inl e) again =
        subst (λ r. MatchOption r (Nowhere (v ∷ vs) s × (found (v ∷ vs) s ≡ free_view)) (Slot (v ∷ vs) s k)) (sym (cond-true _ (Some k) (slot_from (k + 1) vs s) e))
        (record { at = 0; on = omega arith; below = omega arith; here = held_from v s e; is = cond-true _ _ _ e })
    by (inr e) again =
        subst (λ r. MatchOption r (Nowhere (v ∷ vs) s × (found (v ∷ vs) s ≡ free_view)) (Slot (v ∷ vs) s k)) (sym (cond-false _ (Some k) (slot_from (k + 1) vs s) e))
        (rest e (slot_from (k + 1) vs s) again)

-- What the answer says: no slot holds the start, or this one does, and it is the one that is found.
pub record Home (vs : List View) (s i : ℕ) : Type 0 where
  pub below : i < length vs
  pub here : Holds vs i s
  pub is : found vs s ≡ view_at vs i

pub slot_tells : (vs : List View) (s : ℕ) (r : Option ℕ) → r ≡ slot_of vs s → MatchOption r (Nowhere vs s × (found vs s ≡ free_view)) (Home vs s)
slot_tells vs s r e =
    subst (λ o. MatchOption o (Nowhere vs s × (found vs s ≡ free_view)) (Home vs s)) (sym e) (by (slot_from 0 vs s) (slot_from_tells vs s 0))
  where
    by : (o : Option ℕ) → MatchOption o (Nowhere vs s × (found vs s ≡ free_view)) (Slot vs s 0) → MatchOption o (Nowhere vs s × (found vs s ≡ free_view)) (Home vs s)
    by None none = none
    by (Some i) q =
        let e : q.at ≡ i = omega (arith, q.on) in
        record { below = omega (arith, q.below); here = subst (λ k. Holds vs k s) e q.here; is = q.is ∙ ap (λ k. view_at vs k) e }

pub slot_held : (vs : List View) (s : ℕ) (r : Option ℕ) → r ≡ slot_of vs s → is_some r ≡ true → (found vs s).used ≡ true
slot_held vs s None e h = absurd (both_ways false refl h)
slot_held vs s (Some i) e h = let q : Home vs s i = slot_tells vs s (Some i) e in ap (λ v. v.used) q.is ∙ q.here.0

pub slot_absent : (vs : List View) (s : ℕ) (r : Option ℕ) → r ≡ slot_of vs s → is_some r ≡ false → Nowhere vs s × (found vs s ≡ free_view)
slot_absent vs s None e h = slot_tells vs s None e
slot_absent vs s (Some i) e h = absurd (both_ways true h refl)

-- A strike: the slots below i are done.
pub struck_step : (now0 now1 was : List View) (i min : ℕ) → i < length now0
    → now1 ≡ set now0 i (kept_view min (view_at now0 i))
    → ((k : ℕ) → k < i → view_at now0 k ≡ kept_view min (view_at was k))
    → ((k : ℕ) → i ≤ k → view_at now0 k ≡ view_at was k)
    → ((k : ℕ) → k < i + 1 → view_at now1 k ≡ kept_view min (view_at was k)) × ((k : ℕ) → i + 1 ≤ k → view_at now1 k ≡ view_at was k)
struck_step now0 now1 was i min h e done left = (
  below_more (λ k. view_at now1 k ≡ kept_view min (view_at was k)) i
      (λ k l. let ne : k ≢ i = omega arith in
      ap (λ vs. view_at vs k) e ∙ get_or-set_other now0 i k (kept_view min (view_at now0 i)) free_view ne ∙ done k l)
      (ap (λ vs. view_at vs i) e ∙ get_or-set_same now0 i (kept_view min (view_at now0 i)) free_view h ∙ ap (kept_view min) (left i (omega arith))),
  (λ k l. let ne : k ≢ i = omega arith in
      ap (λ vs. view_at vs k) e ∙ get_or-set_other now0 i k (kept_view min (view_at now0 i)) free_view ne ∙ left k (omega arith)),
)

pub struck_end : (vs was : List View) (n min : ℕ) → length vs ≡ n → length was ≡ n
    → ((k : ℕ) → k < n → view_at vs k ≡ kept_view min (view_at was k)) → vs ≡ map (kept_view min) was
struck_end vs was n min ev ew all =
    ext_get_or free_view vs (map (kept_view min) was) (ev ∙ sym (length-map was (kept_view min) ∙ ew))
    (λ k l. all k (omega arith) ∙ sym (get_or-map (kept_view min) was k free_view free_view (omega arith)))
