-- The chains of a bucket: what a record more makes of the heads and links, and a walk along one. Assumes nothing.
--   latest_le, latest_fix    a link names a place below, and a link that is walked to is its own last one
--   latest_at                the place that a link names has the value
--   latest_front, latest_push   the last place in a list that has grown
--   table_push               a table of answers by value, where one of them changes
--   newest_push              the last places by value, after a record more
--   matching_latest          a search begins at the chain's head
--   matching_here            what a search finds
--   link_linked              a link is that of the place it names
--   walk_from, walk_on       a search begins, and goes one step on
--   linked_none, -some       what a link is whose place is known
use Rattle.std.proofs.Common.{◌≡◌, ℕ, zero, suc, ◌+◌, ◌<◌, ◌≤◌, cond, ◌&&◌, eqb, List, [], ◌∷◌, ◌++◌, length, get_or, set, Some, None, Option, sym, refl, ap, ◌∙◌, inl, inr, add-one, arith, get_or-set_other, get_or-set_same}
use Rattle.std.proofs.lemmas.List.{get_or_append_left, get_or_push}
use Rattle.std.proofs.lemmas.Bool.{eq-eqb, ne_eqb, cases_eq, cond-true, cond-false, cond_both, cases_Bool, eqb-true}
use Rattle.index_layout.specs.Links.{latest, link, linked, matching}

pub latest_front : (xs ys : List ℕ) (v n : ℕ) → n ≤ length xs → latest (xs ++ ys) v n ≡ latest xs v n
latest_front xs ys v zero h = refl
latest_front xs ys v (suc n) h =
    let e = get_or_append_left xs ys 0 n (omega arith) in
    let f = latest_front xs ys v n (omega arith) in
    simp (e, f)

pub latest_push : (xs : List ℕ) (v b n : ℕ) → length xs ≡ n → latest (xs ++ v ∷ []) b (n + 1) ≡ cond (eqb v b) (n + 1) (latest xs b n)
latest_push xs v b n e =
    let here = get_or_push xs v 0 n e in
    let front = latest_front xs (v ∷ []) b n (omega arith) in
    rw add-one (simp (here, front))

pub latest_le : (xs : List ℕ) (v n : ℕ) → latest xs v n ≤ n
latest_le xs v zero = omega arith
latest_le xs v (suc n) =
    let f = latest_le xs v n in
    cond_both (eqb (get_or xs n 0) v) (suc n) (latest xs v n) (λ x. x ≤ suc n) (λ _. omega arith) (λ _. omega arith)

pub latest_fix : (xs : List ℕ) (v n : ℕ) → latest xs v (latest xs v n) ≡ latest xs v n
latest_fix xs v zero = refl
latest_fix xs v (suc n) =
    elim (cases_Bool (eqb (get_or xs n 0) v)) [
      | inl t ↦ simp t
      | inr f ↦ simp f (latest_fix xs v n)
    ]

pub at_link : (xs : List ℕ) (v q : ℕ) → latest xs v (suc q) ≡ suc q → get_or xs q 0 ≡ v
at_link xs v q h =
    elim (cases_Bool (eqb (get_or xs q 0) v)) [
      | inl t ↦ eqb-true _ _ t
      | inr f ↦
          let g : latest xs v q ≡ suc q = simp f at h in
          absurd (omega (arith, latest_le xs v q))
    ]

-- The place that the last link below n names has the value.
pub latest_at : (xs : List ℕ) (v n q : ℕ) → latest xs v n ≡ suc q → get_or xs q 0 ≡ v
latest_at xs v n q h = at_link xs v q (ap (latest xs v) (sym h) ∙ latest_fix xs v n ∙ h)

-- A table whose entry for each value o below m shows t o. The entry for v changes, and shows what the new t does.
pub table_push : {A : Type 0} (f : A → Option ℕ) (t t' : ℕ → Option ℕ) (m v : ℕ) (table : List A) (y d : A) → v < length table
    → ((o : ℕ) → (v ≡ o → ⊥) → t' o ≡ t o) → f y ≡ t' v
    → ((o : ℕ) → o < m → f (get_or table o d) ≡ t o)
    → (o : ℕ) → o < m → f (get_or (set table v y) o d) ≡ t' o
table_push f t t' m v table y d hv other here old o ho =
    elim (cases_eq o v) [
      | inl e ↦ ap (λ i. f (get_or (set table v y) i d)) e ∙ ap f (get_or-set_same table v y d hv) ∙ here ∙ ap t' (sym e)
      | inr ne ↦ ap f (get_or-set_other table v o y d ne) ∙ old o ho ∙ sym (other o (λ e. ne (sym e)))
    ]

-- Where each entry shows the last place of its value.
pub newest_push : {A : Type 0} (f : A → Option ℕ) (xs : List ℕ) (m v n : ℕ) (table : List A) (y d : A) → length xs ≡ n → v < length table → f y ≡ Some n
    → ((o : ℕ) → o < m → f (get_or table o d) ≡ linked (latest xs o n))
    → (o : ℕ) → o < m → f (get_or (set table v y) o d) ≡ linked (latest (xs ++ v ∷ []) o (n + 1))
newest_push f xs m v n table y d e hv fy =
    table_push f (λ o. linked (latest xs o n)) (λ o. linked (latest (xs ++ v ∷ []) o (n + 1))) m v table y d hv
    (λ o ne. ap linked (latest_push xs v o n e ∙ cond-false _ _ _ (ne_eqb v o ne)))
    (fy ∙ sym (ap linked (latest_push xs v v n e ∙ cond-true _ _ _ (eq-eqb v v refl) ∙ add-one n)))

pub matching_latest : (xs ys : List ℕ) (v w n : ℕ) → matching xs ys v w (latest xs v n) ≡ matching xs ys v w n
matching_latest xs ys v w zero = refl
matching_latest xs ys v w (suc n) =
    elim (cases_Bool (eqb (get_or xs n 0) v)) [
      | inl t ↦ simp t
      | inr f ↦ simp f (matching_latest xs ys v w n)
    ]

pub matching_le : (xs ys : List ℕ) (v w n : ℕ) → matching xs ys v w n ≤ n
matching_le xs ys v w zero = omega arith
matching_le xs ys v w (suc n) =
    let f = matching_le xs ys v w n in
    cond_both (eqb (get_or xs n 0) v && eqb (get_or ys n 0) w) (suc n) (matching xs ys v w n) (λ x. x ≤ suc n) (λ _. omega arith) (λ _. omega arith)

pub matching_here : (xs ys : List ℕ) (v w q : ℕ) → latest xs v (suc q) ≡ suc q → get_or ys q 0 ≡ w → matching xs ys v w (suc q) ≡ suc q
matching_here xs ys v w q hq e =
    let at = eq-eqb _ _ (at_link xs v q hq) in
    let k = eq-eqb _ _ e in
    simp (at, k)

-- Links and the places that they name.
pub link_linked : (k : ℕ) → link (linked k) ≡ k
link_linked zero = refl
link_linked (suc n) = refl

-- A walk along the chain of v, from the last place below n.
pub walk_from : (xs ys : List ℕ) (v w n : ℕ) (o : Option ℕ) → o ≡ linked (latest xs v n)
    → (link o ≤ n) × (latest xs v (link o) ≡ link o) × (matching xs ys v w (link o) ≡ matching xs ys v w n)
walk_from xs ys v w n o eo =
    let e : link o ≡ latest xs v n = ap link eo ∙ link_linked (latest xs v n) in
    rw e (latest_le xs v n, latest_fix xs v n, matching_latest xs ys v w n)

-- And one step on, past the place q where ys has another value.
pub walk_on : (xs ys : List ℕ) (v w q : ℕ) (o : Option ℕ) → latest xs v (suc q) ≡ suc q → (get_or ys q 0 ≡ w → ⊥) → o ≡ linked (latest xs (get_or xs q 0) q)
    → (link o ≤ q) × (latest xs v (link o) ≡ link o) × (matching xs ys v w (link o) ≡ matching xs ys v w (suc q))
walk_on xs ys v w q o hq ne eo =
    let at = at_link xs v q hq in
    let t = eq-eqb _ _ at in
    let k = ne_eqb _ _ ne in
    let m : matching xs ys v w (suc q) ≡ matching xs ys v w q = simp (t, k) in
    let f = walk_from xs ys v w q o (eo ∙ ap (λ u. linked (latest xs u q)) at) in
    (f.0, f.1, f.2 ∙ sym m)

pub linked_none : (n : ℕ) → linked n ≡ None → n ≡ 0
linked_none n h = sym (link_linked n) ∙ ap link h

pub linked_some : (n p : ℕ) → linked n ≡ Some p → n ≡ suc p
linked_some n p h = sym (link_linked n) ∙ ap link h
