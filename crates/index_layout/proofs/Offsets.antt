-- The records of a section by offset: what a record more makes of the first and next positions and of the count of offsets. Assumes nothing.
--   following_latest    a position has no next one just where it is its offset's last
--   oldest_push         the first positions by offset, after a record more
--   following_push, following_none   the next position of one, after a record more, and of that record
--   fresh_push          how many offsets there are after it
--   first_within, next_within   where the answers lie
use Rattle.std.proofs.Common.{◌≡◌, ℕ, zero, suc, ◌+◌, ◌<◌, ◌≤◌, Bool, true, false, cond, ◌&&◌, eqb, ltb, ◌⊎◌, List, [], ◌∷◌, ◌++◌, length, get_or, set, IfSome, is_some, unwrap_or, Some, Option, sym, refl, ap, ◌∙◌, subst, inl, inr, add-one, arith}
use Rattle.std.proofs.lemmas.List.{get_or_append_left, get_or_push}
use Rattle.std.proofs.lemmas.Bool.{eq-eqb, ne_eqb, lt-ltb, le-ltb, cases_eq, cond-true, cond-false, cond_both, cases_Bool, eqb-true, ltb-true, and_parts, and_right, and_from}
use Rattle.index_layout.specs.Links.{earliest, latest, following, fresh, linked}
use Rattle.index_layout.proofs.Links.{latest_at, table_push}

-- A list that has grown.
earliest_front : (xs ys : List ℕ) (v n : ℕ) → n ≤ length xs → earliest (xs ++ ys) v n ≡ earliest xs v n
earliest_front xs ys v zero h = refl
earliest_front xs ys v (suc n) h =
    let e = get_or_append_left xs ys 0 n (omega arith) in
    let f = earliest_front xs ys v n (omega arith) in
    simp (e, f)

following_front : (xs ys : List ℕ) (p n : ℕ) → p < length xs → n ≤ length xs → following (xs ++ ys) p n ≡ following xs p n
following_front xs ys p zero l h = refl
following_front xs ys p (suc n) l h =
    let a = get_or_append_left xs ys 0 p l in
    let e = get_or_append_left xs ys 0 n (omega arith) in
    let f = following_front xs ys p n l (omega arith) in
    simp (e, a, f)

fresh_front : (xs ys : List ℕ) (n : ℕ) → n ≤ length xs → fresh (xs ++ ys) n ≡ fresh xs n
fresh_front xs ys zero h = refl
fresh_front xs ys (suc n) h =
    let e = get_or_append_left xs ys 0 n (omega arith) in
    let f = fresh_front xs ys n (omega arith) in
    let g = earliest_front xs ys (get_or xs n 0) n (omega arith) in
    simp (e, f, g)

pub fresh_le : (xs : List ℕ) (n : ℕ) → fresh xs n ≤ n
fresh_le xs zero = omega arith
fresh_le xs (suc n) =
    let again = fresh_le xs n in
    cond_both (eqb (earliest xs (get_or xs n 0) n) 0) (fresh xs n + 1) (fresh xs n) (λ m. m ≤ suc n) (λ _. omega arith) (λ _. omega arith)

-- Next positions.
pub following_none : (xs : List ℕ) (p n : ℕ) → n ≤ p + 1 → following xs p n ≡ 0
following_none xs p zero h = refl
following_none xs p (suc n) h =
    let f = following_none xs p n (omega arith) in
    let t : ltb p n ≡ false = le-ltb p n (omega arith) in
    simp (f, t)

abbrev Ends : List ℕ → ℕ → ℕ → Type 0
Ends xs p n = ((latest xs (get_or xs p 0) n ≡ suc p) × (following xs p n ≡ 0)) ⊎ ((latest xs (get_or xs p 0) n ≡ suc p → ⊥) × (following xs p n ≡ 0 → ⊥))

pub following_latest : (xs : List ℕ) (p n : ℕ) → p < n → Ends xs p n
following_latest xs p zero h = absurd (omega arith)
following_latest xs p (suc n) h = by (cases_eq p n) (λ l. following_latest xs p n l)
  where
    later : p < n → (get_or xs n 0 ≡ get_or xs p 0) ⊎ (get_or xs n 0 ≡ get_or xs p 0 → ⊥) → Ends xs p n → Ends xs p (suc n)
    later l (inl e) again =
        let t : eqb (get_or xs n 0) (get_or xs p 0) ≡ true = eq-eqb _ _ e in
        let b : (ltb p n && eqb (get_or xs n 0) (get_or xs p 0)) ≡ true = and_from _ _ (lt-ltb p n l) t in
        let last : latest xs (get_or xs p 0) (suc n) ≡ suc n = cond-true _ _ _ t in
        inr (
          (λ q. omega (arith, last, q)),
          cond_both (eqb (following xs p n) 0) (cond (ltb p n && eqb (get_or xs n 0) (get_or xs p 0)) (suc n) 0) (following xs p n) (λ m. m ≡ 0 → ⊥)
              (λ z q. let w = cond-true _ (suc n) 0 b in omega (arith, w, q)) (λ z q. absurd (bad z q)),
        )
      where
        bad : eqb (following xs p n) 0 ≡ false → following xs p n ≡ 0 → ⊥
        bad z q = let s = eq-eqb (following xs p n) 0 q in let w : ◌≡◌ {A = Bool} true false = sym s ∙ z in let o : ◌≡◌ {A = ℕ} 0 1 = cc in omega arith
    later l (inr ne) again =
        let t : eqb (get_or xs n 0) (get_or xs p 0) ≡ false = ne_eqb _ _ ne in
        let last : latest xs (get_or xs p 0) (suc n) ≡ latest xs (get_or xs p 0) n = cond-false _ _ _ t in
        let b : (ltb p n && eqb (get_or xs n 0) (get_or xs p 0)) ≡ false = and_right _ _ t in
        let next : following xs p (suc n) ≡ following xs p n = same b (cases_Bool (eqb (following xs p n) 0)) in
        elim again [
          | inl w ↦ inl (last ∙ w.0, next ∙ w.1)
          | inr w ↦ inr ((λ q. w.0 (sym last ∙ q)), (λ q. w.1 (sym next ∙ q)))
        ]
      where
        same : (ltb p n && eqb (get_or xs n 0) (get_or xs p 0)) ≡ false → (eqb (following xs p n) 0 ≡ true) ⊎ (eqb (following xs p n) 0 ≡ false) → following xs p (suc n) ≡ following xs p n
        same b (inl z) = cond-true _ _ _ z ∙ cond-false _ _ _ b ∙ sym (eqb-true _ _ z)
        same b (inr z) = cond-false _ _ _ z

    by : (p ≡ n) ⊎ (p ≡ n → ⊥) → (p < n → Ends xs p n) → Ends xs p (suc n)
    by (inl e) again =
        inl (
          cond-true _ _ _ (eq-eqb _ _ (ap (λ i. get_or xs i 0) (sym e))) ∙ ap (λ i. suc i) (sym e),
          following_none xs p (suc n) (omega arith),
        )
    by (inr ne) again =
        let l : p < n = omega (arith, ne) in
        later l (cases_eq (get_or xs n 0) (get_or xs p 0)) (again l)

-- After a record more, of the offset v at place n.
pub following_push : (xs : List ℕ) (v n p : ℕ) → length xs ≡ n → p < n
    → following (xs ++ v ∷ []) p (n + 1) ≡ cond (eqb (latest xs v n) (p + 1)) (n + 1) (following xs p n)
following_push xs v n p e hp = rw add-one (by (following_latest xs p n hp) (cases_eq (latest xs v n) (p + 1)) (cases_eq v (get_or xs p 0)))
  where
    more : following (xs ++ v ∷ []) p (suc n) ≡ cond (eqb (following xs p n) 0) (cond (ltb p n && eqb v (get_or xs p 0)) (suc n) 0) (following xs p n)
    more =
        let here = get_or_push xs v 0 n e in
        let a = get_or_append_left xs (v ∷ []) 0 p (omega arith) in
        let front = following_front xs (v ∷ []) p n (omega arith) (omega arith) in
        simp (here, front, a)

    by : Ends xs p n → (latest xs v n ≡ p + 1) ⊎ (latest xs v n ≡ p + 1 → ⊥) → (v ≡ get_or xs p 0) ⊎ (v ≡ get_or xs p 0 → ⊥)
        → following (xs ++ v ∷ []) p (suc n) ≡ cond (eqb (latest xs v n) (p + 1)) (suc n) (following xs p n)
    by (inl z) (inl e) (inl q) =
        more ∙ cond-true _ _ _ (eq-eqb _ _ z.1) ∙ cond-true _ _ _ (and_from _ _ (lt-ltb p n hp) (eq-eqb _ _ q)) ∙ sym (cond-true _ _ _ (eq-eqb _ _ e))
    by (inr z) (inl e) (inl q) = absurd (z.0 (ap (λ u. latest xs u n) (sym q) ∙ e ∙ add-one p))
    by w (inl e) (inr q) = absurd (q (sym (latest_at xs v n p (e ∙ add-one p))))
    by (inl z) (inr e) (inl q) = absurd (e (ap (λ u. latest xs u n) q ∙ z.0 ∙ sym (add-one p)))
    by (inl z) (inr e) (inr q) =
        more ∙ cond-true _ _ _ (eq-eqb _ _ z.1) ∙ cond-false _ _ _ (and_right (ltb p n) _ (ne_eqb _ _ q)) ∙ sym z.1 ∙ sym (cond-false _ _ _ (ne_eqb _ _ e))
    by (inr z) (inr e) c = more ∙ cond-false _ _ _ (ne_eqb _ _ z.1) ∙ sym (cond-false _ _ _ (ne_eqb _ _ e))

earliest_push : (xs : List ℕ) (v o n : ℕ) → length xs ≡ n
    → earliest (xs ++ v ∷ []) o (n + 1) ≡ cond (eqb (earliest xs o n) 0) (cond (eqb v o) (n + 1) 0) (earliest xs o n)
earliest_push xs v o n e =
    let here = get_or_push xs v 0 n e in
    let front = earliest_front xs (v ∷ []) o n (omega arith) in
    rw add-one (simp (here, front))

-- What stays for another offset.
other_first : (xs : List ℕ) (v o n : ℕ) → length xs ≡ n → (v ≡ o → ⊥) → earliest (xs ++ v ∷ []) o (n + 1) ≡ earliest xs o n
other_first xs v o n e ne = earliest_push xs v o n e ∙ by (cases_Bool (eqb (earliest xs o n) 0))
  where
    by : (eqb (earliest xs o n) 0 ≡ true) ⊎ (eqb (earliest xs o n) 0 ≡ false) → cond (eqb (earliest xs o n) 0) (cond (eqb v o) (n + 1) 0) (earliest xs o n) ≡ earliest xs o n
    by (inl z) = cond-true _ _ _ z ∙ cond-false _ _ _ (ne_eqb _ _ ne) ∙ sym (eqb-true _ _ z)
    by (inr z) = cond-false _ _ _ z

-- And for its own: what was first, or else the new one.
own_first : (xs : List ℕ) (v n : ℕ) (o : Option ℕ) → length xs ≡ n → o ≡ linked (earliest xs v n) → Some (unwrap_or o n) ≡ linked (earliest (xs ++ v ∷ []) v (n + 1))
own_first xs v n o e eo = ap (λ x. Some (unwrap_or x n)) eo ∙ by (earliest xs v n) ∙ sym (ap linked (earliest_push xs v v n e))
  where
    same : cond (eqb v v) (n + 1) 0 ≡ suc n
    same = cond-true _ (n + 1) 0 (eq-eqb v v refl) ∙ add-one n

    by : (k : ℕ) → Some (unwrap_or (linked k) n) ≡ linked (cond (eqb k 0) (cond (eqb v v) (n + 1) 0) k)
    by zero = sym (ap linked same)
    by (suc k) = sym (ap linked (cond-false _ _ _ (ne_eqb (suc k) 0 (λ q. omega arith))))

-- Where each entry shows the first place of its value.
pub oldest_push : {A : Type 0} (f : A → Option ℕ) (xs : List ℕ) (m v n : ℕ) (table : List A) (y d : A) → length xs ≡ n → v < length table → v < m
    → f y ≡ Some (unwrap_or (f (get_or table v d)) n)
    → ((o : ℕ) → o < m → f (get_or table o d) ≡ linked (earliest xs o n))
    → (o : ℕ) → o < m → f (get_or (set table v y) o d) ≡ linked (earliest (xs ++ v ∷ []) o (n + 1))
oldest_push f xs m v n table y d e hv hm fy old =
    table_push f (λ o. linked (earliest xs o n)) (λ o. linked (earliest (xs ++ v ∷ []) o (n + 1))) m v table y d hv
    (λ o ne. ap linked (other_first xs v o n e ne))
    (fy ∙ own_first xs v n (f (get_or table v d)) e (old v hm))
    old

-- The count of offsets rises where the offset has no first position.
pub fresh_push : (xs : List ℕ) (v n d : ℕ) (o : Option ℕ) → length xs ≡ n → d ≡ fresh xs n → o ≡ linked (earliest xs v n)
    → cond (is_some o) d (d + 1) ≡ fresh (xs ++ v ∷ []) (n + 1)
fresh_push xs v n d o e ed eo = ap (λ x. cond (is_some x) d (d + 1)) eo ∙ by (earliest xs v n) ∙ sym more
  where
    more : fresh (xs ++ v ∷ []) (n + 1) ≡ cond (eqb (earliest xs v n) 0) (fresh xs n + 1) (fresh xs n)
    more =
        let here = get_or_push xs v 0 n e in
        let front = earliest_front xs (v ∷ []) v n (omega arith) in
        let less = fresh_front xs (v ∷ []) n (omega arith) in
        rw add-one (simp (here, front, less))

    by : (k : ℕ) → cond (is_some (linked k)) d (d + 1) ≡ cond (eqb k 0) (fresh xs n + 1) (fresh xs n)
    by zero = ap (λ i. i + 1) ed
    by (suc k) = ed ∙ sym (cond-false _ _ _ (ne_eqb (suc k) 0 (λ q. omega arith)))

-- Where the answers lie.
earliest_le : (xs : List ℕ) (v n : ℕ) → earliest xs v n ≤ n
earliest_le xs v zero = omega arith
earliest_le xs v (suc n) =
    let f = earliest_le xs v n in
    cond_both (eqb (earliest xs v n) 0) (cond (eqb (get_or xs n 0) v) (suc n) 0) (earliest xs v n) (λ x. x ≤ suc n)
    (λ _. cond_both (eqb (get_or xs n 0) v) (suc n) 0 (λ x. x ≤ suc n) (λ _. omega arith) (λ _. omega arith)) (λ _. omega arith)

abbrev Between : ℕ → ℕ → ℕ → Type 0
Between p n m = (m ≡ 0) ⊎ ((p + 1 < m) × (m ≤ n))

following_within : (xs : List ℕ) (p n : ℕ) → Between p n (following xs p n)
following_within xs p zero = inl refl
following_within xs p (suc n) = by (following_within xs p n)
  where
    more : Between p n (following xs p n) → Between p (suc n) (following xs p n)
    more (inl z) = inl z
    more (inr w) = inr (w.0, omega (arith, w.1))

    by : Between p n (following xs p n) → Between p (suc n) (following xs p (suc n))
    by again =
        cond_both (eqb (following xs p n) 0) (cond (ltb p n && eqb (get_or xs n 0) (get_or xs p 0)) (suc n) 0) (following xs p n) (Between p (suc n))
        (λ _. cond_both (ltb p n && eqb (get_or xs n 0) (get_or xs p 0)) (suc n) 0 (Between p (suc n))
        (λ t. let l = ltb-true p n (and_parts _ _ t).0 in inr (omega arith, omega arith)) (λ _. inl refl))
        (λ _. more again)

-- An offset has a first position just where it has a last one.
pub earliest_latest : (xs : List ℕ) (v n : ℕ) → eqb (earliest xs v n) 0 ≡ eqb (latest xs v n) 0
earliest_latest xs v zero = refl
earliest_latest xs v (suc n) = by (cases_Bool (eqb (get_or xs n 0) v)) (cases_Bool (eqb (earliest xs v n) 0)) (earliest_latest xs v n)
  where
    by : (eqb (get_or xs n 0) v ≡ true) ⊎ (eqb (get_or xs n 0) v ≡ false) → (eqb (earliest xs v n) 0 ≡ true) ⊎ (eqb (earliest xs v n) 0 ≡ false)
        → eqb (earliest xs v n) 0 ≡ eqb (latest xs v n) 0 → eqb (earliest xs v (suc n)) 0 ≡ eqb (latest xs v (suc n)) 0
    by (inl t) (inl z) again = simp (t, z)
    by (inl t) (inr z) again = let s : eqb (suc n) 0 ≡ false = ne_eqb (suc n) 0 (λ e. omega arith) in simp (t, z, s)
    by (inr f) (inl z) again = simp (f, z) (sym z ∙ again)
    by (inr f) (inr z) again = simp (f, z) (sym z ∙ again)

earliest_none : (xs : List ℕ) (v n : ℕ) → latest xs v n ≡ 0 → earliest xs v n ≡ 0
earliest_none xs v n z = eqb-true _ _ (earliest_latest xs v n ∙ eq-eqb _ _ z)

earliest_some : (xs : List ℕ) (v n q : ℕ) → latest xs v n ≡ q + 1 → eqb (earliest xs v n) 0 ≡ false
earliest_some xs v n q z = earliest_latest xs v n ∙ ne_eqb _ _ (λ e. omega (arith, e, z))

pub first_within : (xs : List ℕ) (v n m : ℕ) (r : Option ℕ) → n ≤ m → r ≡ linked (earliest xs v n) → IfSome r (λ p. p < m)
first_within xs v n m r h e = subst (λ o. IfSome o (λ p. p < m)) (sym e) (by (earliest xs v n) (earliest_le xs v n))
  where
    by : (k : ℕ) → k ≤ n → IfSome (linked k) (λ p. p < m)
    by zero l = tt
    by (suc k) l = omega arith

pub next_within : (xs : List ℕ) (p n m : ℕ) (r : Option ℕ) → n ≤ m → r ≡ linked (following xs p n) → IfSome r (λ q. (p < q) × (q < m))
next_within xs p n m r h e = subst (λ o. IfSome o (λ q. (p < q) × (q < m))) (sym e) (by (following xs p n) (following_within xs p n))
  where
    by : (k : ℕ) → Between p n k → IfSome (linked k) (λ q. (p < q) × (q < m))
    by zero w = tt
    by (suc k) (inl z) = absurd (omega arith)
    by (suc k) (inr w) = (omega (arith, w.0), omega (arith, w.1))
