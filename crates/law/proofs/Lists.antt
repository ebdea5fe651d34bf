-- Lists by tests: what `those` keeps, and who is among a list. Assumes nothing.
use Rattle.std.proofs.Common.{◌≡◌, ℕ, suc, ◌+◌, ◌≤◌, Bool, true, false, cond, not, ◌⊎◌, List, [], ◌∷◌, ◌++◌, length, sym, refl, ap, ◌∙◌, subst, inl, inr, arith}
use Rattle.std.proofs.lemmas.Bool.{cases_Bool, both_ways, cond-true, cond-false}
use Rattle.rules.specs.State.{those, some_in}
use Rattle.rules.specs.Calls.{Among}
use Rattle.rules.specs.Told.{Exactly, Counted}

module _ {X : Type 0} where
  pub among_left : (x : X) (xs ys : List X) → Among x xs → Among x (xs ++ ys)
  among_left x [] ys a = absurd a
  among_left x (z ∷ xs) ys (inl e) = inl e
  among_left x (z ∷ xs) ys (inr a) = inr (among_left x xs ys a)

  pub among_right : (x : X) (xs ys : List X) → Among x ys → Among x (xs ++ ys)
  among_right x [] ys a = a
  among_right x (z ∷ xs) ys a = inr (among_right x xs ys a)

  pub among_either : (x : X) (xs ys : List X) → Among x (xs ++ ys) → Among x xs ⊎ Among x ys
  among_either x [] ys a = inr a
  among_either x (z ∷ xs) ys (inl e) = inl (inl e)
  among_either x (z ∷ xs) ys (inr a) = by (among_either x xs ys a)
    where
      by : Among x xs ⊎ Among x ys → Among x (z ∷ xs) ⊎ Among x ys
      by (inl b) = inl (inr b)
      by (inr b) = inr b

module _ {X : Type 0} (t : X → Bool) where
  pub those_yes : (x : X) (xs : List X) → t x ≡ true → those t (x ∷ xs) ≡ x ∷ those t xs
  those_yes x xs e = cond-true _ _ _ e

  pub those_no : (x : X) (xs : List X) → t x ≡ false → those t (x ∷ xs) ≡ those t xs
  those_no x xs e = cond-false _ _ _ e

  pub those-++ : (xs ys : List X) → those t (xs ++ ys) ≡ those t xs ++ those t ys
  those-++ [] ys = refl
  those-++ (x ∷ xs) ys = by (t x) (those-++ xs ys)
    where
      by : (b : Bool) → those t (xs ++ ys) ≡ those t xs ++ those t ys → cond b (x ∷ those t (xs ++ ys)) (those t (xs ++ ys)) ≡ cond b (x ∷ those t xs) (those t xs) ++ those t ys
      by true i = ap (λ zs. x ∷ zs) i
      by false i = i

  pub those_all : (xs : List X) → ((x : X) → Among x xs → t x ≡ true) → those t xs ≡ xs
  those_all [] h = refl
  those_all (x ∷ xs) h = those_yes x xs (h x (inl refl)) ∙ ap (λ zs. x ∷ zs) (those_all xs (λ y a. h y (inr a)))

  pub those_none : (xs : List X) → ((x : X) → Among x xs → t x ≡ false) → those t xs ≡ []
  those_none [] h = refl
  those_none (x ∷ xs) h = those_no x xs (h x (inl refl)) ∙ those_none xs (λ y a. h y (inr a))

  pub among_those : (x : X) (xs : List X) → Among x xs → t x ≡ true → Among x (those t xs)
  among_those x [] a e = absurd a
  among_those x (y ∷ xs) (inl d) e = subst (Among x) (sym (those_yes y xs (ap t (sym d) ∙ e))) (inl d)
  among_those x (y ∷ xs) (inr a) e = by (t y) (among_those x xs a e)
    where
      by : (b : Bool) → Among x (those t xs) → Among x (cond b (y ∷ those t xs) (those t xs))
      by true k = inr k
      by false k = k

  pub those_among : (x : X) (xs : List X) → Among x (those t xs) → Among x xs × (t x ≡ true)
  those_among x [] a = absurd a
  those_among x (y ∷ xs) a = by (cases_Bool (t y)) (λ k. those_among x xs k)
    where
      again : (Among x (those t xs) → Among x xs × (t x ≡ true)) → Among x (those t xs) → Among x (y ∷ xs) × (t x ≡ true)
      again i k = let r = i k in (inr r.0, r.1)

      one : (Among x (those t xs) → Among x xs × (t x ≡ true)) → t y ≡ true → Among x (y ∷ those t xs) → Among x (y ∷ xs) × (t x ≡ true)
      one i e (inl d) = (inl d, ap t d ∙ e)
      one i e (inr k) = again i k

      by : (t y ≡ true) ⊎ (t y ≡ false) → (Among x (those t xs) → Among x xs × (t x ≡ true)) → Among x (y ∷ xs) × (t x ≡ true)
      by (inl e) i = one i e (subst (Among x) (those_yes y xs e) a)
      by (inr e) i = again i (subst (Among x) (those_no y xs e) a)

  pub length_those : (xs : List X) → length (those t xs) ≤ length xs
  length_those [] = omega arith
  length_those (x ∷ xs) = by (t x) (length_those xs)
    where
      by : (b : Bool) → length (those t xs) ≤ length xs → length (cond b (x ∷ those t xs) (those t xs)) ≤ length (x ∷ xs)
      by true h = omega arith
      by false h = omega arith

  -- Whether there is one, as a test and as a fact.
  pub some_there : (xs : List X) → some_in (those t xs) ≡ true → (x : X) × Among x xs × (t x ≡ true)
  some_there xs e = by (those t xs) refl e
    where
      by : (ys : List X) → those t xs ≡ ys → some_in ys ≡ true → (x : X) × Among x xs × (t x ≡ true)
      by [] q e = absurd (both_ways false refl e)
      by (y ∷ ys) q e = let r = those_among y xs (subst (Among y) (sym q) (inl refl)) in (y, r.0, r.1)

  pub there_some : (x : X) (xs : List X) → Among x xs → t x ≡ true → some_in (those t xs) ≡ true
  there_some x xs a e = by (those t xs) (among_those x xs a e)
    where
      by : (ys : List X) → Among x ys → some_in ys ≡ true
      by [] k = absurd k
      by (y ∷ ys) k = refl

  pub none_there : (xs : List X) → those t xs ≡ [] → ((x : X) × Among x xs × (t x ≡ true)) → ⊥
  none_there xs e b = subst (Among b.0) e (among_those b.0 xs b.1 b.2)

-- One test after another.
module _ {X : Type 0} (p q : X → Bool) where
  pub those_under : (xs : List X) → ((x : X) → Among x xs → p x ≡ true → q x ≡ true) → those p (those q xs) ≡ those p xs
  those_under [] h = refl
  those_under (x ∷ xs) h = by (cases_Bool (q x)) (those_under xs (λ y a. h y (inr a)))
    where
      by : (q x ≡ true) ⊎ (q x ≡ false) → those p (those q xs) ≡ those p xs → those p (those q (x ∷ xs)) ≡ those p (x ∷ xs)
      by (inl e) i = ap (those p) (those_yes q x xs e) ∙ ap (λ ys. cond (p x) (x ∷ ys) ys) i
      by (inr e) i = ap (those p) (those_no q x xs e) ∙ i ∙ sym (those_no p x xs (no (cases_Bool (p x))))
        where
          no : (p x ≡ true) ⊎ (p x ≡ false) → p x ≡ false
          no (inl k) = absurd (both_ways (q x) e (h x (inl refl) k))
          no (inr k) = k

  pub those_apart : (xs : List X) → ((x : X) → Among x xs → p x ≡ true → q x ≡ false) → those p (those q xs) ≡ []
  those_apart xs h = those_none p (those q xs) (λ x a. no x (those_among q x xs a) (cases_Bool (p x)))
    where
      no : (x : X) → Among x xs × (q x ≡ true) → (p x ≡ true) ⊎ (p x ≡ false) → p x ≡ false
      no x a (inl k) = absurd (both_ways (q x) (h x a.0 k) a.1)
      no x a (inr k) = k

  pub those_same : (xs : List X) → ((x : X) → Among x xs → p x ≡ q x) → those p xs ≡ those q xs
  those_same [] h = refl
  those_same (x ∷ xs) h = ap (λ b. cond b (x ∷ those p xs) (those p xs)) (h x (inl refl)) ∙ ap (λ ys. cond (q x) (x ∷ ys) ys) (those_same xs (λ y a. h y (inr a)))

  -- Both parts of a list by a test, counted together.
  pub split_count : (xs : List X) → length (those p xs) ≡ length (those p (those q xs)) + length (those p (those (λ x. not (q x)) xs))
  split_count [] = omega arith
  split_count (x ∷ xs) = by (cases_Bool (q x)) (split_count xs)
    where
      more : (b : Bool) (ys : List X) → length (cond b (x ∷ ys) ys) ≡ cond b 1 0 + length ys
      more true ys = omega arith
      more false ys = omega arith

      by : (q x ≡ true) ⊎ (q x ≡ false) → length (those p xs) ≡ length (those p (those q xs)) + length (those p (those (λ y. not (q y)) xs))
          → length (those p (x ∷ xs)) ≡ length (those p (those q (x ∷ xs))) + length (those p (those (λ y. not (q y)) (x ∷ xs)))
      by (inl e) i =
          let a = ap (λ ys. length (those p ys)) (those_yes q x xs e) ∙ more (p x) (those p (those q xs)) in
          let b = ap (λ ys. length (those p ys)) (those_no (λ y. not (q y)) x xs (ap not e)) in
          let c = more (p x) (those p xs) in
          omega (arith, a, b, c, i)
      by (inr e) i =
          let a = ap (λ ys. length (those p ys)) (those_no q x xs e) in
          let b = ap (λ ys. length (those p ys)) (those_yes (λ y. not (q y)) x xs (ap not e)) ∙ more (p x) (those p (those (λ y. not (q y)) xs)) in
          let c = more (p x) (those p xs) in
          omega (arith, a, b, c, i)

  pub those_swap : (xs : List X) → those p (those q xs) ≡ those q (those p xs)
  those_swap [] = refl
  those_swap (x ∷ xs) = by (cases_Bool (p x)) (cases_Bool (q x)) (those_swap xs)
    where
      by : (p x ≡ true) ⊎ (p x ≡ false) → (q x ≡ true) ⊎ (q x ≡ false) → those p (those q xs) ≡ those q (those p xs)
          → those p (those q (x ∷ xs)) ≡ those q (those p (x ∷ xs))
      by (inl d) (inl e) i =
          ap (those p) (those_yes q x xs e) ∙ those_yes p x (those q xs) d ∙ ap (λ ys. x ∷ ys) i ∙ sym (those_yes q x (those p xs) e) ∙ sym (ap (those q) (those_yes p x xs d))
      by (inl d) (inr e) i = ap (those p) (those_no q x xs e) ∙ i ∙ sym (those_no q x (those p xs) e) ∙ sym (ap (those q) (those_yes p x xs d))
      by (inr d) (inl e) i = ap (those p) (those_yes q x xs e) ∙ those_no p x (those q xs) d ∙ i ∙ sym (ap (those q) (those_no p x xs d))
      by (inr d) (inr e) i = ap (those p) (those_no q x xs e) ∙ i ∙ sym (ap (those q) (those_no p x xs d))

-- A test that decides a property, and how many have it.
abbrev pub Decided : {X : Type 0} → (X → Bool) → (X → Type 0) → Type 0
Decided {X} t P = (x : X) → Exactly (t x ≡ true) (P x)

module _ {X : Type 0} (t : X → Bool) (P : X → Type 0) (d : Decided t P) where
  pub counted_those : (xs : List X) → Counted P xs (length (those t xs))
  counted_those [] = refl
  counted_those (x ∷ xs) = by (cases_Bool (t x)) (counted_those xs)
    where
      by : (t x ≡ true) ⊎ (t x ≡ false) → Counted P xs (length (those t xs)) → Counted P (x ∷ xs) (length (those t (x ∷ xs)))
      by (inl e) i = inl ((d x).0 e, (length (those t xs), ap length (those_yes t x xs e), i))
      by (inr e) i = inr ((λ p. both_ways (t x) e ((d x).1 p)), subst (Counted P xs) (sym (ap length (those_no t x xs e))) i)

  pub counted_one : (xs : List X) (c : ℕ) → Counted P xs c → c ≡ length (those t xs)
  counted_one [] c k = k
  counted_one (x ∷ xs) c (inl k) = k.1.1 ∙ ap (λ n. suc n) (counted_one xs k.1.0 k.1.2) ∙ sym (ap length (those_yes t x xs ((d x).1 k.0)))
  counted_one (x ∷ xs) c (inr k) = counted_one xs c k.1 ∙ sym (ap length (those_no t x xs (by (cases_Bool (t x)))))
    where
      by : (t x ≡ true) ⊎ (t x ≡ false) → t x ≡ false
      by (inl e) = absurd (k.0 ((d x).0 e))
      by (inr e) = e
