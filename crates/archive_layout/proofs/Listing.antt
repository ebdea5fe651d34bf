-- A listing by key, place after place: each is the first behind the one before it. Assumes nothing.
use Rattle.std.proofs.Common.{◌≡◌, ℕ, zero, suc, ◌+◌, ◌-◌, ◌<◌, ◌≤◌, Bool, true, false, ◌&&◌, eqb, ltb, ◌⊎◌, List, [], ◌∷◌, ◌++◌, length, take, drop, set, Some, None, Option, sym, refl, ap, ◌∙◌, subst, inl, inr, arith, length-drop}
use Rattle.std.proofs.lemmas.List.{take_more_set}
use Rattle.std.proofs.lemmas.Bool.{ltb-true, lt-ltb, eqb-true, eq-eqb, and_parts, and_from, or_cases, or_left, or_right}
use Rattle.journal.specs.Meaning as journal
use Rattle.journal.specs.Meaning.{Section, Row}
use Rattle.rules.specs.declared.answer.Place.{Place}
use Rattle.rules.specs.State.{Record, number_of, place_of, records_of, those, bears_key, by_number, places_of}
use Rattle.rules.specs.Calls.{Among}
use Rattle.rules.specs.Told.{Before, RisingFrom, Rising, Lists}
use Rattle.law.proofs.Lists.{those_same}
use Rattle.law.proofs.Same.{Homed}
use Rattle.law.proofs.Sorted.{listed}
use Rattle.archive_layout.specs.Keys.{is_behind, sought, front, least, place_in, listed_from}

-- The order of places.
before_behind : (a : Place) (r : Record) → Before a (place_of r) → is_behind (Some a) r ≡ true
before_behind a r (inl h) = or_left _ _ (lt-ltb _ _ h)
before_behind a r (inr h) = or_right _ _ (and_from _ _ (eq-eqb _ _ h.0) (lt-ltb _ _ h.1))

behind_before : (a : Place) (r : Record) → is_behind (Some a) r ≡ true → Before a (place_of r)
behind_before a r h = by (or_cases _ _ h)
  where
    by : (ltb a.number (number_of r) ≡ true) ⊎ ((eqb a.number (number_of r) && ltb a.position r.position) ≡ true) → Before a (place_of r)
    by (inl e) = inl (ltb-true _ _ e)
    by (inr e) = let b = and_parts (eqb a.number (number_of r)) (ltb a.position r.position) e in inr (eqb-true _ _ b.0, ltb-true _ _ b.1)

before_trans : (p q r : Place) → Before p q → Before q r → Before p r
before_trans p q r (inl a) (inl b) = inl (omega arith)
before_trans p q r (inl a) (inr b) = inl (omega (arith, b.0))
before_trans p q r (inr a) (inl b) = inl (omega (arith, a.0))
before_trans p q r (inr a) (inr b) = inr (a.0 ∙ b.0, omega (arith, a.1, b.1))

before_not : (p q : Place) → Before p q → p ≡ q → ⊥
before_not p q (inl a) e = let z = ap (λ (x : Place). x.number) e in omega arith
before_not p q (inr a) e = let z = ap (λ (x : Place). x.position) e in omega (arith, z, a.1)

before_turn : (p q : Place) → Before p q → Before q p → ⊥
before_turn p q a b = before_not p p (before_trans p q p a b) refl

behind_all : (p x : Place) (ps : List Place) → RisingFrom p ps → Among x ps → Before p x
behind_all p x [] up a = absurd a
behind_all p x (q ∷ ps) up (inl e) = subst (Before p) (sym e) up.0
behind_all p x (q ∷ ps) up (inr a) = before_trans p q x up.0 (behind_all q x ps up.1 a)

rising_tail : (p : Place) (ps : List Place) → RisingFrom p ps → Rising ps
rising_tail p [] up = tt
rising_tail p (q ∷ ps) up = up.1

-- Two rising lists of the same places are one.
rising_one : (ps qs : List Place) → Rising ps → Rising qs → ((x : Place) → Among x ps → Among x qs) → ((x : Place) → Among x qs → Among x ps) → ps ≡ qs
rising_one [] [] a b f g = refl
rising_one [] (q ∷ qs) a b f g = absurd (g q (inl refl))
rising_one (p ∷ ps) [] a b f g = absurd (f p (inl refl))
rising_one (p ∷ ps) (q ∷ qs) a b f g =
    ap (λ z. z ∷ ps) heads ∙ ap (λ zs. q ∷ zs) (rising_one ps qs (rising_tail p ps a) (rising_tail q qs b) (λ x n. on x n (f x (inr n))) (λ x n. back x n (g x (inr n))))
  where
    heads_by : (p ≡ q) ⊎ Among p qs → (q ≡ p) ⊎ Among q ps → p ≡ q
    heads_by (inl e) y = e
    heads_by (inr n) (inl e) = sym e
    heads_by (inr n) (inr k) = absurd (before_turn q p (behind_all q p qs b n) (behind_all p q ps a k))

    heads : p ≡ q
    heads = heads_by (f p (inl refl)) (g q (inl refl))

    on : (x : Place) → Among x ps → (x ≡ q) ⊎ Among x qs → Among x qs
    on x n (inl e) = absurd (before_not p x (behind_all p x ps a n) (heads ∙ sym e))
    on x n (inr k) = k

    back : (x : Place) → Among x qs → (x ≡ p) ⊎ Among x ps → Among x ps
    back x n (inl e) = absurd (before_not q x (behind_all q x qs b n) (sym heads ∙ sym e))
    back x n (inr k) = k

-- By the records of a journal.
module _ (l : ℕ) (xs : List Section) (key : List ℕ) (up : journal.Rising 0 xs) (homed : Homed l (records_of xs)) where
  lists : (a : Option Place) → Lists (λ r. sought key a r ≡ true) (records_of xs) (length (those (sought key a) (records_of xs))) (listed_from xs key a)
  lists a = listed l (sought key a) (λ r. sought key a r ≡ true) (λ r. ((λ e. e), (λ e. e))) (records_of xs) xs up homed (λ s. refl)

  weaker : (a : Option Place) (p : Place) (r : Record) → Among p (listed_from xs key a) → Before p (place_of r) → is_behind a r ≡ true
  weaker None p r n b = refl
  weaker (Some a) p r n b =
      let f = (lists (Some a)).only p n in
      let k = behind_before a f.0 (and_parts (bears_key key f.0) (is_behind (Some a) f.0) f.2).1 in
      before_behind a r (before_trans a p (place_of r) (subst (Before a) f.3 k) b)

  pub next_places : (a : Option Place) (p : Place) (ps : List Place) → listed_from xs key a ≡ p ∷ ps → listed_from xs key (Some p) ≡ ps
  next_places a p ps e = rising_one (listed_from xs key (Some p)) ps (lists (Some p)).rising (rising_tail p ps up_a) there back
    where
      up_a : RisingFrom p ps
      up_a = subst Rising e (lists a).rising

      there_by : (x : Place) → Before p x → (x ≡ p) ⊎ Among x ps → Among x ps
      there_by x b (inl q) = absurd (before_not p x b (sym q))
      there_by x b (inr n) = n

      there : (x : Place) → Among x (listed_from xs key (Some p)) → Among x ps
      there x n =
          let f = (lists (Some p)).only x n in
          let c = and_parts (bears_key key f.0) (is_behind (Some p) f.0) f.2 in
          let b = behind_before p f.0 c.1 in
          let w = weaker a p f.0 (subst (Among p) (sym e) (inl refl)) b in
          there_by x (subst (Before p) f.3 b) (subst (λ ys. Among x ys) e (subst (λ y. Among y (listed_from xs key a)) f.3 ((lists a).every f.0 f.1 (and_from _ _ c.0 w))))

      back : (x : Place) → Among x ps → Among x (listed_from xs key (Some p))
      back x n =
          let f = (lists a).only x (subst (Among x) (sym e) (inr n)) in
          let c = and_parts (bears_key key f.0) (is_behind a f.0) f.2 in
          let b = subst (Before p) (sym f.3) (behind_all p x ps up_a n) in
          subst (λ y. Among y (listed_from xs key (Some p))) f.3 ((lists (Some p)).every f.0 f.1 (and_from _ _ c.0 (before_behind p f.0 b)))

-- Behind no place stand all.
same_test : (key : List ℕ) (xs : List Record) → those (sought key None) xs ≡ those (bears_key key) xs
same_test key xs = those_same (sought key None) (bears_key key) xs (λ r _. and_one (bears_key key r))
  where
    and_one : (b : Bool) → (b && true) ≡ b
    and_one true = refl
    and_one false = refl

pub from_none : (key : List ℕ) (xs : List Section) → listed_from xs key None ≡ places_of (by_number (those (bears_key key) (records_of xs)))
from_none key xs = ap (λ rs. places_of (by_number rs)) (same_test key (records_of xs))

pub least_all : (key : List ℕ) (xs : List Section) → least (those (sought key None) (records_of xs)) ≡ least (those (bears_key key) (records_of xs))
least_all key xs = ap least (same_test key (records_of xs))

pub front_listed : (rs : List Record) → place_in (least rs) ≡ front (places_of (by_number rs))
front_listed rs = by (by_number rs)
  where
    by : (ys : List Record) → place_in (front ys) ≡ front (places_of ys)
    by [] = refl
    by (y ∷ ys) = refl

-- The place i of a listing, and what follows it.
pub front_some : {X : Type 0} (xs : List X) (i : ℕ) (x : X) → front (drop i xs) ≡ Some x → drop i xs ≡ x ∷ drop (i + 1) xs
front_some [] zero x h = let z : ◌≡◌ {A = ℕ} 0 1 = cc in absurd (omega arith)
front_some [] (suc i) x h = let z : ◌≡◌ {A = ℕ} 0 1 = cc in absurd (omega arith)
front_some (y ∷ xs) zero x h = let e : y ≡ x = cc in ap (λ z. z ∷ xs) e
front_some (y ∷ xs) (suc i) x h = let e : suc i + 1 ≡ suc (i + 1) = omega arith in front_some xs i x h ∙ ap (λ j. x ∷ drop j (y ∷ xs)) (sym e)

pub front_none : {X : Type 0} (xs : List X) (i : ℕ) → front (drop i xs) ≡ None → length xs ≤ i
front_none xs i h = by (drop i xs) refl h
  where
    by : (ys : List _) → drop i xs ≡ ys → front ys ≡ None → length xs ≤ i
    by [] e h = let z : length xs - i ≡ 0 = sym (length-drop i xs) ∙ ap length e in omega arith
    by (y ∷ ys) e h = let z : ◌≡◌ {A = ℕ} 0 1 = cc in absurd (omega arith)

pub front_inside : {X : Type 0} (xs : List X) (i : ℕ) (x : X) → front (drop i xs) ≡ Some x → i < length xs
front_inside xs i x h = let e : length xs - i ≡ length (x ∷ drop (i + 1) xs) = sym (length-drop i xs) ∙ ap length (front_some xs i x h) in omega arith

-- One place more of a slice that is filled from its front.
pub fill_more : {X : Type 0} (ps ys zs : List X) (i : ℕ) (y : X) → i < length ps → take i ps ≡ take i ys → drop i ys ≡ y ∷ zs → take (i + 1) (set ps i y) ≡ take (i + 1) ys
fill_more ps ys zs i y lt same at =
    take_more_set ps i y lt ∙ ap (λ qs. qs ++ y ∷ []) same ∙ sym (taken ys i at)
  where
    taken : (us : List _) (n : ℕ) → drop n us ≡ y ∷ zs → take (n + 1) us ≡ take n us ++ y ∷ []
    taken [] zero h = let z : ◌≡◌ {A = ℕ} 0 1 = cc in absurd (omega arith)
    taken [] (suc n) h = let z : ◌≡◌ {A = ℕ} 0 1 = cc in absurd (omega arith)
    taken (u ∷ us) zero h = let e : u ≡ y = cc in ap (λ v. v ∷ []) e
    taken (u ∷ us) (suc n) h = let e : suc n + 1 ≡ suc (n + 1) = omega arith in ap (λ j. take j (u ∷ us)) e ∙ ap (λ vs. u ∷ vs) (taken us n h)
