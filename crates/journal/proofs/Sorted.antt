-- The sections in rising order, from a list of slots. Assumes nothing.
use Rattle.std.proofs.Common.{◌≡◌, ℕ, zero, suc, ◌+◌, ◌<◌, ◌≤◌, Bool, true, false, cond, eqb, ltb, ◌⊎◌, List, [], ◌∷◌, ◌++◌, map, length, get_or, set, Some, None, sym, refl, ap, ◌∙◌, subst, inl, inr, ⊎_elim, arith}
use Rattle.std.proofs.lemmas.Bool.Decides.{nat_tests}
use Rattle.std.proofs.lemmas.Bool.{cond-true, cond-false, cond_both, eqb-true, ltb-true, lt-ltb, le-ltb, eq-eqb, ne_eqb, cases_lt, cases_Bool, both_ways}
use Rattle.std.specs.List.{AllByRecursion}
use Rattle.journal.specs.Meaning.{Section, Row, is_kept, rows_of, first_from, Rising}
use Rattle.journal.specs.Calls.{extended, opened, placed, kept_from, any_below}
use Rattle.journal.specs.Slots.{full, put_in, sorted, pruned_slot}
use Rattle.journal.proofs.Rows.{kept_below, rows_not_kept}

put_again : (s x : Section) (xs : List Section) → s.start ≡ x.start → put_in s (put_in x xs) ≡ put_in s xs
put_again s x [] e = grind (arith, nat_tests)
put_again s x (y ∷ ys) e = let i = put_again s x ys e in grind (arith, nat_tests)

put_swap : (a b : Section) (xs : List Section) → (a.start ≡ b.start → ⊥) → put_in a (put_in b xs) ≡ put_in b (put_in a xs)
put_swap a b [] ne = grind (arith, nat_tests)
put_swap a b (x ∷ xs) ne = let i = put_swap a b xs ne in grind (arith, nat_tests)

-- One slot changed: a kept slot of the same start, or a free one.
pub sorted_set : (secs : List Section) (t : ℕ) (s d : Section) → t < length secs → full s ≡ true
    → (full (get_or secs t d) ≡ true → s.start ≡ (get_or secs t d).start)
    → ((i : ℕ) → i < length secs → (i ≡ t → ⊥) → full (get_or secs i d) ≡ true → s.start ≡ (get_or secs i d).start → ⊥)
    → sorted (set secs t s) ≡ put_in s (sorted secs)
sorted_set [] t s d h k here others = absurd (omega arith)
sorted_set (x ∷ xs) zero s d h k here others =
    rw k (cond_both (full x) (put_in x (sorted xs)) (sorted xs) (λ y. put_in s (sorted xs) ≡ put_in s y) (λ e. sym (put_again s x (sorted xs) (here e))) (λ e. refl))
sorted_set (x ∷ xs) (suc t) s d h k here others =
    let i = sorted_set xs t s d (omega arith) k here (λ j l ne. others (suc j) (omega arith) (λ e. ne (omega arith))) in
    split (full x) (λ e. ap (put_in x) i ∙ put_swap x s (sorted xs) (λ q. others 0 (omega arith) (λ z. omega arith) e (sym q))) i
  where
    split : (b : Bool) → (b ≡ true → put_in x (sorted (set xs t s)) ≡ put_in s (put_in x (sorted xs))) → sorted (set xs t s) ≡ put_in s (sorted xs)
        → cond b (put_in x (sorted (set xs t s))) (sorted (set xs t s)) ≡ put_in s (cond b (put_in x (sorted xs)) (sorted xs))
    split true f g = f refl
    split false f g = g

kept_from_put : (m : ℕ) (x : Section) (xs : List Section) → kept_from (put_in x xs) m ≡ cond (ltb x.start m) (kept_from xs m) (put_in x (kept_from xs m))
kept_from_put m x [] = grind (arith, nat_tests)
kept_from_put m x (y ∷ ys) = let i = kept_from_put m x ys in grind (arith, nat_tests)

pub sorted_pruned : (m : ℕ) (secs : List Section) → sorted (map (pruned_slot m) secs) ≡ kept_from (sorted secs) m
sorted_pruned m [] = refl
sorted_pruned m (x ∷ xs) = let i = sorted_pruned m xs in let j = kept_from_put m x (sorted xs) in grind (arith, nat_tests)

-- What each question sees of a section put in its put_in.
rows_of_put : (x : Section) (xs : List Section) (s : ℕ) → rows_of (put_in x xs) s ≡ cond (eqb x.start s) x.rows (rows_of xs s)
rows_of_put x [] s = refl
rows_of_put x (y ∷ ys) s = let i = rows_of_put x ys s in grind (arith, nat_tests)

is_kept_put : (x : Section) (xs : List Section) (s : ℕ) → is_kept (put_in x xs) s ≡ cond (eqb x.start s) true (is_kept xs s)
is_kept_put x [] s = refl
is_kept_put x (y ∷ ys) s = let i = is_kept_put x ys s in grind (arith, nat_tests)

any_below_put : (x : Section) (xs : List Section) (m : ℕ) → any_below (put_in x xs) m ≡ cond (ltb x.start m) true (any_below xs m)
any_below_put x [] m = refl
any_below_put x (y ∷ ys) m = let i = any_below_put x ys m in grind (arith, nat_tests)

length_put : (x : Section) (xs : List Section) → length (put_in x xs) ≤ length xs + 1
length_put x [] = omega arith
length_put x (y ∷ ys) = let i = length_put x ys in grind (arith, nat_tests)

length_put_new : (x : Section) (xs : List Section) → is_kept xs x.start ≡ false → length (put_in x xs) ≡ length xs + 1
length_put_new x [] h = refl
length_put_new x (y ∷ ys) h =
    let n : eqb y.start x.start ≡ false = grind (arith, nat_tests) in
    let k : is_kept ys x.start ≡ false = simp n at h in
    let i = length_put_new x ys k in simp n (grind (arith, nat_tests))

rising_put : (low : ℕ) (x : Section) (xs : List Section) → Rising low xs → low ≤ x.start → Rising low (put_in x xs)
rising_put low x [] up h = (h, tt)
rising_put low x (y ∷ ys) up h =
    cond_both (eqb y.start x.start) _ _ (Rising low)
    (λ e. (h, subst (λ n. Rising (n + 1) ys) (eqb-true _ _ e) up.1))
    (λ e. cond_both (ltb x.start y.start) _ _ (Rising low)
    (λ l. let q : x.start + 1 ≤ y.start = omega (arith, ltb-true x.start y.start l) in (h, (q, up.1)))
    (λ l. let q : y.start + 1 ≤ x.start = grind (arith, nat_tests) in (up.0, rising_put (y.start + 1) x ys up.1 q)))

all_put : (P : Section → Type 0) (x : Section) (xs : List Section) → AllByRecursion P xs → P x → AllByRecursion P (put_in x xs)
all_put P x [] h p = (p, tt)
all_put P x (y ∷ ys) h p =
    cond_both (eqb y.start x.start) _ _ (AllByRecursion P) (λ e. (p, h.1))
    (λ e. cond_both (ltb x.start y.start) _ _ (AllByRecursion P) (λ l. (p, h)) (λ l. (h.0, all_put P x ys h.1 p)))

-- An append, by a section put where it belongs.
put_extended : (low : ℕ) (xs : List Section) (s : ℕ) (r : Row) (old : List Row) → Rising low xs → is_kept xs s ≡ true → rows_of xs s ≡ old → put_in (record { start = s; rows = old ++ r ∷ [] }) xs ≡ extended xs s r
put_extended low [] s r old up k q = absurd (both_ways false refl k)
put_extended low (x ∷ xs) s r old up k q =
    ⊎_elim
    (λ (e : eqb x.start s ≡ true). let o : x.rows ≡ old = sym (cond-true _ _ _ e) ∙ q in simp e (ap (λ (o : List Row). record { start = s; rows = o ++ r ∷ [] } ∷ xs) (sym o)))
    (λ (e : eqb x.start s ≡ false).
    let o : rows_of xs s ≡ old = sym (cond-false _ _ _ e) ∙ q in
    let k' : is_kept xs s ≡ true = sym (cond-false _ _ _ e) ∙ k in
    let t : ltb s x.start ≡ false = ⊎_elim (λ l. absurd (both_ways _ (kept_below (x.start + 1) xs s up.1 (omega arith)) k')) (λ l. le-ltb _ _ l) (cases_lt s x.start) in
    let i = put_extended (x.start + 1) xs s r old up.1 k' o in simp (e, t) (ap (λ ys. x ∷ ys) i))
    (cases_Bool (eqb x.start s))

put_opened : (xs : List Section) (s : ℕ) (r : Row) → is_kept xs s ≡ false → put_in (record { start = s; rows = r ∷ [] }) xs ≡ opened xs s r
put_opened [] s r k = refl
put_opened (x ∷ xs) s r k = let i = put_opened xs s r in grind (arith, nat_tests)

pub put_placed : (low : ℕ) (xs : List Section) (s : ℕ) (r : Row) (old : List Row) → Rising low xs → rows_of xs s ≡ old → put_in (record { start = s; rows = old ++ r ∷ [] }) xs ≡ placed xs s r
put_placed low xs s r old up q =
    cond_both (is_kept xs s) (extended xs s r) (opened xs s r) (λ ys. put_in (record { start = s; rows = old ++ r ∷ [] }) xs ≡ ys)
    (λ k. put_extended low xs s r old up k q)
    (λ k. ap (λ (o : List Row). put_in (record { start = s; rows = o ++ r ∷ [] }) xs) (sym q ∙ rows_not_kept xs s k) ∙ put_opened xs s r k)

-- Over all the slots. At: each full slot has it.
pub rising_sorted : (low : ℕ) (secs : List Section) (d : Section) → ((i : ℕ) → i < length secs → full (get_or secs i d) ≡ true → low ≤ (get_or secs i d).start) → Rising low (sorted secs)
rising_sorted low [] d h = tt
rising_sorted low (x ∷ xs) d h =
    let i = rising_sorted low xs d (λ j l. h (suc j) (omega arith)) in
    cond_both (full x) _ _ (Rising low) (λ e. rising_put low x (sorted xs) i (h 0 (omega arith) e)) (λ e. i)

pub all_sorted : (P : Section → Type 0) (secs : List Section) (d : Section) → ((i : ℕ) → i < length secs → full (get_or secs i d) ≡ true → P (get_or secs i d)) → AllByRecursion P (sorted secs)
all_sorted P [] d h = tt
all_sorted P (x ∷ xs) d h =
    let i = all_sorted P xs d (λ j l. h (suc j) (omega arith)) in
    cond_both (full x) _ _ (AllByRecursion P) (λ e. all_put P x (sorted xs) i (h 0 (omega arith) e)) (λ e. i)

pub length_sorted : (secs : List Section) → length (sorted secs) ≤ length secs
length_sorted [] = omega arith
length_sorted (x ∷ xs) = let i = length_sorted xs in let k = length_put x (sorted xs) in cond_both (full x) _ _ (λ ys. length ys ≤ length (x ∷ xs)) (λ e. omega arith) (λ e. omega arith)

-- With a free slot there is room for one more.
pub length_sorted_free : (secs : List Section) (t : ℕ) (d : Section) → t < length secs → full (get_or secs t d) ≡ false → length (sorted secs) < length secs
length_sorted_free [] t d h f = absurd (omega arith)
length_sorted_free (x ∷ xs) zero d h f = let i = length_sorted xs in simp f (omega arith)
length_sorted_free (x ∷ xs) (suc t) d h f =
    let i = length_sorted_free xs t d (omega arith) f in let k = length_put x (sorted xs) in
    cond_both (full x) _ _ (λ ys. length ys < length (x ∷ xs)) (λ e. omega arith) (λ e. omega arith)

-- A start that no full slot has, and one that a slot has.
pub not_kept : (secs : List Section) (s : ℕ) (d : Section) → ((i : ℕ) → i < length secs → full (get_or secs i d) ≡ true → (get_or secs i d).start ≡ s → ⊥) → (is_kept (sorted secs) s ≡ false) × (rows_of (sorted secs) s ≡ [])
not_kept [] s d h = (refl, refl)
not_kept (x ∷ xs) s d h =
    let i = not_kept xs s d (λ j l. h (suc j) (omega arith)) in
    cond_both (full x) _ _ (λ ys. (is_kept ys s ≡ false) × (rows_of ys s ≡ []))
    (λ e. let n : eqb x.start s ≡ false = ne_eqb _ _ (h 0 (omega arith) e) in
    (is_kept_put x (sorted xs) s ∙ cond-false _ _ _ n ∙ i.0, rows_of_put x (sorted xs) s ∙ cond-false _ _ _ n ∙ i.1))
    (λ e. i)

pub kept_at : (secs : List Section) (t : ℕ) (s : ℕ) (d : Section) → t < length secs → full (get_or secs t d) ≡ true → (get_or secs t d).start ≡ s
    → ((i : ℕ) → i < length secs → full (get_or secs i d) ≡ true → (get_or secs i d).start ≡ s → i ≡ t)
    → (is_kept (sorted secs) s ≡ true) × (rows_of (sorted secs) s ≡ (get_or secs t d).rows)
kept_at [] t s d h f e u = absurd (omega arith)
kept_at (x ∷ xs) zero s d h f e u =
    let n : eqb x.start s ≡ true = eq-eqb _ _ e in
    simp f (is_kept_put x (sorted xs) s ∙ cond-true _ _ _ n, rows_of_put x (sorted xs) s ∙ cond-true _ _ _ n)
kept_at (x ∷ xs) (suc t) s d h f e u =
    let i = kept_at xs t s d (omega arith) f e (λ j l k q. let z = u (suc j) (omega arith) k q in omega arith) in
    cond_both (full x) _ _ (λ ys. (is_kept ys s ≡ true) × (rows_of ys s ≡ (get_or xs t d).rows))
    (λ b. let n : eqb x.start s ≡ false = ne_eqb _ _ (λ q. let z = u 0 (omega arith) b q in omega arith) in
    (is_kept_put x (sorted xs) s ∙ cond-false _ _ _ n ∙ i.0, rows_of_put x (sorted xs) s ∙ cond-false _ _ _ n ∙ i.1))
    (λ b. i)

-- With no free slot and no start twice, every slot is a section.
pub length_sorted_full : (secs : List Section) (d : Section) → ((i : ℕ) → i < length secs → full (get_or secs i d) ≡ true)
    → ((i j : ℕ) → i < length secs → j < length secs → (get_or secs i d).start ≡ (get_or secs j d).start → i ≡ j) → length (sorted secs) ≡ length secs
length_sorted_full [] d f u = refl
length_sorted_full (x ∷ xs) d f u =
    let i = length_sorted_full xs d (λ j l. f (suc j) (omega arith)) (λ j k l m e. let z = u (suc j) (suc k) (omega arith) (omega arith) e in omega arith) in
    let n = not_kept xs x.start d (λ j l b e. let z = u (suc j) 0 (omega arith) (omega arith) e in omega arith) in
    let b = f 0 (omega arith) in
    let k = length_put_new x (sorted xs) n.0 in
    ap length (cond-true (full x) (put_in x (sorted xs)) (sorted xs) b) ∙ (omega arith)

-- A section below m went, or none did.
pub none_below : (secs : List Section) (m : ℕ) (d : Section) → ((i : ℕ) → i < length secs → full (get_or secs i d) ≡ true → m ≤ (get_or secs i d).start) → any_below (sorted secs) m ≡ false
none_below [] m d h = refl
none_below (x ∷ xs) m d h =
    let i = none_below xs m d (λ j l. h (suc j) (omega arith)) in
    cond_both (full x) _ _ (λ ys. any_below ys m ≡ false)
    (λ e. let n : ltb x.start m ≡ false = le-ltb _ _ (h 0 (omega arith) e) in any_below_put x (sorted xs) m ∙ cond-false _ _ _ n ∙ i)
    (λ e. i)

pub some_below : (secs : List Section) (m t : ℕ) (d : Section) → t < length secs → full (get_or secs t d) ≡ true → (get_or secs t d).start < m → any_below (sorted secs) m ≡ true
some_below [] m t d h f l = absurd (omega arith)
some_below (x ∷ xs) m zero d h f l = simp f (any_below_put x (sorted xs) m ∙ cond-true _ _ _ (lt-ltb _ _ l))
some_below (x ∷ xs) m (suc t) d h f l =
    let i = some_below xs m t d (omega arith) f l in
    cond_both (full x) _ _ (λ ys. any_below ys m ≡ true)
    (λ e. any_below_put x (sorted xs) m ∙ cond_both (ltb x.start m) true (any_below (sorted xs) m) (λ b. b ≡ true) (λ q. refl) (λ q. i))
    (λ e. i)

-- The first start at or above n.
pub no_first : (secs : List Section) (n : ℕ) (d : Section) → ((i : ℕ) → i < length secs → full (get_or secs i d) ≡ true → (get_or secs i d).start < n) → first_from (sorted secs) n ≡ None
no_first secs n d h = all_less (sorted secs) (all_sorted (λ x. x.start < n) secs d h)
  where
    all_less : (xs : List Section) → AllByRecursion (λ x. x.start < n) xs → first_from xs n ≡ None
    all_less [] a = refl
    all_less (x ∷ xs) a = cond-true _ _ _ (lt-ltb _ _ a.0) ∙ all_less xs a.1

first_least : (low : ℕ) (xs : List Section) (n k : ℕ) → Rising low xs → is_kept xs k ≡ true → n ≤ k → AllByRecursion (λ x. n ≤ x.start → k ≤ x.start) xs → first_from xs n ≡ Some k
first_least low [] n k up h le a = let z : ◌≡◌ {A = ℕ} 0 1 = absurd (both_ways false refl h) in absurd (omega arith)
first_least low (x ∷ xs) n k up h le a = by (λ k'. first_least (x.start + 1) xs n k up.1 k' le a.1) (cases_lt x.start n)
  where
    by : (is_kept xs k ≡ true → first_from xs n ≡ Some k) → (x.start < n) ⊎ (n ≤ x.start) → first_from (x ∷ xs) n ≡ Some k
    by again (inl l) =
        let e : eqb x.start k ≡ false = grind (arith, nat_tests) in
        cond-true _ _ _ (lt-ltb _ _ l) ∙ again (sym (cond-false _ _ _ e) ∙ h)
    by again (inr l) =
        cond-false _ _ _ (le-ltb _ _ l)
        ∙ ap (λ i. Some i) (⊎_elim (λ q. absurd (both_ways _ (kept_below x.start (x ∷ xs) k (omega arith, up.1) q) h)) (λ q. let z = a.0 l in omega arith) (cases_lt k x.start))

pub first_at : (secs : List Section) (n t k : ℕ) (d : Section) → t < length secs → full (get_or secs t d) ≡ true → (get_or secs t d).start ≡ k → n ≤ k
    → ((i : ℕ) → i < length secs → full (get_or secs i d) ≡ true → (get_or secs i d).start ≡ k → i ≡ t)
    → ((i : ℕ) → i < length secs → full (get_or secs i d) ≡ true → n ≤ (get_or secs i d).start → k ≤ (get_or secs i d).start)
    → first_from (sorted secs) n ≡ Some k
first_at secs n t k d h f e le u a =
    first_least 0 (sorted secs) n k (rising_sorted 0 secs d (λ i l q. omega arith)) (kept_at secs t k d h f e u).0 le (all_sorted (λ x. n ≤ x.start → k ≤ x.start) secs d a)
