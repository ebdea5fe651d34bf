-- A listing rises strictly, and names the places of the records that it sorts. Assumes nothing.
use Rattle.std.proofs.Common.{◌≡◌, ℕ, suc, ◌+◌, ◌<◌, ◌≤◌, Bool, true, false, cond, leb, ◌⊎◌, List, [], ◌∷◌, ◌++◌, length, sym, refl, ap, ◌∙◌, subst, inl, inr, arith}
use Rattle.std.proofs.lemmas.Bool.{cases_Bool, cases_lt, leb-true, leb-false}
use Rattle.journal.specs.Meaning as journal
use Rattle.journal.specs.Meaning.{Section, Row}
use Rattle.rules.specs.declared.answer.Place.{Place}
use Rattle.rules.specs.State.{Record, section_of, number_of, place_of, filed, records_of, those, put_by_number, by_number, places_of}
use Rattle.rules.specs.Calls.{Among}
use Rattle.rules.specs.Told.{Before, RisingFrom, Rising, Counted, Lists}
use Rattle.law.proofs.Lists.{Decided, counted_those, among_those, those_among}
use Rattle.law.proofs.Same.{Same, across, turned, count_same, Homed}

-- Of records with one number the one ahead has the lower position.
abbrev pub Ahead : Record → List Record → Type 0
Ahead f [] = Unit {0}
Ahead f (g ∷ gs) = (number_of f ≡ number_of g → f.position < g.position) × Ahead f gs

abbrev pub Orderly : List Record → Type 0
Orderly [] = Unit {0}
Orderly (f ∷ fs) = Ahead f fs × Orderly fs

ahead_in : (f g : Record) (gs : List Record) → (number_of f ≡ number_of g → f.position < g.position) → Ahead f gs → Ahead f (put_by_number g gs)
ahead_in f g [] a h = (a, tt)
ahead_in f g (x ∷ gs) a h = by (leb (number_of g) (number_of x)) (ahead_in f g gs a h.1)
  where
    by : (b : Bool) → Ahead f (put_by_number g gs) → Ahead f (cond b (g ∷ (x ∷ gs)) (x ∷ put_by_number g gs))
    by true ih = (a, h)
    by false ih = (h.0, ih)

ahead_sorted : (f : Record) (gs : List Record) → Ahead f gs → Ahead f (by_number gs)
ahead_sorted f [] h = tt
ahead_sorted f (g ∷ gs) h = ahead_in f g (by_number gs) h.0 (ahead_sorted f gs h.1)

first_of : (m n p q : ℕ) → m ≤ n → (m ≡ n → p < q) → (m < n) ⊎ ((m ≡ n) × (p < q))
first_of m n p q h a = by (cases_lt m n)
  where
    by : (m < n) ⊎ (n ≤ m) → (m < n) ⊎ ((m ≡ n) × (p < q))
    by (inl k) = inl k
    by (inr k) = let e : m ≡ n = omega arith in inr (e, a e)

-- Into a rising list.
in_after : (f g : Record) (gs : List Record) → Before (place_of g) (place_of f) → Ahead f gs → RisingFrom (place_of g) (places_of gs) → RisingFrom (place_of g) (places_of (put_by_number f gs))
in_after f g [] b a r = (b, tt)
in_after f g (x ∷ gs) b a r = by (cases_Bool (leb (number_of f) (number_of x))) (λ c. in_after f x gs c a.1 r.1)
  where
    by : (leb (number_of f) (number_of x) ≡ true) ⊎ (leb (number_of f) (number_of x) ≡ false)
        → (Before (place_of x) (place_of f) → RisingFrom (place_of x) (places_of (put_by_number f gs)))
        → RisingFrom (place_of g) (places_of (put_by_number f (x ∷ gs)))
    by (inl e) ih = rw e (b, (first_of (number_of f) (number_of x) f.position x.position (leb-true (number_of f) (number_of x) e) a.0, r.1))
    by (inr e) ih = rw e (r.0, ih (inl (leb-false (number_of f) (number_of x) e)))

rising_in : (f : Record) (gs : List Record) → Ahead f gs → Rising (places_of gs) → Rising (places_of (put_by_number f gs))
rising_in f [] a r = tt
rising_in f (x ∷ gs) a r = by (cases_Bool (leb (number_of f) (number_of x)))
  where
    by : (leb (number_of f) (number_of x) ≡ true) ⊎ (leb (number_of f) (number_of x) ≡ false) → Rising (places_of (put_by_number f (x ∷ gs)))
    by (inl e) = rw e (first_of (number_of f) (number_of x) f.position x.position (leb-true (number_of f) (number_of x) e) a.0, r)
    by (inr e) = rw e (in_after f x gs (inl (leb-false (number_of f) (number_of x) e)) a.1 r)

rising_sorted : (fs : List Record) → Orderly fs → Rising (places_of (by_number fs))
rising_sorted [] h = tt
rising_sorted (f ∷ fs) h = rising_in f (by_number fs) (ahead_sorted f fs h.0) (rising_sorted fs h.1)

-- The records of a journal are orderly, where each lies in the section of its number.
module _ (l : ℕ) where
  ahead_section : (f : Record) (s p : ℕ) (rs : List Row) (more : List Record) → f.position < p → Ahead f more → Ahead f (filed s p rs ++ more)
  ahead_section f s p [] more k a = a
  ahead_section f s p (r ∷ rs) more k a = (λ _. k, ahead_section f s (p + 1) rs more (omega arith) a)

  ahead_other : (f : Record) (low : ℕ) (xs : List Section) → f.start ≡ section_of l (number_of f) → f.start < low → journal.Rising low xs → Homed l (records_of xs) → Ahead f (records_of xs)
  ahead_other f low [] e k up h = tt
  ahead_other f low (x ∷ xs) e k up h =
      each 0 x.rows (records_of xs) h (λ q. ahead_other f (x.start + 1) xs e (omega (arith, up.0)) up.1 q)
    where
      each : (p : ℕ) (rs : List Row) (more : List Record) → Homed l (filed x.start p rs ++ more) → (Homed l more → Ahead f more) → Ahead f (filed x.start p rs ++ more)
      each p [] more h i = i h
      each p (r ∷ rs) more h i = (
        λ n. let a = h (record { start = x.start; position = p; row = r }) (inl refl) in
            let z : f.start ≡ x.start = e ∙ ap (section_of l) n ∙ sym a in
            let w : ⊥ = omega (arith, z, k, up.0) in absurd w,
        each (p + 1) rs more (λ r a. h r (inr a)) i,
      )

  orderly_section : (s p : ℕ) (rs : List Row) (xs : List Section) → journal.Rising (s + 1) xs → Homed l (filed s p rs ++ records_of xs) → (Homed l (records_of xs) → Orderly (records_of xs)) → Orderly (filed s p rs ++ records_of xs)
  orderly_section s p [] xs up h o = o h
  orderly_section s p (r ∷ rs) xs up h o =
      let f : Record = record { start = s; position = p; row = r } in (
        ahead_section f s (p + 1) rs (records_of xs) (omega arith) (ahead_other f (s + 1) xs (h f (inl refl)) (omega arith) up (behind (p + 1) rs (λ g a. h g (inr a)))),
        orderly_section s (p + 1) rs xs up (λ g a. h g (inr a)) o,
      )
    where
      behind : (q : ℕ) (ys : List Row) → Homed l (filed s q ys ++ records_of xs) → Homed l (records_of xs)
      behind q [] k = k
      behind q (y ∷ ys) k = behind (q + 1) ys (λ g a. k g (inr a))

  orderly_records : (low : ℕ) (xs : List Section) → journal.Rising low xs → Homed l (records_of xs) → Orderly (records_of xs)
  orderly_records low [] up h = tt
  orderly_records low (x ∷ xs) up h = orderly_section x.start 0 x.rows xs up.1 h (λ k. orderly_records (x.start + 1) xs up.1 k)

module _ (t : Record → Bool) where
  ahead_those : (f : Record) (fs : List Record) → Ahead f fs → Ahead f (those t fs)
  ahead_those f [] a = tt
  ahead_those f (g ∷ fs) a = by (t g) (ahead_those f fs a.1)
    where
      by : (b : Bool) → Ahead f (those t fs) → Ahead f (cond b (g ∷ those t fs) (those t fs))
      by true k = (a.0, k)
      by false k = k

  orderly_those : (fs : List Record) → Orderly fs → Orderly (those t fs)
  orderly_those [] o = tt
  orderly_those (f ∷ fs) o = by (t f) (orderly_those fs o.1)
    where
      by : (b : Bool) → Orderly (those t fs) → Orderly (cond b (f ∷ those t fs) (those t fs))
      by true k = (ahead_those f fs o.0, k)
      by false k = k

-- What a listing names.
length_in : (f : Record) (gs : List Record) → length (places_of (put_by_number f gs)) ≡ suc (length (places_of gs))
length_in f [] = refl
length_in f (g ∷ gs) = by (leb (number_of f) (number_of g)) (length_in f gs)
  where
    by : (b : Bool) → length (places_of (put_by_number f gs)) ≡ suc (length (places_of gs)) → length (places_of (cond b (f ∷ (g ∷ gs)) (g ∷ put_by_number f gs))) ≡ suc (length (places_of (g ∷ gs)))
    by true ih = refl
    by false ih = ap (λ n. suc n) ih

pub length_sorted : (fs : List Record) → length (places_of (by_number fs)) ≡ length fs
length_sorted [] = refl
length_sorted (f ∷ fs) = length_in f (by_number fs) ∙ ap (λ n. suc n) (length_sorted fs)

named_in : (p : Place) (f : Record) (gs : List Record) → (p ≡ place_of f) ⊎ Among p (places_of gs) → Among p (places_of (put_by_number f gs))
named_in p f [] h = h
named_in p f (g ∷ gs) h = by (leb (number_of f) (number_of g)) h (named_in p f gs)
  where
    by : (b : Bool) → (p ≡ place_of f) ⊎ Among p (places_of (g ∷ gs)) → ((p ≡ place_of f) ⊎ Among p (places_of gs) → Among p (places_of (put_by_number f gs)))
        → Among p (places_of (cond b (f ∷ (g ∷ gs)) (g ∷ put_by_number f gs)))
    by true k ih = k
    by false (inl e) ih = inr (ih (inl e))
    by false (inr (inl e)) ih = inl e
    by false (inr (inr n)) ih = inr (ih (inr n))

named_sorted : (fs : List Record) (f : Record) → Among f fs → Among (place_of f) (places_of (by_number fs))
named_sorted [] f a = absurd a
named_sorted (g ∷ fs) f (inl e) = named_in (place_of f) g (by_number fs) (inl (ap place_of e))
named_sorted (g ∷ fs) f (inr a) = named_in (place_of f) g (by_number fs) (inr (named_sorted fs f a))

named_out : (p : Place) (f : Record) (gs : List Record) → Among p (places_of (put_by_number f gs)) → (p ≡ place_of f) ⊎ Among p (places_of gs)
named_out p f [] h = h
named_out p f (g ∷ gs) h = by (leb (number_of f) (number_of g)) h (named_out p f gs)
  where
    again : (p ≡ place_of f) ⊎ Among p (places_of gs) → (p ≡ place_of f) ⊎ Among p (places_of (g ∷ gs))
    again (inl e) = inl e
    again (inr m) = inr (inr m)

    by : (b : Bool) → Among p (places_of (cond b (f ∷ (g ∷ gs)) (g ∷ put_by_number f gs))) → (Among p (places_of (put_by_number f gs)) → (p ≡ place_of f) ⊎ Among p (places_of gs))
        → (p ≡ place_of f) ⊎ Among p (places_of (g ∷ gs))
    by true k ih = k
    by false (inl e) ih = inr (inl e)
    by false (inr n) ih = again (ih n)

sorted_named : (fs : List Record) (p : Place) → Among p (places_of (by_number fs)) → (f : Record) × Among f fs × (place_of f ≡ p)
sorted_named [] p n = absurd n
sorted_named (g ∷ fs) p n = by (named_out p g (by_number fs) n) (sorted_named fs p)
  where
    by : (p ≡ place_of g) ⊎ Among p (places_of (by_number fs)) → (Among p (places_of (by_number fs)) → (f : Record) × Among f fs × (place_of f ≡ p)) → (f : Record) × Among f (g ∷ fs) × (place_of f ≡ p)
    by (inl e) ih = (g, inl refl, sym e)
    by (inr m) ih = let r = ih m in (r.0, inr r.1, r.2)

-- The listing of a journal's records, told of records that are the same section by section.
pub listed : (l : ℕ) (t : Record → Bool) (P : Record → Type 0) (d : Decided t P) (rs : List Record) (xs : List Section) → journal.Rising 0 xs → Homed l (records_of xs) → Same rs (records_of xs)
    → Lists P rs (length (those t (records_of xs))) (places_of (by_number (those t (records_of xs))))
listed l t P d rs xs up h w = record {
  count = subst (Counted P rs) (count_same t rs (records_of xs) w) (counted_those t P d rs);
  long = length_sorted (those t (records_of xs));
  rising = rising_sorted (those t (records_of xs)) (orderly_those t (records_of xs) (orderly_records l 0 xs up h));
  every = λ r a e. named_sorted (those t (records_of xs)) r (among_those t r (records_of xs) (across rs (records_of xs) w r a) ((d r).1 e));
  only = λ p n. (let r = sorted_named (those t (records_of xs)) p n in
      let k = those_among t r.0 (records_of xs) r.1 in
      (r.0, across (records_of xs) rs (turned rs (records_of xs) w) r.0 k.0, (d r.0).0 k.1, r.2));
}
