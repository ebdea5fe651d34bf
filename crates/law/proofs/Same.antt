-- Two lists of records that are the same section by section: who is among them, how many pass a test, the bearers of a number.
-- Assumes nothing.
use Rattle.std.proofs.Common.{◌≡◌, ℕ, zero, suc, ◌+◌, ◌≤◌, Bool, true, false, not, ◌⊎◌, List, [], ◌∷◌, ◌++◌, length, sym, refl, ap, ◌∙◌, subst, inl, inr, arith}
use Rattle.std.proofs.lemmas.Bool.{cases_Bool, both_ways, eq-eqb}
use Rattle.journal.specs.Meaning.{Section, Row}
use Rattle.rules.specs.State.{Record, section_of, number_of, filed, records_of, those}
use Rattle.rules.specs.Calls.{Among}
use Rattle.rules.specs.History.{arrived}
use Rattle.rules.specs.Told.{Earliest, Borne}
use Rattle.law.proofs.Lists.{Decided, those_yes, those_no, those_under, among_those, those_among, length_those, split_count, those_swap}
use Rattle.law.proofs.Arrivals.{starts, Held, starts_records, starts_arrived}

abbrev pub Same : List Record → List Record → Type 0
Same xs ys = (s : ℕ) → those (starts s) xs ≡ those (starts s) ys

pub same_held : (l : ℕ) (rs : List Row) (xs : List Section) → Held l rs xs → Same (arrived l [] rs) (records_of xs)
same_held l rs xs h s = starts_arrived l s [] rs ∙ ap (filed s 0) (h.rows s) ∙ sym (starts_records s 0 xs h.up)

pub turned : (xs ys : List Record) → Same xs ys → Same ys xs
turned xs ys w s = sym (w s)

pub across : (xs ys : List Record) → Same xs ys → (r : Record) → Among r xs → Among r ys
across xs ys w r a = (those_among (starts r.start) r ys (subst (Among r) (w r.start) (among_those (starts r.start) r xs a (eq-eqb r.start r.start refl)))).0

-- How many pass a test.
none_left : (t : Record → Bool) (ys : List Record) → Same [] ys → length (those t ys) ≡ 0
none_left t [] w = refl
none_left t (y ∷ ys) w = absurd (across (y ∷ ys) [] (turned [] (y ∷ ys) w) y (inl refl))

module _ (t : Record → Bool) where
  counted : (n : ℕ) (xs ys : List Record) → length xs ≤ n → Same xs ys → length (those t xs) ≡ length (those t ys)
  counted n [] ys h w = sym (none_left t ys w)
  counted zero (x ∷ xs) ys h w = let z : ⊥ = omega arith in absurd z
  counted (suc n) (x ∷ xs) ys h w =
      let q : Record → Bool = starts x.start in
      let o : Record → Bool = λ r. not (starts x.start r) in
      let e = those_no o x xs (ap not (eq-eqb x.start x.start refl)) in
      let k = length_those o xs in
      let a : length (those o (x ∷ xs)) ≤ n = omega (arith, ap length e, k, h) in
      let i = counted n (those o (x ∷ xs)) (those o ys) a (λ s. those_swap (starts s) o (x ∷ xs) ∙ ap (those o) (w s) ∙ sym (those_swap (starts s) o ys)) in
      split_count t q (x ∷ xs) ∙ ap (λ zs. length (those t zs) + length (those t (those o (x ∷ xs)))) (w x.start)
      ∙ ap (λ c. length (those t (those q ys)) + c) i ∙ sym (split_count t q ys)

  pub count_same : (xs ys : List Record) → Same xs ys → length (those t xs) ≡ length (those t ys)
  count_same xs ys w = counted (length xs) xs ys (omega arith) w

-- Every record's section is that of its number.
abbrev pub Homed : ℕ → List Record → Type 0
Homed l xs = (r : Record) → Among r xs → r.start ≡ section_of l (number_of r)

pub homed_arrived : (l : ℕ) (before rs : List Row) → Homed l (arrived l before rs)
homed_arrived l before [] r a = absurd a
homed_arrived l before (x ∷ rs) r (inl e) = ap (λ y. y.start) e ∙ ap (λ (y : Record). section_of l (number_of y)) (sym e)
homed_arrived l before (x ∷ rs) r (inr a) = homed_arrived l (before ++ x ∷ []) rs r a

pub homed_same : (l : ℕ) (xs ys : List Record) → Same xs ys → Homed l xs → Homed l ys
homed_same l xs ys w h r a = h r (across ys xs (turned xs ys w) r a)

-- The ones that pass a test which one number alone passes all lie in one section.
pub own : (l n : ℕ) (t : Record → Bool) (xs : List Record) → Homed l xs → ((r : Record) → t r ≡ true → number_of r ≡ n)
    → those t (those (starts (section_of l n)) xs) ≡ those t xs
own l n t xs h k = those_under t (starts (section_of l n)) xs (λ r a e. eq-eqb r.start (section_of l n) (h r a ∙ ap (section_of l) (k r e)))

pub own_same : (l n : ℕ) (t : Record → Bool) (xs ys : List Record) → Same xs ys → Homed l xs → ((r : Record) → t r ≡ true → number_of r ≡ n)
    → those t xs ≡ those t ys
own_same l n t xs ys w h k = sym (own l n t xs h k) ∙ ap (those t) (w (section_of l n)) ∙ own l n t ys (homed_same l xs ys w h) k

-- The first that passes.
module _ (t : Record → Bool) (P : Record → Type 0) (d : Decided t P) (r : Record) (rest : List Record) where
  pub earliest : (xs : List Record) → those t xs ≡ r ∷ rest → Earliest P xs r
  earliest [] e = let z : ◌≡◌ {A = ℕ} 0 1 = cc in let w : ⊥ = omega arith in absurd w
  earliest (x ∷ xs) e = by (cases_Bool (t x)) (λ k. earliest xs k)
    where
      later : t x ≡ false → (before : List Record) → (Borne P before → ⊥) → (s : Record) → Among s (x ∷ before) → P s → ⊥
      later f before never s (inl q) k = both_ways (t x) f (ap t (sym q) ∙ (d s).1 k)
      later f before never s (inr a) k = never (s, a, k)

      by : (t x ≡ true) ⊎ (t x ≡ false) → (those t xs ≡ r ∷ rest → Earliest P xs r) → Earliest P (x ∷ xs) r
      by (inl k) i =
          let q : x ∷ those t xs ≡ r ∷ rest = sym (those_yes t x xs k) ∙ e in
          let f : x ≡ r = cc in
          record { before = []; after = xs; here = ap (λ y. y ∷ xs) f; bears = (d r).0 (ap t (sym f) ∙ k); none_before = λ b. b.1 }
      by (inr k) i =
          let p = i (sym (those_no t x xs k) ∙ e) in
          record {
            before = x ∷ p.before;
            after = p.after;
            here = ap (λ ys. x ∷ ys) p.here;
            bears = p.bears;
            none_before = λ b. later k p.before p.none_before b.0 b.1 b.2;
          }
