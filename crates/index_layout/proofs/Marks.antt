-- What marks tell, and how they stay right. Assumes nothing.
--   mark_below        each translated key has one of the marks
--   offers_marked     a slot with a candidate is marked
--   mark_inside       the first of some marked slots is a slot
--   mark_left         a slot taken out of some marked ones: what is left, and that it is less
--   marked_free, marked_opened, marked_anew   slots that are free, one that is taken, its marks taken away
--   marked_more, marked_added, marked_kept    a mark more, a record more, a strike
use Rattle.std.proofs.Common.{◌≡◌, ℕ, zero, suc, ◌*◌, ◌%◌, ◌^◌, ◌<◌, ◌≤◌, Bool, true, false, cond, ◌&&◌, eqb, ◌⊎◌, List, [], ◌∷◌, map, length, get_or, set, is_some, sym, refl, ap, ◌∙◌, subst, inl, inr, arith, get_or-set_other, get_or-set_same}
use Rattle.std.specs.Int.{bit_at, bit_not, trailing_zeros, w16}
use Rattle.std.specs.Int.RustNames.{bit_or}
use Rattle.std.proofs.lemmas.Bool.{cond-true, cond-false, cases_Bool, cases_eq, cases_lt, and_parts, both_ways, eqb-true}
use Rattle.std.proofs.lemmas.List.{get_or-map, get_or_append_left, get_or_push, length_push}
use Rattle.std.proofs.lemmas.Nat.{and_le_l}
use Rattle.std.proofs.lemmas.Nat.Bits.{bit_at-lt, bit_at_set_same, bit_at_clear_same, bit_at_clear_other, bit_at_or, bit_at-trailing_zeros}
use Rattle.index_layout.specs.Links.{linked, matching}
use Rattle.index_layout.specs.Views.{View, free_view, open_view, grown, goes, kept_view, view_at, slot_count}
use Rattle.index_layout.specs.Candidates.{Offers}
use Rattle.index_layout.specs.Marks.{mark_count, mark_of, marks_at, marked, unmarked, Marked}

pub mark_below : (c : ℕ) → mark_of c < mark_count
mark_below c = omega arith

-- A record that is found has the translated key.
matching_code : (xs ys : List ℕ) (v w n : ℕ) → is_some (linked (matching xs ys v w n)) ≡ true → (p : ℕ) × (p < n) × (get_or ys p 0 ≡ w)
matching_code xs ys v w zero h = absurd (both_ways false refl h)
matching_code xs ys v w (suc n) h = by (cases_Bool (eqb (get_or xs n 0) v && eqb (get_or ys n 0) w)) (matching_code xs ys v w n)
  where
    by : ((eqb (get_or xs n 0) v && eqb (get_or ys n 0) w) ≡ true) ⊎ ((eqb (get_or xs n 0) v && eqb (get_or ys n 0) w) ≡ false)
        → (is_some (linked (matching xs ys v w n)) ≡ true → (p : ℕ) × (p < n) × (get_or ys p 0 ≡ w)) → (p : ℕ) × (p < suc n) × (get_or ys p 0 ≡ w)
    by (inl t) again = (n, omega arith, eqb-true _ _ (and_parts (eqb (get_or xs n 0) v) (eqb (get_or ys n 0) w) t).1)
    by (inr f) again = let q = again (ap (λ m. is_some (linked m)) (sym (cond-false _ (suc n) (matching xs ys v w n) f)) ∙ h) in (q.0, omega (arith, q.1), q.2)

pub offers_marked : (ms : List ℕ) (vs : List View) → Marked ms vs → (c b n i s : ℕ) → Offers vs c b n i s → bit_at (marks_at ms c) i ≡ 1
offers_marked ms vs all c b n i s o =
    let v = view_at vs i in
    let q = matching_code v.buckets v.codes b c (length v.codes) o.candidate in
    subst (λ x. bit_at (marks_at ms x) i ≡ 1) q.2 (all i q.0 o.slot q.1)

-- The first of some marked slots is taken out.
pub record Left (m i m' : ℕ) : Type 0 where
  pub inside : i < slot_count
  pub less : m' < m
  pub others : (j : ℕ) → j < slot_count → (j ≡ i → ⊥) → bit_at m' j ≡ 0 → bit_at m j ≡ 0

pub mark_inside : (m : ℕ) → (m ≡ 0 → ⊥) → m < 2 ^ 16 → trailing_zeros w16 m < slot_count
mark_inside m some small = (bit_at-trailing_zeros w16 m (omega (arith, some)) small).0

pub mark_left : (m i m' : ℕ) → (m ≡ 0 → ⊥) → m < 2 ^ 16 → i ≡ trailing_zeros w16 m → m' ≡ unmarked i m → Left m i m'
mark_left m i m' some small ei em =
    let z = bit_at-trailing_zeros w16 m (omega (arith, some)) small in
    let l : i < 16 = omega (arith, ei, z.0) in
    let a : bit_at m i ≡ 1 = ap (bit_at m) ei ∙ z.1 in
    let b : bit_at m' i ≡ 0 = ap (λ x. bit_at x i) em ∙ bit_at_clear_same w16 m i l in
    let c : m' ≤ m = omega (arith, em, and_le_l m (bit_not w16 (1 * 2 ^ i % 2 ^ 16))) in
    record {
      inside = l;
      less = by (cases_lt m' m) a b c;
      others = λ j lj ne zero. sym (ap (λ x. bit_at x j) em ∙ bit_at_clear_other w16 m i l j lj ne) ∙ zero;
    }
  where
    by : (m' < m) ⊎ (m ≤ m') → bit_at m i ≡ 1 → bit_at m' i ≡ 0 → m' ≤ m → m' < m
    by (inl lt) a b c = lt
    by (inr le) a b c = let e : m ≡ m' = omega arith in absurd (omega (arith, sym a ∙ ap (λ x. bit_at x i) e ∙ b))

-- How the marks stay right.
pub marked_free : (ms : List ℕ) (vs : List View) → ((i : ℕ) → i < slot_count → view_at vs i ≡ free_view) → Marked ms vs
marked_free ms vs free = λ i p l lp. let e = ap (λ v. length v.codes) (free i l) in absurd (omega (arith, e, lp))

-- First the slot is taken, and then what it had before is unmarked.
pub marked_opened : (ms : List ℕ) (vs vs' : List View) (i s : ℕ) → i < slot_count → length vs ≡ slot_count → vs' ≡ set vs i (open_view s) → Marked ms vs → Marked ms vs'
marked_opened ms vs vs' i s inside sized ev all = subst (Marked ms) (sym ev) (λ j p lj lp. by j p lj lp (cases_eq j i))
  where
    by : (j p : ℕ) → j < slot_count → p < length (view_at (set vs i (open_view s)) j).codes → (j ≡ i) ⊎ (j ≡ i → ⊥) → bit_at (marks_at ms (get_or (view_at (set vs i (open_view s)) j).codes p 0)) j ≡ 1
    by j p lj lp (inl e) =
        let w = ap (λ k. length (view_at (set vs i (open_view s)) k).codes) e ∙ ap (λ v. length v.codes) (get_or-set_same vs i (open_view s) free_view (omega (arith, sized))) in
        absurd (omega (arith, w, lp))
    by j p lj lp (inr ne) =
        let w = get_or-set_other vs i j (open_view s) free_view ne in
        ap (λ v. bit_at (marks_at ms (get_or v.codes p 0)) j) w ∙ all j p lj (omega (arith, lp, ap (λ v. length v.codes) w))

pub marked_anew : (ms ms' : List ℕ) (vs vs' : List View) (i s : ℕ) → i < slot_count → length vs ≡ slot_count → length ms ≡ mark_count → ms' ≡ map (unmarked i) ms → vs' ≡ set vs i (open_view s) → Marked ms vs'
    → Marked ms' vs'
marked_anew ms ms' vs vs' i s inside sized long em ev all = subst (λ xs. Marked xs vs') (sym em) (λ j p lj lp. by j p lj lp (cases_eq j i))
  where
    by : (j p : ℕ) → j < slot_count → p < length (view_at vs' j).codes → (j ≡ i) ⊎ (j ≡ i → ⊥) → bit_at (marks_at (map (unmarked i) ms) (get_or (view_at vs' j).codes p 0)) j ≡ 1
    by j p lj lp (inl e) =
        let w = ap (λ k. length (view_at vs' k).codes) e ∙ ap (λ us. length (view_at us i).codes) ev ∙ ap (λ v. length v.codes) (get_or-set_same vs i (open_view s) free_view (omega (arith, sized))) in
        absurd (omega (arith, w, lp))
    by j p lj lp (inr ne) =
        let c = get_or (view_at vs' j).codes p 0 in
        ap (λ x. bit_at x j) (get_or-map (unmarked i) ms (mark_of c) 0 0 (omega (arith, long, mark_below c)))
        ∙ bit_at_clear_other w16 (marks_at ms c) i inside j lj ne ∙ all j p lj lp

module _ (ms : List ℕ) (c i : ℕ) (inside : i < slot_count) (long : length ms ≡ mark_count) where
  own_mark : bit_at (marks_at (marked ms c i) c) i ≡ 1
  own_mark =
      ap (λ x. bit_at x i) (get_or-set_same ms (mark_of c) (bit_or (marks_at ms c) (1 * 2 ^ i % 2 ^ 16)) 0 (omega (arith, long, mark_below c)))
      ∙ bit_at_set_same w16 (marks_at ms c) i inside

  more_marks : (d j : ℕ) → bit_at (marks_at ms d) j ≡ 1 → bit_at (marks_at (marked ms c i) d) j ≡ 1
  more_marks d j h = by (cases_eq (mark_of d) (mark_of c))
    where
      by : (mark_of d ≡ mark_of c) ⊎ (mark_of d ≡ mark_of c → ⊥) → bit_at (marks_at (marked ms c i) d) j ≡ 1
      by (inl e) =
          let a : bit_at (marks_at ms c) j ≡ 1 = ap (λ k. bit_at (get_or ms k 0) j) (sym e) ∙ h in
          let z = bit_at-lt (1 * 2 ^ i % 2 ^ 16) j in
          ap (λ k. bit_at (get_or (marked ms c i) k 0) j) e
          ∙ ap (λ x. bit_at x j) (get_or-set_same ms (mark_of c) (bit_or (marks_at ms c) (1 * 2 ^ i % 2 ^ 16)) 0 (omega (arith, long, mark_below c)))
          ∙ bit_at_or (marks_at ms c) (1 * 2 ^ i % 2 ^ 16) j ∙ (omega (arith, a, z))
      by (inr ne) = ap (λ x. bit_at x j) (get_or-set_other ms (mark_of c) (mark_of d) (bit_or (marks_at ms c) (1 * 2 ^ i % 2 ^ 16)) 0 ne) ∙ h

  still_marked : (vs : List View) → Marked ms vs → Marked (marked ms c i) vs
  still_marked vs all = λ j p lj lp. more_marks (get_or (view_at vs j).codes p 0) j (all j p lj lp)

  marked_grown : (vs : List View) (o b : ℕ) (r : Bool) → length vs ≡ slot_count → Marked ms vs → Marked (marked ms c i) (cond r (set vs i (grown (view_at vs i) o c b)) vs)
  marked_grown vs o b false sized all = still_marked vs all
  marked_grown vs o b true sized all = λ j p lj lp. by j p lj lp (cases_eq j i)
    where
      v : View
      v = view_at vs i

      w : View
      w = grown v o c b

      at : view_at (set vs i w) i ≡ w
      at = get_or-set_same vs i w free_view (omega (arith, sized))

      here : (p : ℕ) → p < length w.codes → (p < length v.codes) ⊎ (length v.codes ≤ p) → bit_at (marks_at (marked ms c i) (get_or w.codes p 0)) i ≡ 1
      here p lp (inl lt) =
          ap (λ d. bit_at (marks_at (marked ms c i) d) i) (get_or_append_left v.codes (c ∷ []) 0 p lt) ∙ more_marks (get_or v.codes p 0) i (all i p inside lt)
      here p lp (inr le) =
          let e : p ≡ length v.codes = omega (arith, lp, le, length_push v.codes c) in
          ap (λ d. bit_at (marks_at (marked ms c i) d) i) (get_or_push v.codes c 0 p (sym e)) ∙ own_mark

      by : (j p : ℕ) → j < slot_count → p < length (view_at (set vs i w) j).codes → (j ≡ i) ⊎ (j ≡ i → ⊥)
          → bit_at (marks_at (marked ms c i) (get_or (view_at (set vs i w) j).codes p 0)) j ≡ 1
      by j p lj lp (inl e) =
          let q = ap (view_at (set vs i w)) e ∙ at in
          ap (λ u. bit_at (marks_at (marked ms c i) (get_or u.codes p 0)) j) q ∙ ap (bit_at (marks_at (marked ms c i) (get_or w.codes p 0))) e
          ∙ here p (omega (arith, lp, ap (λ u. length u.codes) q)) (cases_lt p (length v.codes))
      by j p lj lp (inr ne) =
          let q = get_or-set_other vs i j w free_view ne in
          ap (λ u. bit_at (marks_at (marked ms c i) (get_or u.codes p 0)) j) q
          ∙ more_marks (get_or (view_at vs j).codes p 0) j (all j p lj (omega (arith, lp, ap (λ u. length u.codes) q)))

-- As the code tells it: the table afterwards, by what a function of its own promises.
pub marked_added : (ms ms' : List ℕ) (c i : ℕ) → i < slot_count → length ms ≡ mark_count → ms' ≡ marked ms c i → (vs : List View) (o b : ℕ) (r : Bool) → length vs ≡ slot_count → Marked ms vs
    → Marked ms' (cond r (set vs i (grown (view_at vs i) o c b)) vs)
marked_added ms ms' c i inside long is vs o b r sized all =
    subst (λ xs. Marked xs (cond r (set vs i (grown (view_at vs i) o c b)) vs)) (sym is) (marked_grown ms c i inside long vs o b r sized all)

pub marked_more : (ms ms' : List ℕ) (c i : ℕ) → i < slot_count → length ms ≡ mark_count → ms' ≡ marked ms c i → (vs : List View) → Marked ms vs → Marked ms' vs
marked_more ms ms' c i inside long is vs all = subst (λ xs. Marked xs vs) (sym is) (still_marked ms c i inside long vs all)

pub marked_kept : (ms : List ℕ) (vs : List View) (m : ℕ) → length vs ≡ slot_count → Marked ms vs → Marked ms (map (kept_view m) vs)
marked_kept ms vs m sized all = λ j p lj lp. by j p lj lp (goes m (view_at vs j)) refl
  where
    at : (j : ℕ) → j < slot_count → view_at (map (kept_view m) vs) j ≡ kept_view m (view_at vs j)
    at j lj = get_or-map (kept_view m) vs j free_view free_view (omega (arith, sized))

    by : (j p : ℕ) → j < slot_count → p < length (view_at (map (kept_view m) vs) j).codes → (b : Bool) → goes m (view_at vs j) ≡ b
        → bit_at (marks_at ms (get_or (view_at (map (kept_view m) vs) j).codes p 0)) j ≡ 1
    by j p lj lp true e =
        let q = at j lj ∙ cond-true _ free_view (view_at vs j) e in absurd (omega (arith, lp, ap (λ u. length u.codes) q))
    by j p lj lp false e =
        let q = at j lj ∙ cond-false _ free_view (view_at vs j) e in
        ap (λ u. bit_at (marks_at ms (get_or u.codes p 0)) j) q ∙ all j p lj (omega (arith, lp, ap (λ u. length u.codes) q))
