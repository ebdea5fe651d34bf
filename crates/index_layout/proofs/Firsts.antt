-- The search for the first section with a candidate, marked slot after marked slot. Assumes nothing.
--   BestAt, BestBut     the best so far: of all slots but those that are still marked in m
--   best_begins, best_step, best_ends   how such a search begins, goes on and ends
use Rattle.std.proofs.Common.{◌≡◌, ℕ, ◌<◌, ◌≤◌, true, false, leb, ltb, ◌⊎◌, ◌&&◌, List, Some, None, Option, MatchOption, sym, ap, ◌∙◌, subst, inl, inr, arith}
use Rattle.std.specs.Int.{bit_at}
use Rattle.std.proofs.lemmas.Bool.{cond-true, cond-false, cases_Bool, cases_eq, and_parts, and_from, both_ways, leb-true, le-leb, ltb-true, lt-ltb, cases_lt}
use Rattle.std.proofs.lemmas.Nat.Bits.{bit_at-zero}
use Rattle.index_layout.specs.Views.{View, view_at, slot_count}
use Rattle.index_layout.specs.Candidates.{has_candidate, reaches, nearer, Offers, FirstWith}
use Rattle.index_layout.specs.Marks.{marks_at, Marked}
use Rattle.index_layout.proofs.Marks.{offers_marked}

pub record BestAt (vs : List View) (c b n m i s : ℕ) : Type 0 where
  pub here : Offers vs c b n i s
  pub first : (j t : ℕ) → Offers vs c b n j t → bit_at m j ≡ 0 → s ≤ t

abbrev pub BestBut : List View → ℕ → ℕ → ℕ → ℕ → Option (ℕ × ℕ) → Type 0
BestBut vs c b n m r = MatchOption r ((j t : ℕ) → Offers vs c b n j t → bit_at m j ≡ 0 → ⊥) (λ h. BestAt vs c b n m h.0 h.1)

pub best_begins : (vs : List View) (c b n : ℕ) (ms : List ℕ) → Marked ms vs → BestBut vs c b n (marks_at ms c) None
best_begins vs c b n ms all = λ j t o z. omega (arith, offers_marked ms vs all c b n j t o, z)

pub best_ends : (vs : List View) (c b n m : ℕ) (r : Option (ℕ × ℕ)) → m ≡ 0 → BestBut vs c b n m r → FirstWith vs c b n r
best_ends vs c b n m None e h = λ j t o. h j t o (ap (λ x. bit_at x j) e ∙ bit_at-zero j)
best_ends vs c b n m (Some x) e h = record { here = h.here; first = λ j t o. h.first j t o (ap (λ y. bit_at y j) e ∙ bit_at-zero j) }

module _ (vs : List View) (c b n i : ℕ) (v : View) (here : v ≡ view_at vs i) (inside : i < slot_count) where
  record Meets (t : ℕ) : Type 0 where
    reached : reaches n v ≡ true
    candidate : has_candidate v c b ≡ true
    start : v.start ≡ t

  meets : (t : ℕ) → Offers vs c b n i t → Meets t
  meets t o =
      let s : v.start ≡ t = ap (λ w. w.start) here ∙ o.holds.1 in
      record {
        reached = and_from v.used (leb n v.start) (ap (λ w. w.used) here ∙ o.holds.0) (le-leb n v.start (omega (arith, s, o.reached)));
        candidate = ap (λ w. has_candidate w c b) here ∙ o.candidate;
        start = s;
      }

  offered : reaches n v ≡ true → has_candidate v c b ≡ true → Offers vs c b n i v.start
  offered r h =
      let p = and_parts v.used (leb n v.start) r in
      record {
        slot = inside;
        holds = (sym (ap (λ w. w.used) here) ∙ p.0, sym (ap (λ w. w.start) here));
        reached = leb-true n v.start p.1;
        candidate = sym (ap (λ w. has_candidate w c b) here) ∙ h;
      }

  -- The slot i is looked at, and is not marked any more in m'.
  module _ (m m' : ℕ) (left : (j : ℕ) → j < slot_count → (j ≡ i → ⊥) → bit_at m' j ≡ 0 → bit_at m j ≡ 0) where
    pub best_step : (r : Option (ℕ × ℕ)) → BestBut vs c b n m r → BestBut vs c b n m' (nearer r c b n i v)
    best_step None h = by (cases_Bool (reaches n v && has_candidate v c b))
      where
        by : ((reaches n v && has_candidate v c b) ≡ true) ⊎ ((reaches n v && has_candidate v c b) ≡ false) → BestBut vs c b n m' (nearer None c b n i v)
        by (inl on) =
            let p = and_parts (reaches n v) (has_candidate v c b) on in
            subst (BestBut vs c b n m') (sym (cond-true _ (Some (i, v.start)) None on))
            (record { here = offered p.0 p.1; first = first })
          where
            first : (j t : ℕ) → Offers vs c b n j t → bit_at m' j ≡ 0 → v.start ≤ t
            first j t o z = on' (cases_eq j i)
              where
                on' : (j ≡ i) ⊎ (j ≡ i → ⊥) → v.start ≤ t
                on' (inl e) = let w = meets t (subst (λ k. Offers vs c b n k t) e o) in omega (arith, w.start)
                on' (inr ne) = absurd (h j t o (left j o.slot ne z))
        by (inr off) = subst (BestBut vs c b n m') (sym (cond-false _ (Some (i, v.start)) None off)) none
          where
            none : (j t : ℕ) → Offers vs c b n j t → bit_at m' j ≡ 0 → ⊥
            none j t o z = on' (cases_eq j i)
              where
                on' : (j ≡ i) ⊎ (j ≡ i → ⊥) → ⊥
                on' (inl e) = let w = meets t (subst (λ k. Offers vs c b n k t) e o) in both_ways _ off (and_from _ _ w.reached w.candidate)
                on' (inr ne) = h j t o (left j o.slot ne z)
    best_step (Some x) h = by (cases_Bool ((reaches n v && ltb v.start x.1) && has_candidate v c b))
      where
        by : (((reaches n v && ltb v.start x.1) && has_candidate v c b) ≡ true) ⊎ (((reaches n v && ltb v.start x.1) && has_candidate v c b) ≡ false)
            → BestBut vs c b n m' (nearer (Some x) c b n i v)
        by (inl on) =
            subst (BestBut vs c b n m') (sym (cond-true _ (Some (i, v.start)) (Some x) on))
            (record { here = offered q.0 p.1; first = first })
          where
            p : ((reaches n v && ltb v.start x.1) ≡ true) × (has_candidate v c b ≡ true)
            p = and_parts (reaches n v && ltb v.start x.1) (has_candidate v c b) on

            q : (reaches n v ≡ true) × (ltb v.start x.1 ≡ true)
            q = and_parts (reaches n v) (ltb v.start x.1) p.0

            first : (j t : ℕ) → Offers vs c b n j t → bit_at m' j ≡ 0 → v.start ≤ t
            first j t o z = on' (cases_eq j i)
              where
                on' : (j ≡ i) ⊎ (j ≡ i → ⊥) → v.start ≤ t
                on' (inl e) = let w = meets t (subst (λ k. Offers vs c b n k t) e o) in omega (arith, w.start)
                on' (inr ne) = omega (arith, ltb-true v.start x.1 q.1, h.first j t o (left j o.slot ne z))
        by (inr off) = subst (BestBut vs c b n m') (sym (cond-false _ (Some (i, v.start)) (Some x) off)) (record { here = h.here; first = first })
          where
            first : (j t : ℕ) → Offers vs c b n j t → bit_at m' j ≡ 0 → x.1 ≤ t
            first j t o z = on' (cases_eq j i)
              where
                on' : (j ≡ i) ⊎ (j ≡ i → ⊥) → x.1 ≤ t
                on' (inl e) = high (cases_lt v.start x.1)
                  where
                    w : Meets t
                    w = meets t (subst (λ k. Offers vs c b n k t) e o)

                    high : (v.start < x.1) ⊎ (x.1 ≤ v.start) → x.1 ≤ t
                    high (inl lt) = absurd (both_ways _ off (and_from _ _ (and_from _ _ w.reached (lt-ltb v.start x.1 lt)) w.candidate))
                    high (inr le) = omega (arith, w.start, le)
                on' (inr ne) = h.first j t o (left j o.slot ne z)
