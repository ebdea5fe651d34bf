-- A prune, slot after slot, and what it makes of the meaning. Assumes nothing.
use Rattle.std.proofs.Common.{◌≡◌, ℕ, zero, suc, ◌+◌, ◌*◌, ◌<◌, ◌≤◌, max, Bool, true, false, cond, ◌||◌, ltb, List, length, sym, refl, ap, ◌∙◌, subst, ap₂, ⊎_elim, eq-or-lt_of_le, add-one, arith}
use Rattle.std.proofs.lemmas.Bool.{cond-true, cond-false, cond_both, cases_Bool, and_from, and_parts, ltb-false, lt-ltb, true≢false, cases_eq}
use Rattle.journal.specs.declared.limits.Limits.{Limits}
use Rattle.journal.specs.Bytes.{put}
use Rattle.journal.specs.Meaning.{Section}
use Rattle.journal.specs.Calls.{any_below, pruned}
use Rattle.journal.specs.Slots.{vacancy, pruned_slot, goes, gone_of}
use Rattle.journal.proofs.Pages as slots
use Rattle.journal.proofs.Search.{gone_is}
use Rattle.format.specs.Layout.{page_size, free_head}
use Rattle.format.specs.Decode.{page_place, page, start_of, count_of, is_free, section_of, first_rows}
use Rattle.format.specs.State.{View, page_in, vals_in, pages_in, meaning_of, count_in, start_in, is_sound, below, freed, pruned_entries, gone_below, pruned_by}
use Rattle.format.specs.Well.{Laid, GoodPage, Well}
use Rattle.format.proofs.Mounting.{above_zero, free_count, free_start, sound_well, sound_again}
use Rattle.format.proofs.Slots.{length_page, length_freed, page_freed, page_kept, free_page}
use Rattle.format.proofs.Meanings.{rows_length}

abbrev pub pruned_page : Bool → List ℕ → List ℕ
pruned_page b p = cond b (put p 0 free_head) p

module _ (l : Limits) (es : List ℕ) (z : Laid l es) (min : ℕ) where
  pub record Swept (n : ℕ) : Type 0 where
    pub same : length (pruned_entries l es min n) ≡ length es
    pub ahead : (s : ℕ) → n ≤ s → page l (pruned_entries l es min n) s ≡ page l es s
    pub each : (s : ℕ) → s < n → page l (pruned_entries l es min n) s ≡ pruned_page (below l es min s) (page l es s)

  more_yes : (n : ℕ) → n < l.slots → Swept n → below l es min n ≡ true → Swept (suc n)
  more_yes n h i b =
      let old = pruned_entries l es min n in
      let long : l.slots * page_size l.rows l.width ≤ length old = omega (arith, i.same, z.long) in
      let e : put old (page_place l n) free_head ≡ pruned_entries l es min (suc n) = sym (cond-true (below l es min n) (put old (page_place l n) free_head) old b) in
      record {
        same = subst (λ (q : List ℕ). length q ≡ length es) e (length_freed l old long n h ∙ i.same);
        ahead = λ s q. subst (λ (x : List ℕ). page l x s ≡ page l es s) e (page_kept l old long n h s (λ y. omega arith) ∙ i.ahead s (omega arith));
        each = λ s q. subst (λ (x : List ℕ). page l x s ≡ pruned_page (below l es min s) (page l es s)) e
            (⊎_elim
            (λ y. subst (λ j. page l (put old (page_place l n) free_head) j ≡ pruned_page (below l es min j) (page l es j)) (sym y)
            (page_freed l old long n h ∙ (ap (λ p. put p 0 free_head) (i.ahead n (omega arith)) ∙ sym (cond-true (below l es min n) (put (page l es n) 0 free_head) (page l es n) b))))
            (λ y. page_kept l old long n h s (λ x. omega arith) ∙ i.each s y)
            (eq-or-lt_of_le {n = s} {m = n} (omega arith)));
      }

  more_no : (n : ℕ) → Swept n → below l es min n ≡ false → Swept (suc n)
  more_no n i b =
      let old = pruned_entries l es min n in
      let e : old ≡ pruned_entries l es min (suc n) = sym (cond-false (below l es min n) (put old (page_place l n) free_head) old b) in
      record {
        same = subst (λ (q : List ℕ). length q ≡ length es) e i.same;
        ahead = λ s q. subst (λ (x : List ℕ). page l x s ≡ page l es s) e (i.ahead s (omega arith));
        each = λ s q. subst (λ (x : List ℕ). page l x s ≡ pruned_page (below l es min s) (page l es s)) e
            (⊎_elim
            (λ y. subst (λ j. page l old j ≡ pruned_page (below l es min j) (page l es j)) (sym y)
            (i.ahead n (omega arith) ∙ sym (cond-false (below l es min n) (put (page l es n) 0 free_head) (page l es n) b)))
            (λ y. i.each s y)
            (eq-or-lt_of_le {n = s} {m = n} (omega arith)));
      }

  pub swept : (n : ℕ) → n ≤ l.slots → Swept n
  swept zero h = record { same = refl; ahead = λ s q. refl; each = λ s q. absurd (omega arith) }
  swept (suc n) h = ⊎_elim (more_yes n (omega arith) (swept n (omega arith))) (more_no n (swept n (omega arith))) (cases_Bool (below l es min n))

  pub laid_on : (n : ℕ) → n ≤ l.slots → (xs : List ℕ) → xs ≡ pruned_entries l es min n → Laid l xs
  laid_on n h xs e = record { small = z.small; long = omega (arith, z.long, (swept n h).same, ap length e) }

  -- What a step reads is what stood there before.
  pub below_same : (n : ℕ) → n < l.slots → (xs : List ℕ) → xs ≡ pruned_entries l es min n → below l xs min n ≡ below l es min n
  below_same n h xs e = ap (λ q. goes min (count_of (page l q n)) (start_of (page l q n))) e ∙ ap (λ p. goes min (count_of p) (start_of p)) ((swept n (omega arith)).ahead n (omega arith))

  pub pruned_more : (n : ℕ) → n < l.slots → (xs ys : List ℕ) → xs ≡ pruned_entries l es min n → ys ≡ freed (below l xs min n) l xs n → ys ≡ pruned_entries l es min (n + 1)
  pruned_more n h xs ys e f =
      f ∙ (ap₂ (λ (b : Bool) (q : List ℕ). freed b l q n) (below_same n h xs e) e ∙ ap (pruned_entries l es min) (sym (add-one n)))

  pub gone_more : (n : ℕ) (a b : Bool) → a ≡ gone_below l es min n → b ≡ below l es min n → (a || b) ≡ gone_below l es min (n + 1)
  gone_more n a b e f = ap₂ (λ x y. x || y) e f ∙ ap (gone_below l es min) (sym (add-one n))

-- One step of the loop, from the bytes w as the steps before it left them to the bytes x.
pub one_more : (v : View) → Laid v.limits v.entries → (min n : ℕ) → n < v.limits.slots → (w x : View)
    → w ≡ record v { entries = pruned_entries v.limits v.entries min n }
    → x ≡ record w { entries = freed (below w.limits w.entries min n) w.limits w.entries n }
    → (below w.limits w.entries min n ≡ below v.limits v.entries min n) × (x ≡ record v { entries = pruned_entries v.limits v.entries min (n + 1) })
one_more v z min n h w x e f =
    let same = below_same v.limits v.entries z min n h (pruned_entries v.limits v.entries min n) refl in (
      ap (λ (y : View). below y.limits y.entries min n) e ∙ same,
      f ∙ (ap (λ (y : View). record y { entries = freed (below y.limits y.entries min n) y.limits y.entries n }) e
          ∙ (ap (λ (b : Bool). record v { entries = freed b v.limits (pruned_entries v.limits v.entries min n) n }) same
          ∙ ap (λ m. record v { entries = pruned_entries v.limits v.entries min m }) (sym (add-one n)))),
    )

-- In the meaning.
gone_slots : (v : View) (min n : ℕ) → gone_below v.limits v.entries min n ≡ gone_of (pages_in v) min n
gone_slots v min zero = refl
gone_slots v min (suc n) = ap₂ (λ x y. x || y) (gone_slots v min n) (ap (λ c. goes min c (start_in v n)) (sym (rows_length v n)))

pub gone_any : (v : View) (min : ℕ) (r : Bool) → r ≡ gone_below v.limits v.entries min v.limits.slots → r ≡ any_below (meaning_of v).sections min
gone_any v min r e = e ∙ (gone_slots v min v.limits.slots ∙ gone_is (pages_in v) min v.limits.slots)

module _ (v : View) (w : Well v) (min : ℕ) where
  abbrev v' : View
  v' = pruned_by v min

  all : Swept v.limits v.entries w.laid min v.limits.slots
  all = swept v.limits v.entries w.laid min v.limits.slots (omega arith)

  gone_page : (s : ℕ) → s < v.limits.slots → below v.limits v.entries min s ≡ true → is_free (page_in (pruned_by v min) s) ≡ true
  gone_page s h b =
      ap is_free (all.each s h ∙ cond-true (below v.limits v.entries min s) (put (page_in v s) 0 free_head) (page_in v s) b)
      ∙ free_page (page_in v s) (omega (arith, length_page v.limits v.entries w.laid s h))

  kept_page : (s : ℕ) → s < v.limits.slots → below v.limits v.entries min s ≡ false → page_in (pruned_by v min) s ≡ page_in v s
  kept_page s h b = all.each s h ∙ cond-false (below v.limits v.entries min s) (put (page_in v s) 0 free_head) (page_in v s) b

  start_above : (s : ℕ) → 0 < count_in v s → below v.limits v.entries min s ≡ false → min ≤ start_in v s
  start_above s a b = ⊎_elim (λ q. absurd (true≢false (sym (and_from _ _ (lt-ltb _ _ a) q) ∙ b))) (λ q. ltb-false _ _ q) (cases_Bool (ltb (start_in v s) min))

  stays : (s : ℕ) → s < v.limits.slots → 0 < count_in (pruned_by v min) s → (page_in (pruned_by v min) s ≡ page_in v s) × (min ≤ start_in v s) × (0 < count_in v s)
  stays s h a =
      ⊎_elim (λ b. absurd (omega (arith, free_count (page_in (pruned_by v min) s) (gone_page s h b))))
      (λ b. let e = kept_page s h b in let c : 0 < count_in v s = subst (λ p. 0 < count_of p) e a in (e, start_above s c b, c))
      (cases_Bool (below v.limits v.entries min s))

  good_page : (s : ℕ) → s < v.limits.slots → GoodPage v.limits (page_in (pruned_by v min) s)
  good_page s h =
      ⊎_elim
      (λ b. let f = gone_page s h b in let c = free_count (page_in (pruned_by v min) s) f in
      record { few = omega arith; free = λ _. f; head = λ q. absurd (omega arith); each = λ r q. absurd (omega arith) })
      (λ b. subst (GoodPage v.limits) (sym (kept_page s h b)) (w.pages s h))
      (cases_Bool (below v.limits v.entries min s))

  well_pruned : Well (pruned_by v min)
  well_pruned = record {
    laid = record { small = w.laid.small; long = omega (arith, w.laid.long, all.same) };
    long = w.long;
    pages = good_page;
    distinct = λ s t q h a b e.
        let i = stays s (omega arith) a in let j = stays t h b in
        w.distinct s t q h i.2 j.2 (sym (ap start_of i.0) ∙ (e ∙ ap start_of j.0));
    above = λ s h a. let q = stays s h a in omega (arith, q.1, w.above s h q.2, ap start_of q.0);
    starts = λ s h a. let q = stays s h a in omega (arith, w.starts s h q.2, ap start_of q.0);
  }

  free_section : (p vs : List ℕ) → is_free p ≡ true → section_of v.limits.width p vs ≡ vacancy
  free_section p vs f =
      ap₂ (λ (a : ℕ) (n : ℕ). record { start = a; rows = first_rows v.limits.width p vs n }) (free_start p f) (free_count p f)

  slot_pruned : (s : ℕ) → s < v.limits.slots → pages_in (pruned_by v min) s ≡ pruned_slot min (pages_in v s)
  slot_pruned s h =
      ⊎_elim
      (λ b. free_section (page_in (pruned_by v min) s) (vals_in v s) (gone_page s h b) ∙ sym (cond-true (ltb (start_in v s) min) vacancy (pages_in v s) (below_start s b)))
      (λ b. ap (λ p. section_of v.limits.width p (vals_in v s)) (kept_page s h b) ∙ stayed s h b)
      (cases_Bool (below v.limits v.entries min s))
    where
      below_start : (s : ℕ) → below v.limits v.entries min s ≡ true → ltb (start_in v s) min ≡ true
      below_start s b = (and_parts (ltb 0 (count_in v s)) (ltb (start_in v s) min) b).1

      stayed : (s : ℕ) → s < v.limits.slots → below v.limits v.entries min s ≡ false → pages_in v s ≡ pruned_slot min (pages_in v s)
      stayed s h b =
          cond_both (ltb (start_in v s) min) vacancy (pages_in v s) (λ x. pages_in v s ≡ x)
          (λ q. free_section (page_in v s) (vals_in v s)
          (⊎_elim (λ c. (w.pages s h).free c) (λ c. absurd (true≢false (sym (and_from _ _ (lt-ltb 0 (count_in v s) (above_zero (count_in v s) c)) q) ∙ b))) (cases_eq (count_in v s) 0)))
          (λ q. refl)

  pub meaning_pruned : meaning_of (pruned_by v min) ≡ pruned (meaning_of v) min
  meaning_pruned =
      ap (λ (xs : List Section). record { limits = v.limits; floor = max v.floor min; sections = xs }) (slots.kept_pruned (pages_in v) (pages_in (pruned_by v min)) v.limits.slots min slot_pruned)

pub sound_pruned : (v : View) (min : ℕ) → is_sound v ≡ true → is_sound (pruned_by v min) ≡ true
sound_pruned v min h = let w = sound_well v h in sound_again v (pruned_by v min) h (well_pruned v w min) refl (all v w min).same refl
