-- A prune of the heads. Assumes nothing.
use Rattle.std.proofs.Common.{◌≡◌, ℕ, zero, suc, ◌+◌, ◌*◌, ◌^◌, ◌<◌, ◌≤◌, max, Bool, true, false, cond, ◌||◌, ltb, List, [], ◌∷◌, ◌++◌, map, length, get_or, take, drop, sym, refl, ap, ◌∙◌, subst, ap₂, add-one, arith, length-append, length-take, length-drop}
use Rattle.std.specs.List.{range_with_len, list_any}
use Rattle.std.proofs.lemmas.List.{length-map, take_more, get_or-map, get_or-take, get_or_append_left}
use Rattle.std.proofs.lemmas.List.Folds.{list_any-append}
use Rattle.std.proofs.lemmas.Bool.{cond_both, ltb-false}
use Rattle.journal.specs.Meaning.{Section, Row, cost}
use Rattle.journal.specs.Calls.{kept_from}
use Rattle.journal.specs.Slots.{kept_in, vacancy, goes, gone_of}
use Rattle.journal.proofs.Pages.{kept_pruned}
use Rattle.journal.proofs.Search.{gone_is}
use Rattle.memory_layout.specs.declared.head.Head.{Head}
use Rattle.memory_layout.specs.View.{View, Well, Drops, head, kept_row, row_of, rows_in, pages, limits_of, free, pruned_head, with_heads}
use Rattle.memory_layout.proofs.Seen.{rows_length}

-- The tables after.
module _ (v : View) (well : Well v) (min : ℕ) (hs : List Head) (len : length hs ≡ 64) (each : (i : ℕ) → i < v.slots → get_or hs i free ≡ pruned_head min (head v i)) where
  abbrev A : View
  A = with_heads v hs (max v.floor min)

  -- what is free, or as it was and at or above min
  by_head : (P : Head → Type 0) (i : ℕ) → i < v.slots → P free → (min ≤ (head v i).start → P (head v i)) → P (head A i)
  by_head P i h a b = subst P (sym (each i h)) (cond_both (ltb (head v i).start min) free (head v i) P (λ e. a) (λ e. b (ltb-false _ _ e)))

  abbrev rows_by : ℕ → Head → List Row
  rows_by s h = map (λ r. row_of v.bytes v.width (kept_row v s r)) (range_with_len 0 h.count)

  well_after : Well A
  well_after =
      record {
        slots_few = well.slots_few;
        rows_few = well.rows_few;
        limit_few = well.limit_few;
        width_few = well.width_few;
        area_is = well.area_is;
        heads_len = len;
        records_len = well.records_len;
        bytes_len = well.bytes_len;
        counts = λ s h. by_head (λ x. x.count ≤ v.rows) s h (omega arith) (λ _. well.counts s h);
        costs = λ s h. by_head (λ x. x.cost ≡ cost (rows_by s x)) s h refl (λ _. well.costs s h);
        bounded = λ s h. by_head (λ x. x.cost ≤ v.limit) s h (omega arith) (λ _. well.bounded s h);
        begins = λ s r h. by_head (λ x. r < x.count → s * v.area ≤ (kept_row v s r).at) s h.0 (λ l. absurd (omega arith)) (λ _ l. well.begins s r (h.0, l)) h.1;
        ends = λ s r h. by_head (λ x. r < x.count → (kept_row v s r).at + v.width + (kept_row v s r).length ≤ s * v.area + x.count * v.width + x.cost) s h.0 (λ l. absurd (omega arith)) (λ _ l. well.ends s r (h.0, l)) h.1;
        distinct = λ s t h.
            by_head (λ x. 0 < x.count → x.start ≡ (head A t).start → s ≡ t) s h.0 (λ l. absurd (omega arith))
            (λ _ l. by_head (λ y. 0 < y.count → (head v s).start ≡ y.start → s ≡ t) t h.1 (λ k. absurd (omega arith)) (λ _ k e. well.distinct s t (h.0, h.1, l, k, e)) h.3)
            h.2 h.4;
        above = λ s h. by_head (λ x. 0 < x.count → max v.floor min ≤ x.start) s h.0 (λ l. absurd (omega arith)) (λ m l. omega (arith, m, well.above s (h.0, l))) h.1;
        starts = λ s h. by_head (λ x. x.start < 2 ^ 64) s h (omega arith) (λ _. well.starts s h);
      }

  sections : kept_in (pages A) v.slots ≡ kept_from (kept_in (pages v) v.slots) min
  sections =
      kept_pruned (pages v) (pages A) v.slots min
      (λ s h. ap (λ (x : Head). record { start = x.start; rows = rows_by s x }) (each s h) ∙ either (ltb (head v s).start min) s)
    where
      either : (b : Bool) (s : ℕ) → ◌≡◌ {A = Section} (record { start = (cond b free (head v s)).start; rows = rows_by s (cond b free (head v s)) }) (cond b vacancy (pages v s))
      either true s = refl
      either false s = refl

  pub drops : (v' : View) (r : Bool) → v' ≡ A → r ≡ gone_of (pages v) min v.slots → Drops v v' min r
  drops v' r e q =
      subst (λ (w : View). Drops v w min r) (sym e)
      (record {
        well = well_after;
        answer = q ∙ gone_is (pages v) min v.slots;
        after = ap (λ (xs : List Section). record { limits = limits_of v; floor = max v.floor min; sections = xs }) sections;
      })

-- Whether a section goes, from one head after another.
pub gone_upto : (v : View) (min n : ℕ) → n ≤ length v.heads → list_any (λ (h : Head). goes min h.count h.start) (take n v.heads) ≡ gone_of (pages v) min n
gone_upto v min zero l = refl
gone_upto v min (suc n) l =
    let test : Head → Bool = λ h. goes min h.count h.start in
    let here : (goes min (head v n).count (head v n).start || false) ≡ goes min (length (rows_in v n)) (head v n).start =
    or_nothing _ ∙ ap (λ (k : ℕ). goes min k (head v n).start) (sym (rows_length v n)) in
    ap (λ (k : ℕ). list_any test (take k v.heads)) (sym (add-one n))
    ∙ ap (list_any test) (take_more v.heads n free (omega arith))
    ∙ list_any-append test (take n v.heads) (head v n ∷ [])
    ∙ ap₂ (λ (x : Bool) (y : Bool). x || y) (gone_upto v min n (omega arith)) here
  where
    or_nothing : (b : Bool) → (b || false) ≡ b
    or_nothing true = refl
    or_nothing false = refl

-- The first heads pruned, and the others as they were.
pub pruned_front : (v : View) → Well v → (min : ℕ) (gone : Bool) → gone ≡ list_any (λ (h : Head). goes min h.count h.start) (take v.slots v.heads)
    → Drops v (with_heads v (map (pruned_head min) (take v.slots v.heads) ++ drop v.slots v.heads) (max v.floor min)) min gone
pruned_front v well min gone g =
    drops v well min _
    (omega (arith, well.heads_len, well.slots_few, length-append (map (pruned_head min) (take v.slots v.heads)) (drop v.slots v.heads), length-map (take v.slots v.heads) (pruned_head min), length-take v.slots v.heads, length-drop v.slots v.heads))
    (λ i l.
    let inside : i < length (take v.slots v.heads) = omega (arith, well.heads_len, well.slots_few, length-take v.slots v.heads) in
    get_or_append_left (map (pruned_head min) (take v.slots v.heads)) (drop v.slots v.heads) free i (omega (arith, length-map (take v.slots v.heads) (pruned_head min)))
    ∙ get_or-map (pruned_head min) (take v.slots v.heads) i free free inside ∙ ap (pruned_head min) (get_or-take v.slots v.heads i free l))
    _ _ refl
    (g ∙ gone_upto v min v.slots (omega (arith, well.heads_len, well.slots_few)))
