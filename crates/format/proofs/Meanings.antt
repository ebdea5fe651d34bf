-- What byte pages mean, slot by slot: lawful, and found again by their starts. Assumes nothing.
use Rattle.std.proofs.Common.{◌≡◌, ℕ, zero, suc, ◌+◌, ◌-◌, ◌<◌, ◌≤◌, true, eqb, List, [], ◌∷◌, ◌++◌, map, fold, length, Some, None, Option, sym, refl, ap, ◌∙◌, subst, ap₂, ⊎_elim, add-one, arith}
use Rattle.std.proofs.lemmas.Bool.{cond_both, cases_order, true≢false}
use Rattle.std.proofs.lemmas.List.FromFn.{length-map-range_with_len, get_or-map-range_with_len, map-range_with_len_more}
use Rattle.std.proofs.ByRecursion.{All-from_get_or}
use Rattle.std.specs.List.{range_with_len, AllByRecursion}
use Rattle.journal.specs.declared.limits.Limits.{Limits}
use Rattle.journal.specs.Bytes.{chunk}
use Rattle.journal.specs.Meaning.{sound, damaged, Row, check_size, size, cost, rows_of, first_from as first_kept, Lawful}
use Rattle.journal.specs.Slots.{nearest, first_of, Distinct, Absent}
use Rattle.journal.proofs.Bytes.{length_chunk, step_le}
use Rattle.journal.proofs.Laws.{cost_push}
use Rattle.journal.proofs.Pages as slots
use Rattle.journal.proofs.Search.{first_is}
use Rattle.format.specs.Numbers.{be}
use Rattle.format.specs.Layout.{key_at, row_size, row_place, value_check}
use Rattle.format.specs.Decode.{page, start_of, count_of, row_at, key_of, offset_of, size_of, length_of, content_of, row_of, used, first_rows}
use Rattle.format.specs.Mount.{found, bears}
use Rattle.format.specs.State.{View, page_in, row_in, vals_in, pages_in, meaning_of, count_in, start_in, used_in, is_sound, first_from}
use Rattle.format.specs.Well.{GoodPage, Well}
use Rattle.format.proofs.Firsts.{fold_range, found_some, found_none}
use Rattle.format.proofs.Mounting.{bears_true, true_bears, sound_well}
use Rattle.format.proofs.Slots.{length_page, length_vals}

pub rows_length : (v : View) (s : ℕ) → length (pages_in v s).rows ≡ count_in v s
rows_length v s = length-map-range_with_len (λ r. row_of v.limits.width (row_in v s r) (vals_in v s)) 0 (count_in v s)

pub counted : (v : View) (s : ℕ) → 0 < count_in v s → 0 < length (pages_in v s).rows
counted v s h = omega (arith, rows_length v s)

pub taken : (v : View) (s : ℕ) → 0 < length (pages_in v s).rows → 0 < count_in v s
taken v s h = omega (arith, rows_length v s)

-- What rows cost is what they use of a slot's values.
pub size_is : (xs : List ℕ) (a n : ℕ) → a + n ≤ length xs → size (content_of xs a n) ≡ n
unfolding content_of
size_is xs a n h =
    cond_both (eqb (be (chunk xs (a + n) check_size)) (value_check (chunk xs a n))) (sound (chunk xs a n)) (damaged n) (λ x. size x ≡ n)
    (λ _. length_chunk xs a n h) (λ _. refl)

module _ (l : Limits) (p xs : List ℕ) (good : GoodPage l p) (lv : length xs ≡ l.bytes) where
  pub row_length : (r : ℕ) → r < count_of p → size (content_of xs (offset_of l.width (row_at l.width p r)) (length_of l.width (row_at l.width p r))) ≡ length_of l.width (row_at l.width p r)
  row_length r h =
      let g = good.each r h in size_is xs (offset_of l.width (row_at l.width p r)) (length_of l.width (row_at l.width p r)) (omega (arith, g.place, g.some, g.room))

  used_cost : (c : ℕ) → c ≤ count_of p → cost (first_rows l.width p xs c) ≡ used l.width p c
  used_cost zero h = refl
  used_cost (suc c) h =
      let f : ℕ → Row = λ r. row_of l.width (row_at l.width p r) xs in
      let i = used_cost c (omega arith) in
      let k = row_length c (omega arith) in
      let g = good.each c (omega arith) in
      let m : map f (range_with_len 0 (suc c)) ≡ map f (range_with_len 0 c) ++ f c ∷ [] = subst (λ t. map f (range_with_len 0 t) ≡ map f (range_with_len 0 c) ++ f c ∷ []) (add-one c) (map-range_with_len_more f 0 c c (omega arith)) in
      ap cost m ∙ (cost_push (map f (range_with_len 0 c)) (f c) ∙ omega (arith, i, k, g.some))

  used_within : (c : ℕ) → c ≤ count_of p → used l.width p c ≤ l.bytes
  used_within zero h = omega arith
  used_within (suc c) h = (good.each c (omega arith)).room

pub cost_rows : (v : View) → Well v → (s : ℕ) → s < v.limits.slots → cost (pages_in v s).rows ≡ used_in v s
cost_rows v w s h = used_cost v.limits (page_in v s) (vals_in v s) (w.pages s h) (length_vals v w s h) (count_in v s) (omega arith)

pub used_below : (v : View) → Well v → (s : ℕ) → s < v.limits.slots → used_in v s ≤ v.limits.bytes
used_below v w s h = used_within v.limits (page_in v s) (vals_in v s) (w.pages s h) (length_vals v w s h) (count_in v s) (omega arith)

-- No two taken slots share a start.
pub distinct : (v : View) → Well v → Distinct (pages_in v) v.limits.slots
distinct v w i j hi hj a b e =
    ⊎_elim (λ q. q) (⊎_elim (λ q. absurd (w.distinct i j q hj (taken v i a) (taken v j b) e)) (λ q. absurd (w.distinct j i q hi (taken v j b) (taken v i a) (sym e)))) (cases_order i j)

-- Keys.
long_row : (v : View) → Well v → (i : ℕ) → i < v.limits.slots → (r : ℕ) → r < v.limits.rows → length (row_in v i r) ≡ row_size v.limits.width
long_row v w i h r q =
    length_chunk (page_in v i) (row_place v.limits.width r) (row_size v.limits.width)
    (omega (arith, length_page v.limits v.entries w.laid i h, step_le r v.limits.rows (row_size v.limits.width) q))

pub length_key : (v : View) → Well v → (i : ℕ) → i < v.limits.slots → (r : ℕ) → r < count_in v i → length (key_of v.limits.width (row_in v i r)) ≡ v.limits.width
unfolding key_of
length_key v w i h r q = length_chunk (row_in v i r) key_at v.limits.width (omega (arith, long_row v w i h r (omega (arith, (w.pages i h).few))))

no_row : Row
no_row = record { label = record { number = 0 }; key = []; content = damaged 0 }

keys_are : (v : View) → Well v → (i : ℕ) → i < v.limits.slots → AllByRecursion (λ (r : Row). length r.key ≡ v.limits.width) (pages_in v i).rows
keys_are v w i h =
    let f : ℕ → Row = λ r. row_of v.limits.width (row_in v i r) (vals_in v i) in
    All-from_get_or (λ (r : Row). length r.key ≡ v.limits.width) (pages_in v i).rows no_row
    (λ j q. let k : j < count_in v i = omega (arith, rows_length v i) in
    subst (λ (r : Row). length r.key ≡ v.limits.width) (sym (get_or-map-range_with_len f 0 (count_in v i) j j no_row k (omega arith))) (length_key v w i h j k))

lawful_well : (v : View) → Well v → Lawful (meaning_of v)
lawful_well v w =
    slots.lawful_pages (pages_in v) v.limits.slots (meaning_of v) refl refl w.laid.small.width
    (λ i h a. w.above i h (taken v i a))
    (λ i h a. record {
      start = w.starts i h (taken v i a);
      some = a;
      rows = omega (arith, rows_length v i, (w.pages i h).few);
      bytes = omega (arith, cost_rows v w i h, used_below v w i h);
      keys = keys_are v w i h;
    })

pub lawful : (v : View) → is_sound v ≡ true → Lawful (meaning_of v)
lawful v h = lawful_well v (sound_well v h)

-- A section by its start.
pub absent : (v : View) (start : ℕ) → found (bears v.limits v.entries start) v.limits.slots ≡ None → Absent (pages_in v) v.limits.slots start
absent v start h i q a e =
    true≢false (sym (true_bears v.limits v.entries start i (taken v i a) e) ∙ found_none (bears v.limits v.entries start) v.limits.slots h i q)

pub rows_not_found : (v : View) (start : ℕ) → found (bears v.limits v.entries start) v.limits.slots ≡ None → rows_of (meaning_of v).sections start ≡ []
rows_not_found v start h = (slots.absent (pages_in v) v.limits.slots start (absent v start h)).1

pub rows_found : (v : View) → Well v → (start t : ℕ) → found (bears v.limits v.entries start) v.limits.slots ≡ Some t
    → (rows_of (meaning_of v).sections start ≡ (pages_in v t).rows) × (t < v.limits.slots)
rows_found v w start t h =
    let f = found_some (bears v.limits v.entries start) v.limits.slots t h in
    let b = bears_true v.limits v.entries start t f.1 in
    ((slots.found (pages_in v) v.limits.slots (distinct v w) t start f.0 (counted v t b.0) b.1).1, f.0)

pub count_none : (v : View) (start : ℕ) → None ≡ found (bears v.limits v.entries start) v.limits.slots → 0 ≡ length (rows_of (meaning_of v).sections start)
count_none v start e = sym (ap length (rows_not_found v start (sym e)))

pub count_some : (v : View) → Well v → (start t : ℕ) → Some t ≡ found (bears v.limits v.entries start) v.limits.slots → count_in v t ≡ length (rows_of (meaning_of v).sections start)
count_some v w start t e = sym (ap length (rows_found v w start t (sym e)).0 ∙ rows_length v t)

-- The first start, slot after slot.
pub first_folded : (l : Limits) (es : List ℕ) (from n : ℕ) → fold (λ best s. nearest best (count_of (page l es s)) (start_of (page l es s)) from) None (range_with_len 0 n) ≡ first_from l es from n
first_folded l es from zero = refl
first_folded l es from (suc n) =
    fold_range (λ best s. nearest best (count_of (page l es s)) (start_of (page l es s)) from) None n
    ∙ ap (λ best. nearest best (count_of (page l es n)) (start_of (page l es n)) from) (first_folded l es from n)

first_slots : (v : View) (from n : ℕ) → first_from v.limits v.entries from n ≡ first_of (pages_in v) from n
first_slots v from zero = refl
first_slots v from (suc n) = ap₂ (λ (o : Option ℕ) (c : ℕ). nearest o c (start_in v n) from) (first_slots v from n) (sym (rows_length v n))

pub first_meant : (v : View) → Well v → (from : ℕ) (r : Option ℕ) → r ≡ first_from v.limits v.entries from v.limits.slots → r ≡ first_kept (meaning_of v).sections from
first_meant v w from r e = e ∙ (first_slots v from v.limits.slots ∙ first_is (pages_in v) from v.limits.slots (distinct v w))

-- Where the last row of a page ends.
pub used_last : (l : Limits) (p : List ℕ) → GoodPage l p → (c : ℕ) → c ≡ count_of p → (c ≡ 0 → ⊥) → (a z : ℕ) → a ≡ offset_of l.width (row_at l.width p (c - 1)) → z ≡ size_of l.width (row_at l.width p (c - 1))
    → (a + z ≤ l.bytes) × (a + z ≡ used l.width p (count_of p))
used_last l p good c e n a z ea ez =
    let h : c - 1 < count_of p = omega arith in
    let g = good.each (c - 1) h in
    let s : c - 1 + 1 ≡ count_of p = omega arith in
    let u : used l.width p (c - 1) + size_of l.width (row_at l.width p (c - 1)) ≡ used l.width p (count_of p) = ap (used l.width p) (sym (add-one (c - 1)) ∙ s) in
    (omega (arith, g.place, g.room), omega (arith, g.place, u))
