-- What the sections are, seen from the pages that they lie in, slot by slot. Assumes nothing.
use Rattle.std.proofs.Common.{◌≡◌, ℕ, suc, ◌<◌, ◌≤◌, true, false, List, [], ◌∷◌, ◌++◌, map, length, get_or, set, Some, None, sym, refl, ap, ◌∙◌, subst, ⊎_elim, arith, length-append, length-set}
use Rattle.std.specs.List.{range_with_len, AllByRecursion}
use Rattle.std.proofs.lemmas.List.{same_lists, get_or-set_same, get_or-set_other}
use Rattle.std.proofs.lemmas.Bool.{cases_eq, cases_lt, lt-ltb, ltb-true, le-ltb, cond-true, cond-false, not_from_true, not_from_false}
use Rattle.std.proofs.lemmas.List.FromFn.{length-map-range_with_len, get_or-map-range_with_len}
use Rattle.journal.specs.Meaning.{Meaning, Section, Row, is_kept, rows_of, first_from, Rising, Within, Lawful}
use Rattle.journal.specs.Calls.{placed, any_below, kept_from, no_slot}
use Rattle.journal.specs.Slots.{Pages, full, sorted, kept_in, vacancy, pruned_slot, Distinct, Alone, Absent, Ready, Grows}
use Rattle.journal.proofs.Sorted as slots

-- Maps over the slots' numbers.
pub map_counting_same : {X : Type 0} (f g : ℕ → X) (n : ℕ) → ((r : ℕ) → r < n → f r ≡ g r) → map f (range_with_len 0 n) ≡ map g (range_with_len 0 n)
map_counting_same f g n h =
    same_lists _ _ (length-map-range_with_len f 0 n ∙ sym (length-map-range_with_len g 0 n))
    (λ k d l.
    let kn : k < n = omega (arith, length-map-range_with_len f 0 n) in
    get_or-map-range_with_len f 0 n k k d kn (omega arith) ∙ h k kn ∙ sym (get_or-map-range_with_len g 0 n k k d kn (omega arith)))

pub map_counting_set : {X : Type 0} (f g : ℕ → X) (n t : ℕ) (y : X) → t < n → ((s : ℕ) → s < n → (s ≡ t → ⊥) → f s ≡ g s) → f t ≡ y → map f (range_with_len 0 n) ≡ set (map g (range_with_len 0 n)) t y
map_counting_set f g n t y ht same new =
    same_lists _ _
    (length-map-range_with_len f 0 n ∙ (sym (length-map-range_with_len g 0 n) ∙ sym (length-set (map g (range_with_len 0 n)) t y)))
    (λ k d l.
    let kn : k < n = omega (arith, length-map-range_with_len f 0 n) in
    let tn : t < length (map g (range_with_len 0 n)) = omega (arith, length-map-range_with_len g 0 n) in
    ⊎_elim
    (λ e. subst (λ j. get_or (map f (range_with_len 0 n)) j d ≡ get_or (set (map g (range_with_len 0 n)) t y) j d) (sym e)
    (get_or-map-range_with_len f 0 n t t d ht (omega arith) ∙ (new ∙ sym (get_or-set_same (map g (range_with_len 0 n)) t y d tn))))
    (λ ne. get_or-map-range_with_len f 0 n k k d kn (omega arith)
    ∙ (same k kn ne ∙ (sym (get_or-map-range_with_len g 0 n k k d kn (omega arith)) ∙ sym (get_or-set_other (map g (range_with_len 0 n)) t k y d ne))))
    (cases_eq k t))

pub map_map : {X Y Z : Type 0} (f : Y → Z) (g : X → Y) (xs : List X) → map f (map g xs) ≡ map (λ x. f (g x)) xs
map_map f g [] = refl
map_map f g (x ∷ xs) = ap (λ ys. f (g x) ∷ ys) (map_map f g xs)

module _ (f : Pages) (n : ℕ) where
  slots_length : length (map f (range_with_len 0 n)) ≡ n
  slots_length = length-map-range_with_len f 0 n

  slot_at : (i : ℕ) → i < n → get_or (map f (range_with_len 0 n)) i vacancy ≡ f i
  slot_at i h = get_or-map-range_with_len f 0 n i i vacancy h (omega arith)

  is_full : (i : ℕ) → i < n → 0 < length (f i).rows → full (get_or (map f (range_with_len 0 n)) i vacancy) ≡ true
  is_full i h q = subst (λ (x : Section). full x ≡ true) (sym (slot_at i h)) (lt-ltb _ _ q)

  has_rows : (i : ℕ) → i < n → full (get_or (map f (range_with_len 0 n)) i vacancy) ≡ true → 0 < length (f i).rows
  has_rows i h q = ltb-true 0 (length (f i).rows) (subst (λ (x : Section). full x ≡ true) (slot_at i h) q)

  starts_at : (i s : ℕ) → i < n → (f i).start ≡ s → (get_or (map f (range_with_len 0 n)) i vacancy).start ≡ s
  starts_at i s h e = ap (λ (x : Section). x.start) (slot_at i h) ∙ e

  -- What holds of each taken slot holds of each full section of the list.
  each : (P : Section → Type 0) → ((i : ℕ) → i < n → 0 < length (f i).rows → P (f i))
      → (i : ℕ) → i < length (map f (range_with_len 0 n)) → full (get_or (map f (range_with_len 0 n)) i vacancy) ≡ true → P (get_or (map f (range_with_len 0 n)) i vacancy)
  each P g i h q = let hi : i < n = omega (arith, slots_length) in subst P (sym (slot_at i hi)) (g i hi (has_rows i hi q))

  pub all_kept : (P : Section → Type 0) → ((i : ℕ) → i < n → 0 < length (f i).rows → P (f i)) → AllByRecursion P (kept_in f n)
  all_kept P g = slots.all_sorted P (map f (range_with_len 0 n)) vacancy (each P g)

  pub absent : (s : ℕ) → Absent f n s → (is_kept (kept_in f n) s ≡ false) × (rows_of (kept_in f n) s ≡ [])
  absent s g = slots.not_kept (map f (range_with_len 0 n)) s vacancy (each (λ x. x.start ≡ s → ⊥) g)

  pub free_slot : (t : ℕ) → t < n → length (f t).rows ≡ 0 → length (kept_in f n) < n
  free_slot t h e =
      omega (
        arith,
        slots_length,
        slots.length_sorted_free (map f (range_with_len 0 n)) t vacancy (omega (arith, slots_length))
            (subst (λ (x : Section). full x ≡ false) (sym (slot_at t h)) (le-ltb 0 (length (f t).rows) (omega arith))),
      )

  pub nothing_below : (m : ℕ) → ((i : ℕ) → i < n → 0 < length (f i).rows → m ≤ (f i).start) → any_below (kept_in f n) m ≡ false
  nothing_below m g = slots.none_below (map f (range_with_len 0 n)) m vacancy (each (λ x. m ≤ x.start) g)

  pub something_below : (m t : ℕ) → t < n → 0 < length (f t).rows → (f t).start < m → any_below (kept_in f n) m ≡ true
  something_below m t h q l =
      slots.some_below (map f (range_with_len 0 n)) m t vacancy (omega (arith, slots_length)) (is_full t h q) (subst (λ (x : Section). x.start < m) (sym (slot_at t h)) l)

  pub no_first : (from : ℕ) → ((i : ℕ) → i < n → 0 < length (f i).rows → (f i).start < from) → first_from (kept_in f n) from ≡ None
  no_first from g = slots.no_first (map f (range_with_len 0 n)) from vacancy (each (λ x. x.start < from) g)

  pub rising : (low : ℕ) → ((i : ℕ) → i < n → 0 < length (f i).rows → low ≤ (f i).start) → Rising low (kept_in f n)
  rising low g = slots.rising_sorted low (map f (range_with_len 0 n)) vacancy (each (λ x. low ≤ x.start) g)

  -- A section in the one slot that has it.
  unique : (t s : ℕ) → t < n → (f t).start ≡ s → Alone f n t s
      → (i : ℕ) → i < length (map f (range_with_len 0 n)) → full (get_or (map f (range_with_len 0 n)) i vacancy) ≡ true → (get_or (map f (range_with_len 0 n)) i vacancy).start ≡ s → i ≡ t
  unique t s h e a i l q r =
      let hi : i < n = omega (arith, slots_length) in
      ⊎_elim (λ z. z) (λ ne. absurd (a i hi ne (has_rows i hi q) (ap (λ (x : Section). x.start) (sym (slot_at i hi)) ∙ r))) (cases_eq i t)

  pub found_alone : (t s : ℕ) → t < n → 0 < length (f t).rows → (f t).start ≡ s → Alone f n t s → (is_kept (kept_in f n) s ≡ true) × (rows_of (kept_in f n) s ≡ (f t).rows)
  found_alone t s h q e a =
      let k = slots.kept_at (map f (range_with_len 0 n)) t s vacancy (omega (arith, slots_length)) (is_full t h q) (starts_at t s h e) (unique t s h e a) in
      (k.0, k.1 ∙ ap (λ (x : Section). x.rows) (slot_at t h))

  module _ (distinct : Distinct f n) where
    pub alone : (t s : ℕ) → t < n → 0 < length (f t).rows → (f t).start ≡ s → Alone f n t s
    alone t s h q e i hi ne qi ei = ne (distinct i t hi h qi q (ei ∙ sym e))

    pub found : (t s : ℕ) → t < n → 0 < length (f t).rows → (f t).start ≡ s → (is_kept (kept_in f n) s ≡ true) × (rows_of (kept_in f n) s ≡ (f t).rows)
    found t s h q e = found_alone t s h q e (alone t s h q e)

    pub all_taken : ((i : ℕ) → i < n → 0 < length (f i).rows) → length (kept_in f n) ≡ n
    all_taken g =
        slots.length_sorted_full (map f (range_with_len 0 n)) vacancy
        (λ i l. let hi : i < n = omega (arith, slots_length) in is_full i hi (g i hi))
        (λ i j l m e.
        let hi : i < n = omega (arith, slots_length) in
        let hj : j < n = omega (arith, slots_length) in
        distinct i j hi hj (g i hi) (g j hj) (ap (λ (x : Section). x.start) (sym (slot_at i hi)) ∙ e ∙ ap (λ (x : Section). x.start) (slot_at j hj)))
        ∙ slots_length

    pub first : (from t k : ℕ) → t < n → 0 < length (f t).rows → (f t).start ≡ k → from ≤ k
        → ((i : ℕ) → i < n → 0 < length (f i).rows → from ≤ (f i).start → k ≤ (f i).start) → first_from (kept_in f n) from ≡ Some k
    first from t k h q e le a =
        slots.first_at (map f (range_with_len 0 n)) from t k vacancy (omega (arith, slots_length)) (is_full t h q) (starts_at t k h e) le
        (unique t k h e (alone t k h q e)) (each (λ x. from ≤ x.start → k ≤ x.start) a)

-- A slot ready for a row of the section s, and what a new section may find.
no_rows : (xs : List Row) → length xs ≡ 0 → xs ≡ []
no_rows [] h = refl
no_rows (x ∷ xs) h = absurd (omega arith)

module _ (f : Pages) (n t s : ℕ) where
  pub ready_found : Distinct f n → t < n → 0 < length (f t).rows → (f t).start ≡ s → Ready f n t s
  ready_found d h q e = record { slot = h; same = λ _. e; alone = alone f n d t s h q e }

  pub ready_vacant : t < n → length (f t).rows ≡ 0 → Absent f n s → Ready f n t s
  ready_vacant h e a = record { slot = h; same = λ q. absurd (omega arith); alone = λ i hi ne. a i hi }

  module _ (ready : Ready f n t s) where
    nowhere : length (f t).rows ≡ 0 → Absent f n s
    nowhere e i hi q ei = ⊎_elim (λ z. omega (arith, e, subst (λ j. 0 < length (f j).rows) z q)) (λ ne. ready.alone i hi ne q ei) (cases_eq i t)

    pub ready_rows : rows_of (kept_in f n) s ≡ (f t).rows
    ready_rows =
        ⊎_elim
        (λ q. (found_alone f n t s ready.slot q (ready.same q) ready.alone).1)
        (λ q. let e : length (f t).rows ≡ 0 = omega arith in (absent f n s (nowhere e)).1 ∙ sym (no_rows (f t).rows e))
        (cases_lt 0 (length (f t).rows))

    pub ready_slot : (m : Meaning) → m.sections ≡ kept_in f n → m.limits.slots ≡ n → no_slot m s ≡ false
    ready_slot m e l =
        ⊎_elim
        (λ q. cond-true _ _ _ (ap (λ xs. is_kept xs s) e ∙ (found_alone f n t s ready.slot q (ready.same q) ready.alone).0))
        (λ q. let z : length (f t).rows ≡ 0 = omega arith in
        cond-false _ _ _ (ap (λ xs. is_kept xs s) e ∙ (absent f n s (nowhere z)).0)
        ∙ not_from_true _ (lt-ltb _ _ (omega (arith, ap length e, l, free_slot f n t ready.slot z))))
        (cases_lt 0 (length (f t).rows))

-- With every slot taken, a section that is not kept finds none.
pub no_slot_left : (f : Pages) (n s : ℕ) (m : Meaning) → m.sections ≡ kept_in f n → m.limits.slots ≡ n → Distinct f n → ((i : ℕ) → i < n → 0 < length (f i).rows) → Absent f n s → no_slot m s ≡ true
no_slot_left f n s m e l d g a =
    cond-false _ _ _ (ap (λ xs. is_kept xs s) e ∙ (absent f n s a).0) ∙ not_from_false _ (le-ltb _ _ (omega (arith, ap length e, l, all_taken f n d g)))

-- An append: one slot has one row more.
pub kept_grown : (f g : Pages) (n t s low : ℕ) (r : Row) → Ready f n t s → Grows f g n t s r → Rising low (kept_in f n) → kept_in g n ≡ placed (kept_in f n) s r
kept_grown f g n t s low r ready grows up =
    ap sorted (map_counting_set g f n t (record { start = s; rows = (f t).rows ++ r ∷ [] }) ready.slot grows.others grows.here)
    ∙ slots.sorted_set (map f (range_with_len 0 n)) t (record { start = s; rows = (f t).rows ++ r ∷ [] }) vacancy (omega (arith, slots_length f n, ready.slot)) (lt-ltb _ _ (simp length-append (omega arith)))
    (λ q. sym (starts_at f n t s ready.slot (ready.same (has_rows f n t ready.slot q))))
    (λ i l ne q e.
    let hi : i < n = omega (arith, slots_length f n) in
    ready.alone i hi ne (has_rows f n i hi q) (ap (λ (x : Section). x.start) (sym (slot_at f n i hi)) ∙ sym e))
    ∙ slots.put_placed low (kept_in f n) s r (f t).rows up (ready_rows f n t s ready)

-- A prune: each slot is left, or freed.
pub kept_pruned : (f g : Pages) (n m : ℕ) → ((i : ℕ) → i < n → g i ≡ pruned_slot m (f i)) → kept_in g n ≡ kept_from (kept_in f n) m
kept_pruned f g n m h =
    ap sorted (map_counting_same g (λ i. pruned_slot m (f i)) n h ∙ sym (map_map (pruned_slot m) f (range_with_len 0 n)))
    ∙ slots.sorted_pruned m (map f (range_with_len 0 n))

-- No slot taken.
pub none_kept : (f : Pages) (n : ℕ) → ((i : ℕ) → i < n → length (f i).rows ≡ 0) → kept_in f n ≡ []
none_kept f n h = empty_list (map f (range_with_len 0 n)) (λ i l. let hi : i < n = omega (arith, slots_length f n) in subst (λ (x : Section). full x ≡ false) (sym (slot_at f n i hi)) (le-ltb 0 (length (f i).rows) (omega (arith, h i hi))))
  where
    empty_list : (xs : List Section) → ((i : ℕ) → i < length xs → full (get_or xs i vacancy) ≡ false) → sorted xs ≡ []
    empty_list [] k = refl
    empty_list (x ∷ xs) k = let e = k 0 (omega arith) in simp e (empty_list xs (λ i l. k (suc i) (omega arith)))

-- A lawful meaning, from what holds of each slot.
pub lawful_pages : (f : Pages) (n : ℕ) (m : Meaning) → m.sections ≡ kept_in f n → m.limits.slots ≡ n → m.limits.width ≤ 32
    → ((i : ℕ) → i < n → 0 < length (f i).rows → m.floor ≤ (f i).start) → ((i : ℕ) → i < n → 0 < length (f i).rows → Within m.limits (f i)) → Lawful m
lawful_pages f n m e l w above within =
    record {
      narrow = w;
      slots = omega (arith, ap length e, l, slots.length_sorted (map f (range_with_len 0 n)), slots_length f n);
      rising = subst (Rising m.floor) (sym e) (rising f n m.floor above);
      within = subst (AllByRecursion (Within m.limits)) (sym e) (all_kept f n (Within m.limits) within);
    }
