-- The mounting check against the facts that code rests on, both ways. Assumes nothing.
use Rattle.std.proofs.Common.{◌≡◌, ℕ, zero, suc, ◌*◌, ◌^◌, ◌<◌, ◌≤◌, Bool, true, false, cond, ◌&&◌, ◌==◌, eqb, ltb, ◌⊎◌, List, [], ◌∷◌, length, take, drop, Some, None, Option, sym, refl, ap, ◌∙◌, subst, inl, inr, ⊎_elim, eq-or-lt_of_le, arith}
use Rattle.std.proofs.lemmas.Bool.{cond_both, cond-true, cond-false, cases_Bool, and_parts, and_from, or_cases, or_left, or_right, eqb-true, eq-eqb, ltb-true, ltb-false, lt-ltb, le-ltb, leb-true, le-leb, true≢false, cases_eq}
use Rattle.std.proofs.lemmas.Option.{none-some}
use Rattle.journal.specs.declared.limits.Limits.{Limits}
use Rattle.journal.specs.declared.fault.JournalFault.{JournalFault}
use Rattle.journal.specs.declared.fault.JournalFault.TheVariants.{WrongSizes, BadHeader, BadRow}
use Rattle.journal.specs.Bytes.{chunk}
use Rattle.journal.specs.Meaning.{check_size}
use Rattle.journal.specs.Making.{in_range}
use Rattle.format.specs.Numbers.{be}
use Rattle.format.specs.Layout.{count_at, head_check_at, head_size, page_size}
use Rattle.format.specs.Decode.{page, start_of, count_of, zeros, is_free, row_at, used}
use Rattle.format.specs.Mount.{is_none, found, earliest, bears, head_right, head_good, row_fits, row_good, sound_rows, rows_fault, slot_fault, sized, mount_fault}
use Rattle.format.specs.State.{View, count_in, start_in, starts_good, no_limits, is_sound}
use Rattle.format.specs.Well.{Small, Laid, Checked, RowFits, GoodPage, Well}
use Rattle.format.proofs.Bytes.{chunk_inside}
use Rattle.format.proofs.Firsts.{is_none_true, earliest_none, none_earliest, found_none, none_found, passing_le, all_pass, each_passes}

pub above_zero : (n : ℕ) → (n ≡ 0 → ⊥) → 0 < n
above_zero zero h = absurd (h refl)
above_zero (suc n) h = omega arith

pub bears_true : (l : Limits) (es : List ℕ) (start s : ℕ) → bears l es start s ≡ true → (0 < count_of (page l es s)) × (start_of (page l es s) ≡ start)
bears_true l es start s h = let p = and_parts _ _ h in (ltb-true 0 (count_of (page l es s)) p.0, eqb-true _ _ p.1)

pub true_bears : (l : Limits) (es : List ℕ) (start s : ℕ) → 0 < count_of (page l es s) → start_of (page l es s) ≡ start → bears l es start s ≡ true
true_bears l es start s a b = and_from _ _ (lt-ltb _ _ a) (eq-eqb _ _ b)

-- A row.
pub fits_is : (w bytes o : ℕ) (b : List ℕ) → row_fits w bytes o b ≡ true → RowFits w bytes o b
unfolding row_fits
fits_is w bytes o b h =
    let x = and_parts _ _ h in let y = and_parts _ _ x.1 in let z = and_parts _ _ y.1 in
    record { check = eqb-true _ _ x.0; place = eqb-true _ _ y.0; some = leb-true _ _ z.0; room = leb-true _ _ z.1 }

pub is_fits : (w bytes o : ℕ) (b : List ℕ) → RowFits w bytes o b → row_fits w bytes o b ≡ true
unfolding row_fits
is_fits w bytes o b g = and_from _ _ (eq-eqb _ _ g.check) (and_from _ _ (eq-eqb _ _ g.place) (and_from _ _ (le-leb _ _ g.some) (le-leb _ _ g.room)))

if_none : (b : Bool) (o : Option JournalFault) (f : JournalFault) → cond b o (Some f) ≡ None → (b ≡ true) × (o ≡ None)
if_none true o f h = (refl, h)
if_none false o f h = absurd (none-some f (sym h))

-- A header of zeros has the row count 0.
both : (b c : Bool) → cond b c false ≡ true → (b ≡ true) × (c ≡ true)
both true c e = (refl, e)
both false c e = absurd (true≢false (sym e))

zeros_take : (n : ℕ) (xs : List ℕ) → zeros xs ≡ true → zeros (take n xs) ≡ true
zeros_take zero xs h = refl
zeros_take (suc n) [] h = refl
zeros_take (suc n) (x ∷ xs) h = let a = both (eqb x 0) (zeros xs) h in rw a.0 (zeros_take n xs a.1)

zeros_drop : (n : ℕ) (xs : List ℕ) → zeros xs ≡ true → zeros (drop n xs) ≡ true
zeros_drop zero xs h = h
zeros_drop (suc n) [] h = refl
zeros_drop (suc n) (x ∷ xs) h = zeros_drop n xs (both (eqb x 0) (zeros xs) h).1

zeros_be : (xs : List ℕ) → zeros xs ≡ true → be xs ≡ 0
zeros_be [] h = refl
zeros_be (x ∷ xs) h = let a = both (eqb x 0) (zeros xs) h in rw (eqb-true x 0 a.0) (zeros_be xs a.1)

pub free_count : (p : List ℕ) → is_free p ≡ true → count_of p ≡ 0
unfolding is_free count_of chunk
free_count p h =
    ap be (chunk_inside p 0 head_size count_at 4 count_at refl (omega arith))
    ∙ zeros_be (chunk (chunk p 0 head_size) count_at 4) (zeros_take 4 (drop count_at (chunk p 0 head_size)) (zeros_drop count_at (chunk p 0 head_size) h))

pub free_start : (p : List ℕ) → is_free p ≡ true → start_of p ≡ 0
unfolding is_free start_of chunk
free_start p h = ap be (chunk_inside p 0 head_size 0 8 0 refl (omega arith)) ∙ zeros_be (chunk (chunk p 0 head_size) 0 8) (zeros_take 8 (chunk p 0 head_size) h)

-- A header.
pub record Head (l : Limits) (es : List ℕ) (s : ℕ) : Type 0 where
  pub some : 0 < count_of (page l es s)
  pub few : count_of (page l es s) ≤ l.rows
  pub check : Checked (page l es s) head_check_at
  pub alone : found (bears l es (start_of (page l es s))) s ≡ None

pub head_is : (l : Limits) (es : List ℕ) (s : ℕ) → head_good l es s ≡ true → Head l es s
unfolding head_good head_right
head_is l es s h =
    let x = and_parts _ _ h in let a = and_parts _ _ x.0 in let b = and_parts _ _ a.1 in
    record { some = ltb-true _ _ a.0; few = leb-true _ _ b.0; check = eqb-true _ _ b.1; alone = is_none_true _ x.1 }

pub is_head : (l : Limits) (es : List ℕ) (s : ℕ) → Head l es s → head_good l es s ≡ true
unfolding head_good head_right
is_head l es s h = and_from _ _ (and_from _ _ (lt-ltb _ _ h.some) (and_from _ _ (le-leb _ _ h.few) (eq-eqb _ _ h.check))) (ap is_none h.alone)

-- What a slot without a fault is.
pub record Sure (l : Limits) (es : List ℕ) (s : ℕ) : Type 0 where
  pub good : GoodPage l (page l es s)
  pub alone : 0 < count_of (page l es s) → found (bears l es (start_of (page l es s))) s ≡ None

no_fault : (s good count : ℕ) → good ≤ count → rows_fault s good count ≡ None → good ≡ count
no_fault s good count h e =
    ⊎_elim (λ t. absurd (none-some (BadRow s good) (sym e ∙ cond-true (ltb good count) (Some (BadRow s good)) None t)))
    (λ t. let k = ltb-false good count t in omega arith) (cases_Bool (ltb good count))

module _ (l : Limits) (es : List ℕ) (s : ℕ) where
  abbrev p : List ℕ
  p = page l es s

  abbrev rest : Option JournalFault
  rest = cond (head_good l es s) (rows_fault s (sound_rows l (page l es s)) (count_of (page l es s))) (Some (BadHeader s))

  pub slot_sure : slot_fault l es s ≡ None → Sure l es s
  slot_sure h = ⊎_elim
      (λ f. let z = free_count p f in
      record { good = record { few = omega arith; free = λ _. f; head = λ q. absurd (omega arith); each = λ r q. absurd (omega arith) }; alone = λ q. absurd (omega arith) })
      (λ f. let k = if_none (head_good l es s) (rows_fault s (sound_rows l p) (count_of p)) (BadHeader s) (sym (cond-false (is_free p) None rest f) ∙ h) in
      let d = head_is l es s k.0 in
      let e = no_fault s (sound_rows l p) (count_of p) (passing_le (row_good l.width l.bytes p) (count_of p)) k.1 in
      record {
        good = record {
          few = d.few;
          free = λ z. absurd (omega (arith, d.some));
          head = λ _. d.check;
          each = λ r q. fits_is l.width l.bytes (used l.width p r) (row_at l.width p r) (each_passes (row_good l.width l.bytes p) (count_of p) e r q);
        };
        alone = λ _. d.alone;
      })
      (cases_Bool (is_free p))

  pub sure_slot : Sure l es s → slot_fault l es s ≡ None
  sure_slot q = ⊎_elim
      (λ (z : count_of p ≡ 0). cond-true (is_free p) None rest (q.good.free z))
      (λ (z : count_of p ≡ 0 → ⊥).
      let n : 0 < count_of p = above_zero (count_of p) z in
      let e = all_pass (row_good l.width l.bytes p) (count_of p) (λ r h. is_fits l.width l.bytes (used l.width p r) (row_at l.width p r) (q.good.each r h)) in
      cond_both (is_free p) None rest (λ o. o ≡ None) (λ _. refl)
      (λ _. cond-true (head_good l es s) (rows_fault s (sound_rows l p) (count_of p)) (Some (BadHeader s)) (is_head l es s (record { some = n; few = q.good.few; check = q.good.head n; alone = q.alone n }))
      ∙ cond-false (ltb (sound_rows l p) (count_of p)) (Some (BadRow s (sound_rows l p))) None (le-ltb _ _ (omega arith))))
      (cases_eq (count_of p) 0)

-- Limits and lengths.
pub record Ranged (l : Limits) (n m : ℕ) : Type 0 where
  pub slots_some : 1 ≤ l.slots
  pub slots_few : l.slots ≤ 64
  pub rows_some : 1 ≤ l.rows
  pub rows_few : l.rows ≤ 1024
  pub bytes_some : check_size ≤ l.bytes
  pub bytes_few : l.bytes ≤ 65536
  pub width_some : 1 ≤ l.width
  pub width_few : l.width ≤ 32
  pub entries : n ≡ l.slots * page_size l.rows l.width
  pub values : m ≡ l.slots * l.bytes

pub ranged_is : (l : Limits) (n m : ℕ) → sized l n m ≡ true → Ranged l n m
unfolding sized
ranged_is l n m h =
    let x = and_parts _ _ h in let y = and_parts _ _ x.1 in
    let a = and_parts _ _ x.0 in let b = and_parts _ _ a.1 in let c = and_parts _ _ b.1 in
    let a' = and_parts _ _ a.0 in let b' = and_parts _ _ b.0 in let c' = and_parts _ _ c.0 in let d' = and_parts _ _ c.1 in
    record {
      slots_some = leb-true _ _ a'.0;
      slots_few = leb-true _ _ a'.1;
      rows_some = leb-true _ _ b'.0;
      rows_few = leb-true _ _ b'.1;
      bytes_some = leb-true _ _ c'.0;
      bytes_few = leb-true _ _ c'.1;
      width_some = leb-true _ _ d'.0;
      width_few = leb-true _ _ d'.1;
      entries = eqb-true _ _ y.0;
      values = eqb-true _ _ y.1;
    }

pub is_ranged : (l : Limits) (n m : ℕ) → Ranged l n m → sized l n m ≡ true
unfolding sized
is_ranged l n m r =
    and_from _ _
    (and_from _ _ (and_from _ _ (le-leb _ _ r.slots_some) (le-leb _ _ r.slots_few))
    (and_from _ _ (and_from _ _ (le-leb _ _ r.rows_some) (le-leb _ _ r.rows_few))
    (and_from _ _ (and_from _ _ (le-leb _ _ r.bytes_some) (le-leb _ _ r.bytes_few))
    (and_from _ _ (le-leb _ _ r.width_some) (le-leb _ _ r.width_few)))))
    (and_from _ _ (eq-eqb _ _ r.entries) (eq-eqb _ _ r.values))

-- The test of limits and lengths, part by part.
pub out_of_range : (l : Limits) (n m : ℕ) → in_range l ≡ false → sized l n m ≡ false
unfolding sized
out_of_range l n m h = ap (λ b. b && (n == l.slots * page_size l.rows l.width && m == l.slots * l.bytes)) h

pub right_lengths : (l : Limits) (n m : ℕ) → in_range l ≡ true → n ≡ l.slots * page_size l.rows l.width → m ≡ l.slots * l.bytes → sized l n m ≡ true
unfolding sized
right_lengths l n m h e f = and_from _ _ h (and_from _ _ (eq-eqb _ _ e) (eq-eqb _ _ f))

pub wrong_lengths : (l : Limits) (n m : ℕ) → (Ranged l n m → ⊥) → sized l n m ≡ false
wrong_lengths l n m h = ⊎_elim (λ e. absurd (h (ranged_is l n m e))) (λ e. e) (cases_Bool (sized l n m))

pub fault_of_sizes : (l : Limits) (es vs : List ℕ) → sized l (length es) (length vs) ≡ false → mount_fault l es vs ≡ Some WrongSizes
fault_of_sizes l es vs h = cond-false (sized l (length es) (length vs)) (earliest (slot_fault l es) l.slots) (Some WrongSizes) h

pub small_is : (l : Limits) (n m : ℕ) → Ranged l n m → Small l
small_is l n m r = record { slots = r.slots_few; rows = r.rows_few; bytes = r.bytes_few; width = r.width_few }

pub laid_is : (l : Limits) (es : List ℕ) (m : ℕ) → Ranged l (length es) m → Laid l es
laid_is l es m r = record { small = small_is l (length es) m r; long = omega (arith, r.entries) }

-- What a mounting accepts.
pub accepted_is : (l : Limits) (es vs : List ℕ) → mount_fault l es vs ≡ None → Ranged l (length es) (length vs) × ((s : ℕ) → s < l.slots → Sure l es s)
accepted_is l es vs h =
    let k = if_none (sized l (length es) (length vs)) (earliest (slot_fault l es) l.slots) WrongSizes h in
    (ranged_is l (length es) (length vs) k.0, λ s q. slot_sure l es s (earliest_none (slot_fault l es) l.slots k.1 s q))

pub is_accepted : (l : Limits) (es vs : List ℕ) → Ranged l (length es) (length vs) → ((s : ℕ) → s < l.slots → Sure l es s) → mount_fault l es vs ≡ None
is_accepted l es vs r h =
    cond-true (sized l (length es) (length vs)) (earliest (slot_fault l es) l.slots) (Some WrongSizes) (is_ranged l (length es) (length vs) r)
    ∙ none_earliest (slot_fault l es) l.slots (λ s q. sure_slot l es s (h s q))

pub well_sure : (v : View) → Well v → (s : ℕ) → s < v.limits.slots → Sure v.limits v.entries s
well_sure v w s h = record { good = w.pages s h; alone = λ a. none_found (bears v.limits v.entries (start_in v s)) s (λ i q. not_bears i (λ b c. w.distinct i s q h b a c)) }
  where
    not_bears : (i : ℕ) → (0 < count_in v i → start_in v i ≡ start_in v s → ⊥) → bears v.limits v.entries (start_in v s) i ≡ false
    not_bears i n =
        ⊎_elim (λ e. let q = bears_true v.limits v.entries (start_in v s) i e in absurd (n q.0 q.1)) (λ e. e) (cases_Bool (bears v.limits v.entries (start_in v s) i))

abbrev Starts : View → ℕ → Type 0
Starts v s = 0 < count_in v s → (v.floor ≤ start_in v s) × (start_in v s < 2 ^ 64)

pub sure_well : (v : View) → Laid v.limits v.entries → v.limits.slots * v.limits.bytes ≤ length v.values → ((s : ℕ) → s < v.limits.slots → Sure v.limits v.entries s)
    → ((s : ℕ) → s < v.limits.slots → 0 < count_in v s → (v.floor ≤ start_in v s) × (start_in v s < 2 ^ 64)) → Well v
sure_well v z n h a = record {
  laid = z;
  long = n;
  pages = λ s q. (h s q).good;
  distinct = λ s t q m b c e. true≢false (sym (true_bears v.limits v.entries (start_in v t) s b e) ∙ found_none (bears v.limits v.entries (start_in v t)) t ((h t m).alone c) s q);
  above = λ s q b. (a s q b).0;
  starts = λ s q b. (a s q b).1;
}

starts_are : (v : View) (n : ℕ) → starts_good v n ≡ true → (s : ℕ) → s < n → Starts v s
starts_are v zero h s q a = absurd (omega arith)
starts_are v (suc n) h s q a =
    let p = and_parts _ _ h in
    ⊎_elim
    (λ e. subst (Starts v) (sym e)
    (λ b. ⊎_elim (λ z. absurd (omega (arith, eqb-true _ _ z))) (λ z. let k = and_parts _ _ z in (leb-true _ _ k.0, ltb-true _ _ k.1)) (or_cases _ _ p.1)) a)
    (λ e. starts_are v n p.0 s e a)
    (eq-or-lt_of_le {n = s} {m = n} (omega arith))

are_starts : (v : View) (n : ℕ) → ((s : ℕ) → s < n → Starts v s) → starts_good v n ≡ true
are_starts v zero h = refl
are_starts v (suc n) h =
    and_from _ _ (are_starts v n (λ s q. h s (omega arith)))
    (⊎_elim (λ z. or_left _ _ (eq-eqb _ _ z))
    (λ z. or_right _ _ (let k = h n (omega arith) (above_zero (count_in v n) z) in and_from _ _ (le-leb _ _ k.0) (lt-ltb _ _ k.1)))
    (cases_eq (count_in v n) 0))

-- Limits 0.
pub record Naught (l : Limits) : Type 0 where
  pub slots : l.slots ≡ 0
  pub rows : l.rows ≡ 0
  pub bytes : l.bytes ≡ 0
  pub width : l.width ≡ 0

naught_is : (l : Limits) → no_limits l ≡ true → Naught l
unfolding no_limits
naught_is l h = let a = and_parts _ _ h in let b = and_parts _ _ a.1 in let c = and_parts _ _ b.1 in
    record { slots = eqb-true _ _ a.0; rows = eqb-true _ _ b.0; bytes = eqb-true _ _ c.0; width = eqb-true _ _ c.1 }

is_naught : (l : Limits) → Naught l → no_limits l ≡ true
unfolding no_limits
is_naught l n = and_from _ _ (eq-eqb _ _ n.slots) (and_from _ _ (eq-eqb _ _ n.rows) (and_from _ _ (eq-eqb _ _ n.bytes) (eq-eqb _ _ n.width)))

-- The one test that stands for all the facts.
pub sound_ranged : (v : View) → is_sound v ≡ true → Naught v.limits ⊎ Ranged v.limits (length v.entries) (length v.values)
unfolding is_sound
sound_ranged v h = ⊎_elim (λ e. inl (naught_is v.limits e)) (λ e. inr (accepted_is v.limits v.entries v.values (is_none_true _ e)).0) (or_cases _ _ (and_parts _ _ h).0)

pub sound_well : (v : View) → is_sound v ≡ true → Well v
unfolding is_sound
sound_well v h =
    ⊎_elim
    (λ e. let n = naught_is v.limits e in
    let z = n.slots in
    record {
      laid = record { small = record { slots = omega arith; rows = omega (arith, n.rows); bytes = omega (arith, n.bytes); width = omega (arith, n.width) }; long = rw z (omega arith) };
      long = rw z (omega arith);
      pages = λ s q. absurd (omega arith);
      distinct = λ s t q m. absurd (omega arith);
      above = λ s q. absurd (omega arith);
      starts = λ s q. absurd (omega arith);
    })
    (λ e. let a = accepted_is v.limits v.entries v.values (is_none_true _ e) in
    sure_well v (laid_is v.limits v.entries (length v.values) a.0) (omega (arith, a.0.values)) a.1 (starts_are v v.limits.slots (and_parts _ _ h).1))
    (or_cases _ _ (and_parts _ _ h).0)

pub well_sound : (v : View) → Well v → Ranged v.limits (length v.entries) (length v.values) → is_sound v ≡ true
unfolding is_sound
well_sound v w r =
    and_from _ _ (or_right _ _ (ap is_none (is_accepted v.limits v.entries v.values r (well_sure v w)))) (are_starts v v.limits.slots (λ s q b. (w.above s q b, w.starts s q b)))

pub naught_sound : (v : View) → Naught v.limits → is_sound v ≡ true
unfolding is_sound
naught_sound v n = and_from _ _ (or_left _ _ (is_naught v.limits n)) (are_starts v v.limits.slots (λ s q. absurd (omega (arith, n.slots))))

-- The same limits and lengths, and well: sound again.
pub sound_again : (v v' : View) → is_sound v ≡ true → Well v' → v'.limits ≡ v.limits → length v'.entries ≡ length v.entries → length v'.values ≡ length v.values → is_sound v' ≡ true
sound_again v v' s w e a b =
    ⊎_elim
    (λ n. naught_sound v' (subst Naught (sym e) n))
    (λ r. well_sound v' w
    (subst (λ (l : Limits). Ranged l (length v'.entries) (length v'.values)) (sym e)
    (subst (λ n. Ranged v.limits n (length v'.values)) (sym a) (subst (λ m. Ranged v.limits (length v.entries) m) (sym b) r))))
    (sound_ranged v s)
