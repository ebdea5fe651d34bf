-- What the meaning has, seen from the heads. Assumes nothing.
use Rattle.std.proofs.Common.{◌≡◌, ℕ, zero, suc, ◌+◌, ◌<◌, ◌≤◌, List, [], map, length, take, Some, None, Option, sym, refl, ap, ◌∙◌, ap₂, add-one, arith}
use Rattle.std.specs.List.{range_with_len, slice_get, fold, AllByRecursion}
use Rattle.std.proofs.lemmas.List.FromFn.{length-map-range_with_len, get_or-map-range_with_len}
use Rattle.std.proofs.lemmas.Option.{slice_get-get_or, slice_get_past}
use Rattle.std.proofs.lemmas.List.Sums.{fold_more}
use Rattle.journal.specs.Meaning.{Row, rows_of, row_at, first_from, Lawful}
use Rattle.journal.specs.Slots.{Distinct, Absent, kept_in, nearest, first_of}
use Rattle.journal.proofs.Bytes.{length_chunk}
use Rattle.journal.proofs.Pages as pages_have
use Rattle.journal.proofs.Search.{first_is}
use Rattle.memory_layout.specs.declared.head.Head.{Head}
use Rattle.memory_layout.specs.View.{View, Well, Holds, Nowhere, free, head, kept_row, row_of, rows_in, pages, meaning_of}
use Rattle.memory_layout.proofs.Room.{row_within}

module _ (v : View) where
  pub rows_length : (s : ℕ) → length (rows_in v s) ≡ (head v s).count
  rows_length s = length-map-range_with_len (λ r. row_of v.bytes v.width (kept_row v s r)) 0 (head v s).count

  -- A head's count, for the rows that a page has.
  pub counted : (s : ℕ) → 0 < (head v s).count → 0 < length (rows_in v s)
  counted s h = omega (arith, rows_length s)

  pub has : (s : ℕ) → 0 < length (rows_in v s) → 0 < (head v s).count
  has s h = omega (arith, rows_length s)

  pub absent : (s : ℕ) → Nowhere v s → Absent (pages v) v.slots s
  absent s f i h q e = f i h (has i q) e

  pub missing : (s : ℕ) → Nowhere v s → rows_of (kept_in (pages v) v.slots) s ≡ []
  missing s f = (pages_have.absent (pages v) v.slots s (absent s f)).1

  pub row_none : (s p : ℕ) → Nowhere v s → row_at (meaning_of v) s p ≡ None
  row_none s p f = ap (λ (rs : List Row). slice_get rs p) (missing s f)

module _ (v : View) (well : Well v) where
  pub distinct : Distinct (pages v) v.slots
  distinct i j hi hj qi qj e = well.distinct i j (hi, hj, has v i qi, has v j qj, e)

  -- The rows of a section, by the slot that holds it.
  pub found : (t s : ℕ) → Holds v t s → rows_of (kept_in (pages v) v.slots) s ≡ rows_in v t
  found t s h = (pages_have.found (pages v) v.slots distinct t s h.slot (counted v t h.taken) h.start).1

  -- The row at a place.
  pub row_found : (t s p : ℕ) → Holds v t s → p < (head v t).count → row_at (meaning_of v) s p ≡ Some (row_of v.bytes v.width (kept_row v t p))
  row_found t s p h hp =
      ap (λ (rs : List Row). slice_get rs p) (found t s h)
      ∙ slice_get-get_or (rows_in v t) p (row_of v.bytes v.width (kept_row v t p)) (omega (arith, rows_length v t))
      ∙ ap (λ r. Some r) (get_or-map-range_with_len (λ r. row_of v.bytes v.width (kept_row v t r)) 0 (head v t).count p p (row_of v.bytes v.width (kept_row v t p)) hp (omega arith))

  pub row_past : (t s p : ℕ) → Holds v t s → (head v t).count ≤ p → row_at (meaning_of v) s p ≡ None
  row_past t s p h hp = ap (λ (rs : List Row). slice_get rs p) (found t s h) ∙ slice_get_past (rows_in v t) p (omega (arith, rows_length v t))

  keys : (s : ℕ) → s < v.slots → AllByRecursion (λ (r : Row). length r.key ≡ v.width) (map (λ r. row_of v.bytes v.width (kept_row v s r)) (range_with_len 0 (head v s).count))
  keys s hs = all_counted (λ r. row_of v.bytes v.width (kept_row v s r)) 0 (head v s).count (λ r a b. length_chunk v.bytes (kept_row v s r).at v.width (omega (arith, row_within v well s r hs (omega arith))))
    where
      all_counted : (f : ℕ → Row) (a n : ℕ) → ((r : ℕ) → a ≤ r → r < a + n → length (f r).key ≡ v.width) → AllByRecursion (λ (r : Row). length r.key ≡ v.width) (map f (range_with_len a n))
      all_counted f a zero h = tt
      all_counted f a (suc n) h = (h a (omega arith) (omega arith), all_counted f (a + 1) n (λ r l m. h r (omega arith) (omega arith)))

  pub above : (i : ℕ) → i < v.slots → 0 < length (rows_in v i) → v.floor ≤ (head v i).start
  above i h q = well.above i (h, has v i q)

  pub lawful : Lawful (meaning_of v)
  lawful =
      pages_have.lawful_pages (pages v) v.slots (meaning_of v) refl refl well.width_few above
      (λ s h f. record {
        start = well.starts s h;
        some = f;
        rows = omega (arith, rows_length v s, well.counts s h);
        bytes = omega (arith, well.costs s h, well.bounded s h);
        keys = keys s h;
      })

  -- The first start, from one head after another.
  first_upto : (from n : ℕ) → n ≤ v.slots → fold (λ (b : Option ℕ) (h : Head). nearest b h.count h.start from) None (take n v.heads) ≡ first_of (pages v) from n
  first_upto from zero l = refl
  first_upto from (suc n) l =
      let near : Option ℕ → Head → Option ℕ = λ b h. nearest b h.count h.start from in
      ap (λ (k : ℕ). fold near None (take k v.heads)) (sym (add-one n))
      ∙ fold_more near None v.heads n free (omega (arith, well.heads_len, well.slots_few))
      ∙ ap₂ (λ (b : Option ℕ) (k : ℕ). nearest b k (head v n).start from) (first_upto from n (omega arith)) (sym (rows_length v n))

  pub first_folded : (from : ℕ) → fold (λ (b : Option ℕ) (h : Head). nearest b h.count h.start from) None (take v.slots v.heads) ≡ first_from (meaning_of v).sections from
  first_folded from = first_upto from v.slots (omega arith) ∙ first_is (pages v) from v.slots distinct
