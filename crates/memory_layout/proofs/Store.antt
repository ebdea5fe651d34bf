-- One row more in a slot: what it leaves, and what it means. Assumes nothing.
use Rattle.std.proofs.Common.{◌≡◌, ℕ, ◌+◌, ◌*◌, ◌<◌, ◌≤◌, ◌⊎◌, List, [], ◌∷◌, ◌++◌, map, length, ap, ◌∙◌, subst, ap₂, inl, inr, ⊎_elim, arith}
use Rattle.std.specs.List.{range_with_len}
use Rattle.std.proofs.lemmas.List.{get_or-set_same, get_or-set_other}
use Rattle.std.proofs.lemmas.Bool.{cases_order}
use Rattle.std.proofs.lemmas.List.FromFn.{map-range_with_len_more}
use Rattle.journal.specs.declared.row.Label.{Label}
use Rattle.journal.specs.Bytes.{chunk, put}
use Rattle.journal.specs.Meaning.{Row, sound, cost_of}
use Rattle.journal.specs.Slots.{Grows}
use Rattle.journal.proofs.Bytes.{length_put, chunk_put_same, chunk_put_before, chunk_put_after, step_le}
use Rattle.journal.proofs.Pages.{map_counting_same}
use Rattle.memory_layout.specs.declared.record.RowRecord.{RowRecord}
use Rattle.memory_layout.specs.declared.head.Head.{Head}
use Rattle.memory_layout.specs.View.{View, Well, head, kept_row, row_of, rows_in, pages, next_at, stored, free, blank}
use Rattle.memory_layout.proofs.Room.{next_ends, next_fits, row_fits, row_ends}

module _ (v : View) (well : Well v) (t start : ℕ) (label : Label) (key value : List ℕ) (ht : t < v.slots) (hc : (head v t).count < v.rows)
    (hk : (head v t).cost + cost_of (length value) ≤ v.limit) (lk : length key ≡ v.width) where
  abbrev pub after : View
  after = stored v t start label key value

  abbrev pub new_row : Row
  new_row = record { label = label; key = key; content = sound value }

  ends_in : next_at v t + v.width + cost_of (length value) ≤ t * v.area + v.area
  ends_in = next_ends v well t (length value) ht hc hk

  fits_in : next_at v t + v.width + cost_of (length value) ≤ length v.bytes
  fits_in = next_fits v well t (length value) ht hc hk

  fits_first : next_at v t + length key ≤ length v.bytes
  fits_first = omega (arith, fits_in, lk)

  mid_length : length (put v.bytes (next_at v t) key) ≡ length v.bytes
  mid_length = length_put v.bytes (next_at v t) key fits_first

  fits_second : next_at v t + v.width + length value ≤ length (put v.bytes (next_at v t) key)
  fits_second = omega (arith, fits_in, mid_length)

  pub bytes_length : length after.bytes ≡ length v.bytes
  bytes_length = length_put (put v.bytes (next_at v t) key) (next_at v t + v.width) value fits_second ∙ mid_length

  -- what lies apart from the new row is left
  chunk_left : (a n : ℕ) → (a + n ≤ next_at v t) ⊎ (next_at v t + v.width + length value ≤ a) → chunk after.bytes a n ≡ chunk v.bytes a n
  chunk_left a n (inl l) =
      chunk_put_before (put v.bytes (next_at v t) key) (next_at v t + v.width) value a n fits_second (omega arith)
      ∙ chunk_put_before v.bytes (next_at v t) key a n fits_first l
  chunk_left a n (inr l) =
      chunk_put_after (put v.bytes (next_at v t) key) (next_at v t + v.width) value a n fits_second l
      ∙ chunk_put_after v.bytes (next_at v t) key a n fits_first (omega (arith, lk))

  row_left : (r : RowRecord) → (r.at + v.width + r.length ≤ next_at v t) ⊎ (next_at v t + v.width + length value ≤ r.at)
      → row_of after.bytes v.width r ≡ row_of v.bytes v.width r
  row_left r (inl l) =
      ap₂ (λ (k : List ℕ) (c : List ℕ). record { label = r.label; key = k; content = sound c })
      (chunk_left r.at v.width (inl (omega arith))) (chunk_left (r.at + v.width) r.length (inl l))
  row_left r (inr l) =
      ap₂ (λ (k : List ℕ) (c : List ℕ). record { label = r.label; key = k; content = sound c })
      (chunk_left r.at v.width (inr l)) (chunk_left (r.at + v.width) r.length (inr (omega arith)))

  pub head_new : head after t ≡ record { start = start; count = (head v t).count + 1; cost = (head v t).cost + cost_of (length value) }
  head_new = get_or-set_same v.heads t _ free (omega (arith, well.heads_len, well.slots_few))

  pub head_old : (s : ℕ) → (s ≡ t → ⊥) → head after s ≡ head v s
  head_old s ne = get_or-set_other v.heads t s _ free ne

  pub record_new : kept_row after t (head v t).count ≡ record { label = label; at = next_at v t; length = length value }
  record_new = get_or-set_same v.records (t * v.rows + (head v t).count) _ blank (row_fits v well t (length value) ht hc hk)

  record_old : (s r : ℕ) → (s * v.rows + r ≡ t * v.rows + (head v t).count → ⊥) → kept_row after s r ≡ kept_row v s r
  record_old s r ne = get_or-set_other v.records (t * v.rows + (head v t).count) (s * v.rows + r) _ blank ne

  -- a row of another slot
  pub record_other : (s r : ℕ) → s < v.slots → (s ≡ t → ⊥) → r < (head v s).count → kept_row after s r ≡ kept_row v s r
  record_other s r hs ne hr =
      record_old s r (⊎_elim (λ e. absurd (ne e)) (⊎_elim
      (λ l e. omega (arith, step_le s t v.rows l, well.counts s hs))
      (λ l e. omega (arith, step_le t s v.rows l)))
      (cases_order s t))

  apart_other : (s r : ℕ) → s < v.slots → (s ≡ t → ⊥) → r < (head v s).count
      → ((kept_row v s r).at + v.width + (kept_row v s r).length ≤ next_at v t) ⊎ (next_at v t + v.width + length value ≤ (kept_row v s r).at)
  apart_other s r hs ne hr =
      ⊎_elim (λ e. absurd (ne e)) (⊎_elim
      (λ l. inl (omega (arith, step_le s t v.area l, row_ends v well s r hs hr)))
      (λ l. inr (omega (arith, step_le t s v.area l, ends_in, well.begins s r (hs, hr)))))
      (cases_order s t)

  pub rows_other : (s : ℕ) → s < v.slots → (s ≡ t → ⊥) → rows_in after s ≡ rows_in v s
  rows_other s hs ne =
      ap (λ (h : Head). map (λ r. row_of after.bytes v.width (kept_row after s r)) (range_with_len 0 h.count)) (head_old s ne)
      ∙ map_counting_same (λ r. row_of after.bytes v.width (kept_row after s r)) (λ r. row_of v.bytes v.width (kept_row v s r)) (head v s).count
      (λ r hr. ap (λ q. row_of after.bytes v.width q) (record_other s r hs ne hr) ∙ row_left (kept_row v s r) (apart_other s r hs ne hr))

  pub record_before : (r : ℕ) → r < (head v t).count → kept_row after t r ≡ kept_row v t r
  record_before r hr = record_old t r (λ e. omega arith)

  row_is : row_of after.bytes v.width (kept_row after t (head v t).count) ≡ new_row
  row_is =
      ap (λ q. row_of after.bytes v.width q) record_new
      ∙ ap₂ (λ (k : List ℕ) (c : List ℕ). record { label = label; key = k; content = sound c })
      (chunk_put_before (put v.bytes (next_at v t) key) (next_at v t + v.width) value (next_at v t) v.width fits_second (omega arith)
      ∙ subst (λ w. chunk (put v.bytes (next_at v t) key) (next_at v t) w ≡ key) lk (chunk_put_same v.bytes (next_at v t) key fits_first))
      (chunk_put_same (put v.bytes (next_at v t) key) (next_at v t + v.width) value fits_second)

  pub rows_same : rows_in after t ≡ rows_in v t ++ new_row ∷ []
  rows_same =
      ap (λ (h : Head). map (λ r. row_of after.bytes v.width (kept_row after t r)) (range_with_len 0 h.count)) head_new
      ∙ map-range_with_len_more (λ r. row_of after.bytes v.width (kept_row after t r)) 0 (head v t).count (head v t).count (omega arith)
      ∙ ap₂ (λ (a : List Row) (b : Row). a ++ b ∷ [])
      (map_counting_same (λ r. row_of after.bytes v.width (kept_row after t r)) (λ r. row_of v.bytes v.width (kept_row v t r)) (head v t).count
      (λ r hr. ap (λ q. row_of after.bytes v.width q) (record_before r hr) ∙ row_left (kept_row v t r) (inl (well.ends t r (ht, hr)))))
      row_is

  pub grows : Grows (pages v) (pages after) v.slots t start new_row
  grows =
      record {
        here = ap₂ (λ (a : ℕ) (b : List Row). record { start = a; rows = b }) (ap (λ (h : Head). h.start) head_new) rows_same;
        others = λ s hs ne. ap₂ (λ (a : ℕ) (b : List Row). record { start = a; rows = b }) (ap (λ (h : Head). h.start) (head_old s ne)) (rows_other s hs ne);
      }
