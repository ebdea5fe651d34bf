-- A write inside one slot: what it makes of that slot's page and values, and that it leaves the others. Assumes nothing.
use Rattle.std.proofs.Common.{◌≡◌, ℕ, ◌+◌, ◌*◌, ◌^◌, ◌<◌, ◌≤◌, true, List, [], ◌∷◌, ◌++◌, length, sym, refl, ap, ◌∙◌, subst, ap₂, ⊎_elim, arith}
use Rattle.std.proofs.lemmas.Bool.{cases_eq, cases_order}
use Rattle.journal.specs.declared.limits.Limits.{Limits}
use Rattle.journal.specs.declared.row.Label.{Label}
use Rattle.journal.specs.Bytes.{chunk, put}
use Rattle.journal.specs.Meaning.{Row, Section, cost_of}
use Rattle.journal.specs.Calls.{new_row}
use Rattle.journal.proofs.Bytes.{length_chunk, length_put, chunk_put_before, chunk_put_after, step_le}
use Rattle.format.specs.Layout.{head_size, row_size, row_place, page_size, row_bytes, head_bytes, value_bytes, free_head}
use Rattle.format.specs.Decode.{page_place, page, start_of, count_of, zeros, is_free, first_rows, section_of}
use Rattle.format.specs.State.{View, page_in, vals_in, pages_in, count_in, start_in, used_in, stored}
use Rattle.format.specs.Well.{Laid, GoodPage, Well}
use Rattle.format.proofs.Bytes.{chunk_put_in, chunk_put_whole, length_value_bytes}
use Rattle.format.proofs.Rows.{length_row}
use Rattle.format.proofs.Grow.{Grown, grown, grown_page, length_head}

-- Equal parts of one list, one for each slot, and a write inside the part t.
module _ (size : ℕ) (all : List ℕ) (slots t : ℕ) (la : slots * size ≤ length all) (ht : t < slots)
    (a b : ℕ) (ys : List ℕ) (eb : b ≡ t * size + a) (fit : a + length ys ≤ size) where
  length_slot_put : length (put all b ys) ≡ length all
  length_slot_put = length_put all b ys (omega (arith, step_le t slots size ht))

  slot_put_same : chunk (put all b ys) (t * size) size ≡ put (chunk all (t * size) size) a ys
  slot_put_same = rw eb (chunk_put_in all a ys (t * size) size (omega arith) (omega (arith, step_le t slots size ht)))

  slot_put_other : (s : ℕ) → (s ≡ t → ⊥) → chunk (put all b ys) (s * size) size ≡ chunk all (s * size) size
  slot_put_other s ne =
      let w : b + length ys ≤ length all = omega (arith, step_le t slots size ht) in
      ⊎_elim
      (λ l. chunk_put_before all b ys (s * size) size w (omega (arith, step_le s t size l)))
      (λ l. chunk_put_after all b ys (s * size) size w (omega (arith, step_le t s size l)))
      (⊎_elim (λ e. absurd (ne e)) (λ o. o) (cases_order s t))

section_path : {a b : ℕ} {r q : List Row} → a ≡ b → r ≡ q → ◌≡◌ {A = Section} (record { start = a; rows = r }) (record { start = b; rows = q })
section_path e f = ap₂ (λ x y. record { start = x; rows = y }) e f

pub page_ends : (l : Limits) (es : List ℕ) → Laid l es → (t : ℕ) → t < l.slots → t * page_size l.rows l.width + page_size l.rows l.width ≤ length es
page_ends l es z t ht = omega (arith, z.long, step_le t l.slots (page_size l.rows l.width) ht)

pub length_page : (l : Limits) (es : List ℕ) → Laid l es → (t : ℕ) → t < l.slots → length (page l es t) ≡ page_size l.rows l.width
length_page l es z t ht = length_chunk es (t * page_size l.rows l.width) (page_size l.rows l.width) (page_ends l es z t ht)

pub vals_ends : (v : View) → Well v → (t : ℕ) → t < v.limits.slots → t * v.limits.bytes + v.limits.bytes ≤ length v.values
vals_ends v w t ht = omega (arith, w.long, step_le t v.limits.slots v.limits.bytes ht)

pub length_vals : (v : View) → Well v → (t : ℕ) → t < v.limits.slots → length (vals_in v t) ≡ v.limits.bytes
length_vals v w t ht = length_chunk v.values (t * v.limits.bytes) v.limits.bytes (vals_ends v w t ht)

-- Well again after a change of the slot t: each other page as before, and the new page good, with a start that no other has.
pub well_changed : (v v' : View) (t : ℕ) → Well v → v'.limits ≡ v.limits → v'.floor ≡ v.floor → length v'.entries ≡ length v.entries → length v'.values ≡ length v.values
    → GoodPage v.limits (page_in v' t) → ((s : ℕ) → (s ≡ t → ⊥) → page_in v' s ≡ page_in v s)
    → (0 < count_in v' t → (v.floor ≤ start_in v' t) × (start_in v' t < 2 ^ 64) × ((s : ℕ) → s < v.limits.slots → (s ≡ t → ⊥) → 0 < count_in v s → start_in v s ≡ start_in v' t → ⊥)) → Well v'
well_changed v v' t w el ef ee ev good old new =
    record {
      laid = subst (λ (l : Limits). Laid l v'.entries) (sym el) (record { small = w.laid.small; long = omega (arith, w.laid.long, ee) });
      long = subst (λ (l : Limits). l.slots * l.bytes ≤ length v'.values) (sym el) (omega (arith, w.long, ev));
      pages = λ s hs. subst (λ (l : Limits). GoodPage l (page_in v' s)) (sym el) (⊎_elim
          (λ e. subst (λ j. GoodPage v.limits (page_in v' j)) (sym e) good)
          (λ ne. subst (GoodPage v.limits) (sym (old s ne)) (w.pages s (low s hs)))
          (cases_eq s t));
      distinct = λ i j q h a b e. ⊎_elim
          (λ ei. let nj : j ≡ t → ⊥ = (λ z. omega arith) in
          (new (subst (λ m. 0 < count_in v' m) ei a)).2 j (low j h) nj (was j nj b) (sym (ap start_of (old j nj)) ∙ (sym e ∙ ap (start_in v') ei)))
          (λ ni. ⊎_elim
          (λ ej. (new (subst (λ m. 0 < count_in v' m) ej b)).2 i (low i (omega arith)) ni (was i ni a) (sym (ap start_of (old i ni)) ∙ (e ∙ ap (start_in v') ej)))
          (λ nj. w.distinct i j q (low j h) (was i ni a) (was j nj b) (sym (ap start_of (old i ni)) ∙ (e ∙ ap start_of (old j nj))))
          (cases_eq j t))
          (cases_eq i t);
      above = λ s hs a. ⊎_elim
          (λ e. let k = (new (subst (λ m. 0 < count_in v' m) e a)).0 in omega (arith, k, ap (start_in v') e, ef))
          (λ ne. omega (arith, w.above s (low s hs) (was s ne a), ap start_of (old s ne), ef))
          (cases_eq s t);
      starts = λ s hs a. ⊎_elim
          (λ e. let k = (new (subst (λ m. 0 < count_in v' m) e a)).1 in omega (arith, k, ap (start_in v') e))
          (λ ne. omega (arith, w.starts s (low s hs) (was s ne a), ap start_of (old s ne)))
          (cases_eq s t);
    }
  where
    low : (s : ℕ) → s < v'.limits.slots → s < v.limits.slots
    low s h = subst (λ (l : Limits). s < l.slots) el h

    was : (s : ℕ) → (s ≡ t → ⊥) → 0 < count_in v' s → 0 < count_in v s
    was s ne a = subst (λ q. 0 < count_of q) (old s ne) a

-- One row more in the slot t.
module _ (v : View) (well : Well v) (t : ℕ) (ht : t < v.limits.slots) (start : ℕ) (label : Label) (k x : List ℕ) (lk : length k ≡ v.limits.width)
    (room : count_in v t < v.limits.rows) (fits : used_in v t + cost_of (length x) ≤ v.limits.bytes)
    (ns : start < 2 ^ 64) (nn : label.number < 2 ^ 64) where
  abbrev l : Limits
  l = v.limits

  abbrev size : ℕ
  size = page_size v.limits.rows v.limits.width

  abbrev c : ℕ
  c = count_in v t

  abbrev u : ℕ
  u = used_in v t

  abbrev v' : View
  v' = stored v t start label k x

  abbrev row : List ℕ
  row = row_bytes label k (used_in v t) (cost_of (length x))

  abbrev head : List ℕ
  head = head_bytes start (count_in v t + 1)

  abbrev at : ℕ
  at = row_place v.limits.width (count_in v t)

  abbrev mid : List ℕ
  mid = put v.entries (page_place v.limits t + row_place v.limits.width (count_in v t)) (row_bytes label k (used_in v t) (cost_of (length x)))

  row_fit : at + length row ≤ size
  row_fit = omega (arith, length_row label v.limits.width k u (cost_of (length x)) lk, step_le c v.limits.rows (row_size v.limits.width) room)

  length_mid : length mid ≡ length v.entries
  length_mid = length_slot_put size v.entries v.limits.slots t well.laid.long ht at (page_place l t + at) row refl row_fit

  mid_long : v.limits.slots * size ≤ length mid
  mid_long = omega (arith, length_mid, well.laid.long)

  head_fit : 0 + length head ≤ size
  head_fit = omega (arith, length_head start (c + 1))

  head_place : page_place l t ≡ t * size + 0
  head_place = omega arith

  pub length_entries : length v'.entries ≡ length v.entries
  length_entries = length_slot_put size mid v.limits.slots t mid_long ht 0 (page_place l t) head head_place head_fit ∙ length_mid

  value_fit : u + length (value_bytes x) ≤ v.limits.bytes
  value_fit = omega (arith, length_value_bytes x)

  pub length_values : length v'.values ≡ length v.values
  length_values = length_slot_put v.limits.bytes v.values v.limits.slots t well.long ht u (t * v.limits.bytes + u) (value_bytes x) refl value_fit

  page_new : page_in v' t ≡ grown_page v.limits.width (page_in v t) c start label k u (cost_of (length x))
  page_new =
      slot_put_same size mid v.limits.slots t mid_long ht 0 (page_place l t) head head_place head_fit
      ∙ ap (λ q. put q 0 head) (slot_put_same size v.entries v.limits.slots t well.laid.long ht at (page_place l t + at) row refl row_fit)

  page_old : (s : ℕ) → (s ≡ t → ⊥) → page_in v' s ≡ page_in v s
  page_old s ne =
      slot_put_other size mid v.limits.slots t mid_long ht 0 (page_place l t) head head_place head_fit s ne
      ∙ slot_put_other size v.entries v.limits.slots t well.laid.long ht at (page_place l t + at) row refl row_fit s ne

  vals_new : vals_in v' t ≡ put (vals_in v t) u (value_bytes x)
  vals_new = slot_put_same v.limits.bytes v.values v.limits.slots t well.long ht u (t * v.limits.bytes + u) (value_bytes x) refl value_fit

  vals_old : (s : ℕ) → (s ≡ t → ⊥) → vals_in v' s ≡ vals_in v s
  vals_old s ne = slot_put_other v.limits.bytes v.values v.limits.slots t well.long ht u (t * v.limits.bytes + u) (value_bytes x) refl value_fit s ne

  rows_small : v.limits.rows < 2 ^ 31
  rows_small = omega (arith, well.laid.small.rows)

  bytes_small : v.limits.bytes < 2 ^ 31
  bytes_small = omega (arith, well.laid.small.bytes)

  long_page : length (page_in v t) ≡ size
  long_page = length_page v.limits v.entries well.laid t ht

  page_grown : Grown v.limits (page_in v t) (vals_in v t) (well.pages t ht) long_page (length_vals v well t ht) start label k x lk c refl room rows_small u refl fits bytes_small ns nn
  page_grown = grown v.limits (page_in v t) (vals_in v t) (well.pages t ht) long_page (length_vals v well t ht) start label k x lk c refl room rows_small u refl fits bytes_small ns nn

  pub section_new : pages_in v' t ≡ record { start = start; rows = (pages_in v t).rows ++ new_row label k x ∷ [] }
  section_new =
      ap₂ (section_of v.limits.width) page_new vals_new
      ∙ section_path page_grown.begins
      (ap (first_rows v.limits.width (grown_page v.limits.width (page_in v t) c start label k u (cost_of (length x))) (put (vals_in v t) u (value_bytes x))) page_grown.counts ∙ page_grown.holds)

  pub section_old : (s : ℕ) → (s ≡ t → ⊥) → pages_in v' s ≡ pages_in v s
  section_old s ne = ap₂ (section_of v.limits.width) (page_old s ne) (vals_old s ne)

  start_stored : start_in v' t ≡ start
  start_stored = ap start_of page_new ∙ page_grown.begins

  -- Byte pages with the row.
  pub record Kept : Type 0 where
    pub entries : length (stored v t start label k x).entries ≡ length v.entries
    pub values : length (stored v t start label k x).values ≡ length v.values
    pub here : pages_in (stored v t start label k x) t ≡ record { start = start; rows = (pages_in v t).rows ++ new_row label k x ∷ [] }
    pub others : (s : ℕ) → (s ≡ t → ⊥) → pages_in (stored v t start label k x) s ≡ pages_in v s
    pub again : ((s : ℕ) → s < v.limits.slots → (s ≡ t → ⊥) → 0 < count_in v s → start_in v s ≡ start → ⊥) → v.floor ≤ start → Well (stored v t start label k x)

  pub kept : Kept
  kept = record {
    entries = length_entries;
    values = length_values;
    here = section_new;
    others = section_old;
    again = λ alone fl. well_changed v v' t well refl refl length_entries length_values
        (subst (GoodPage v.limits) (sym page_new) page_grown.sure)
        page_old
        (λ _. (omega (arith, fl, start_stored), omega (arith, ns, start_stored), λ s hs ne a e. alone s hs ne a (e ∙ start_stored)));
  }

-- A slot freed.
module _ (l : Limits) (es : List ℕ) (long : l.slots * page_size l.rows l.width ≤ length es) (t : ℕ) (ht : t < l.slots) where
  abbrev span : ℕ
  span = page_size l.rows l.width

  free_fit : 0 + length free_head ≤ span
  free_fit = omega arith

  free_place : page_place l t ≡ t * span + 0
  free_place = omega arith

  pub length_freed : length (put es (page_place l t) free_head) ≡ length es
  length_freed = length_slot_put span es l.slots t long ht 0 (page_place l t) free_head free_place free_fit

  pub page_freed : page l (put es (page_place l t) free_head) t ≡ put (page l es t) 0 free_head
  page_freed = slot_put_same span es l.slots t long ht 0 (page_place l t) free_head free_place free_fit

  pub page_kept : (s : ℕ) → (s ≡ t → ⊥) → page l (put es (page_place l t) free_head) s ≡ page l es s
  page_kept = slot_put_other span es l.slots t long ht 0 (page_place l t) free_head free_place free_fit

pub free_page : (p : List ℕ) → head_size ≤ length p → is_free (put p 0 free_head) ≡ true
unfolding is_free
free_page p h = ap zeros (chunk_put_whole p 0 head_size free_head refl (omega arith))
