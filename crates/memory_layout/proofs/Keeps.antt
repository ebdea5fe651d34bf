-- That one row more leaves the tables well. Assumes nothing.
use Rattle.std.proofs.Common.{◌≡◌, ℕ, ◌+◌, ◌*◌, ◌^◌, ◌<◌, ◌≤◌, List, length, sym, ap, ◌∙◌, subst, ⊎_elim, add-mul, one-mul, arith, length-set}
use Rattle.std.proofs.lemmas.Bool.{cases_eq, cases_lt}
use Rattle.journal.specs.declared.row.Label.{Label}
use Rattle.journal.specs.Meaning.{cost, cost_of}
use Rattle.journal.proofs.Laws.{cost_push}
use Rattle.memory_layout.specs.declared.record.RowRecord.{RowRecord}
use Rattle.memory_layout.specs.declared.head.Head.{Head}
use Rattle.memory_layout.specs.View.{View, Well, Counts, Costs, Bounded, Begins, Ends, Apart, Above, Starts, head, kept_row, rows_in, next_at, stored}
use Rattle.memory_layout.proofs.Store.{after, new_row, bytes_length, head_new, head_old, record_new, record_other, record_before, rows_other, rows_same}

module _ (v : View) (well : Well v) (t start : ℕ) (label : Label) (key value : List ℕ) (ht : t < v.slots) (hc : (head v t).count < v.rows)
    (hk : (head v t).cost + cost_of (length value) ≤ v.limit) (lk : length key ≡ v.width)
    (others : (s : ℕ) → s < v.slots → (s ≡ t → ⊥) → 0 < (head v s).count → (head v s).start ≡ start → ⊥)
    (fl : v.floor ≤ start) (ns : start < 2 ^ 64) where
  abbrev A : View
  A = after v well t start label key value ht hc hk lk

  abbrev new : Head
  new = record { start = start; count = (head v t).count + 1; cost = (head v t).cost + cost_of (length value) }

  hn : head A t ≡ new
  hn = head_new v well t start label key value ht hc hk lk

  ho : (s : ℕ) → (s ≡ t → ⊥) → head A s ≡ head v s
  ho = head_old v well t start label key value ht hc hk lk

  by_slot : (P : ℕ → Type 0) → P t → ((s : ℕ) → s < v.slots → (s ≡ t → ⊥) → P s) → (s : ℕ) → s < v.slots → P s
  by_slot P a b s hs = ⊎_elim (λ e. subst P (sym e) a) (λ ne. b s hs ne) (cases_eq s t)

  counts : Counts A
  counts = by_slot (λ s. (head A s).count ≤ v.rows) (subst (λ (h : Head). h.count ≤ v.rows) (sym hn) (omega arith)) (λ s hs ne. subst (λ (h : Head). h.count ≤ v.rows) (sym (ho s ne)) (well.counts s hs))

  costs : Costs A
  costs = by_slot (λ s. (head A s).cost ≡ cost (rows_in A s))
      (ap (λ (h : Head). h.cost) hn ∙ (omega (arith, well.costs t ht, cost_push (rows_in v t) (new_row v well t start label key value ht hc hk lk))) ∙ ap cost (sym (rows_same v well t start label key value ht hc hk lk)))
      (λ s hs ne. ap (λ (h : Head). h.cost) (ho s ne) ∙ well.costs s hs ∙ ap cost (sym (rows_other v well t start label key value ht hc hk lk s hs ne)))

  bounded : Bounded A
  bounded = by_slot (λ s. (head A s).cost ≤ v.limit) (subst (λ (h : Head). h.cost ≤ v.limit) (sym hn) (omega arith)) (λ s hs ne. subst (λ (h : Head). h.cost ≤ v.limit) (sym (ho s ne)) (well.bounded s hs))

  -- of each kept row: by the slot, and in the slot t by whether it is the new one
  by_row : (P : ℕ → Head → RowRecord → Type 0)
      → ((r : ℕ) → r < (head v t).count → P t new (kept_row v t r)) → P t new (record { label = label; at = next_at v t; length = length value })
      → ((s r : ℕ) → s < v.slots → r < (head v s).count → P s (head v s) (kept_row v s r))
      → (s r : ℕ) → s < v.slots → r < (head A s).count → P s (head A s) (kept_row A s r)
  by_row P a b o s r hs hr =
      by_slot (λ s. r < (head A s).count → P s (head A s) (kept_row A s r))
      (λ q. let n : r < (head v t).count + 1 = subst (λ (h : Head). r < h.count) hn q in
      subst (λ (h : Head). P t h (kept_row A t r)) (sym hn)
      (⊎_elim
      (λ l. subst (P t new) (sym (record_before v well t start label key value ht hc hk lk r l)) (a r l))
      (λ l. let e : r ≡ (head v t).count = omega arith in
      subst (λ k. P t new (kept_row A t k)) (sym e) (subst (P t new) (sym (record_new v well t start label key value ht hc hk lk)) b))
      (cases_lt r (head v t).count)))
      (λ s hs ne q. let n : r < (head v s).count = subst (λ (h : Head). r < h.count) (ho s ne) q in
      subst (λ (h : Head). P s h (kept_row A s r)) (sym (ho s ne)) (subst (P s (head v s)) (sym (record_other v well t start label key value ht hc hk lk s r hs ne n)) (o s r hs n)))
      s hs hr

  begins : Begins A
  begins s r h =
      by_row (λ s h k. s * v.area ≤ k.at) (λ r hr. well.begins t r (ht, hr)) (omega arith) (λ s r hs hr. well.begins s r (hs, hr)) s r h.0 h.1

  ends : Ends A
  ends s r h =
      by_row (λ s h k. k.at + v.width + k.length ≤ s * v.area + h.count * v.width + h.cost)
      (λ r hr. omega (arith, well.ends t r (ht, hr), add-mul (head v t).count 1 v.width, one-mul v.width))
      (omega (arith, add-mul (head v t).count 1 v.width, one-mul v.width))
      (λ s r hs hr. well.ends s r (hs, hr)) s r h.0 h.1

  distinct : Apart A
  distinct s u h =
      ⊎_elim
      (λ e. ⊎_elim (λ f. e ∙ sym f)
      (λ nf. absurd (others u h.1 nf (subst (λ (x : Head). 0 < x.count) (ho u nf) h.3)
      (ap (λ (x : Head). x.start) (sym (ho u nf)) ∙ sym h.4 ∙ ap (λ q. (head A q).start) e ∙ ap (λ (x : Head). x.start) hn)))
      (cases_eq u t))
      (λ ne. ⊎_elim
      (λ f. absurd (others s h.0 ne (subst (λ (x : Head). 0 < x.count) (ho s ne) h.2)
      (ap (λ (x : Head). x.start) (sym (ho s ne)) ∙ h.4 ∙ ap (λ q. (head A q).start) f ∙ ap (λ (x : Head). x.start) hn)))
      (λ nf. well.distinct s u (
        h.0,
        h.1,
        subst (λ (x : Head). 0 < x.count) (ho s ne) h.2,
        subst (λ (x : Head). 0 < x.count) (ho u nf) h.3,
        ap (λ (x : Head). x.start) (sym (ho s ne)) ∙ h.4 ∙ ap (λ (x : Head). x.start) (ho u nf),
      ))
      (cases_eq u t))
      (cases_eq s t)

  above : Above A
  above s h =
      by_slot (λ s. 0 < (head A s).count → v.floor ≤ (head A s).start)
      (λ q. subst (λ (x : Head). v.floor ≤ x.start) (sym hn) fl)
      (λ s hs ne q. subst (λ (x : Head). v.floor ≤ x.start) (sym (ho s ne)) (well.above s (hs, subst (λ (x : Head). 0 < x.count) (ho s ne) q)))
      s h.0 h.1

  starts : Starts A
  starts = by_slot (λ s. (head A s).start < 2 ^ 64) (subst (λ (h : Head). h.start < 2 ^ 64) (sym hn) ns) (λ s hs ne. subst (λ (h : Head). h.start < 2 ^ 64) (sym (ho s ne)) (well.starts s hs))

  pub well_after : Well (stored v t start label key value)
  well_after =
      record {
        slots_few = well.slots_few;
        rows_few = well.rows_few;
        limit_few = well.limit_few;
        width_few = well.width_few;
        area_is = well.area_is;
        heads_len = length-set v.heads t new ∙ well.heads_len;
        records_len = length-set v.records (t * v.rows + (head v t).count) _ ∙ well.records_len;
        bytes_len = bytes_length v well t start label key value ht hc hk lk ∙ well.bytes_len;
        counts = counts;
        costs = costs;
        bounded = bounded;
        begins = begins;
        ends = ends;
        distinct = distinct;
        above = above;
        starts = starts;
      }
