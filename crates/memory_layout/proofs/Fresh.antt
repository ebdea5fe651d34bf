-- Empty tables. Assumes nothing.
use Rattle.std.proofs.Common.{◌≡◌, ℕ, ◌+◌, ◌*◌, ◌^◌, ◌<◌, ◌≤◌, List, map, length, get_or, replicate, sym, refl, ap, ◌∙◌, subst, ap₂, arith}
use lib.ListN.{length-replicate, get_or-replicate}
use Rattle.std.specs.List.{range_with_len}
use Rattle.journal.specs.Meaning.{Section, cost}
use Rattle.journal.specs.Making.{empty}
use Rattle.journal.proofs.Pages.{none_kept}
use Rattle.memory_layout.specs.declared.head.Head.{Head}
use Rattle.memory_layout.specs.View.{View, Well, Small, head, kept_row, row_of, pages, limits_of, meaning_of, free}

module _ (v : View) (small : Small (limits_of v)) (area : v.area ≡ v.rows * v.width + v.limit)
    (places : length v.records ≡ v.slots * v.rows) (room : length v.bytes ≡ v.slots * (v.rows * v.width + v.limit))
    (heads : v.heads ≡ replicate 64 free) (floor : v.floor ≡ 0) where
  all_free : (s : ℕ) → s < v.slots → free ≡ head v s
  all_free s h = sym (ap (λ (hs : List Head). get_or hs s free) heads ∙ get_or-replicate 64 s free free (omega (arith, small.0)))

  by : (P : Head → Type 0) (s : ℕ) → s < v.slots → P free → P (head v s)
  by P s h p = subst P (all_free s h) p

  pub fresh_well : Well v
  fresh_well =
      record {
        slots_few = small.0;
        rows_few = small.1;
        limit_few = small.2;
        width_few = small.3;
        area_is = area;
        heads_len = ap length heads ∙ length-replicate 64 free;
        records_len = places;
        bytes_len = room ∙ ap (λ (n : ℕ). v.slots * n) (sym area);
        counts = λ s h. by (λ x. x.count ≤ v.rows) s h (omega arith);
        costs = λ s h. by (λ x. x.cost ≡ cost (map (λ r. row_of v.bytes v.width (kept_row v s r)) (range_with_len 0 x.count))) s h refl;
        bounded = λ s h. by (λ x. x.cost ≤ v.limit) s h (omega arith);
        begins = λ s r h. by (λ x. r < x.count → s * v.area ≤ (kept_row v s r).at) s h.0 (λ l. absurd (omega arith)) h.1;
        ends = λ s r h. by (λ x. r < x.count → (kept_row v s r).at + v.width + (kept_row v s r).length ≤ s * v.area + x.count * v.width + x.cost) s h.0 (λ l. absurd (omega arith)) h.1;
        distinct = λ s t h. by (λ x. 0 < x.count → s ≡ t) s h.0 (λ l. absurd (omega arith)) h.2;
        above = λ s h. by (λ x. v.floor ≤ x.start) s h.0 (omega arith);
        starts = λ s h. by (λ x. x.start < 2 ^ 64) s h (omega arith);
      }

  pub fresh_means : meaning_of v ≡ empty (limits_of v)
  fresh_means =
      ap₂ (λ (xs : List Section) (f : ℕ). record { limits = limits_of v; floor = f; sections = xs })
      (none_kept (pages v) v.slots (λ s h. by (λ x. length (map (λ r. row_of v.bytes v.width (kept_row v s r)) (range_with_len 0 x.count)) ≡ 0) s h refl))
      floor
