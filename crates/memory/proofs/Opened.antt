-- From the tables v of an opened journal to the same tables w, as its contracts see them. Assumes nothing.
use Rattle.std.proofs.Common.{◌≡◌, ℕ, ◌+◌, ◌*◌, ◌^◌, ◌<◌, ◌≤◌, max, Bool, List, ◌++◌, map, length, take, drop, None, Option, MatchOption, Ok, Err, Result, sym, refl, ap, ◌∙◌, subst, arith}
use Rattle.std.specs.List.{fold, list_any}
use Rattle.std.specs.Option.{ok_or}
use Rattle.journal.specs.declared.row.Label.{Label}
use Rattle.journal.specs.declared.fault.JournalFault.{JournalFault}
use Rattle.journal.specs.declared.fault.JournalFault.TheVariants.{NoSlot}
use Rattle.journal.specs.Bytes.{put}
use Rattle.journal.specs.Making.{checked}
use Rattle.journal.specs.Meaning.{Row, row_at, rows_of, first_from}
use Rattle.journal.specs.Slots.{nearest, goes}
use Rattle.memory_layout.specs.View.{View, Well, Holds, Nowhere, Vacant, AllTaken, Lies, Goes, Stores, Drops, head, kept_row, meaning_of, next_at, stored, room_fault, pruned_head, with_heads}
use Rattle.memory_layout.specs.declared.head.Head.{Head}
use Rattle.memory_layout.proofs.Room.{row_within, next_fits, row_fits}
use Rattle.memory_layout.proofs.Seen.{rows_length, found, row_found, row_past, first_folded}
use Rattle.memory_layout.proofs.Prune.{pruned_front}
use Rattle.memory_layout.proofs.Appends.{none_free, full, has_place, takes, none_found, fault_found}

module _ (v w : View) (e : v ≡ w) (well : Well v) where
  pub row_lies : (t s p : ℕ) → Holds w t s → p < (head v t).count → Lies w s p (kept_row v t p)
  row_lies t s p h l =
      subst (λ (x : View). Holds x t s → Lies x s p (kept_row v t p)) e
      (λ f. record { row = row_found v well t s p f l; within = row_within v well t p f.slot l }) h

  pub row_over : (t s p : ℕ) → Holds w t s → (head v t).count ≤ p → row_at (meaning_of w) s p ≡ None
  row_over t s p h l = subst (λ (x : View). Holds x t s → row_at (meaning_of x) s p ≡ None) e (λ f. row_past v well t s p f l) h

  pub counted_rows : (t s : ℕ) → Holds w t s → (head v t).count ≡ length (rows_of (meaning_of w).sections s)
  counted_rows t s h =
      subst (λ (x : View). Holds x t s → (head v t).count ≡ length (rows_of (meaning_of x).sections s)) e
      (λ f. sym (ap (λ (rs : List Row). length rs) (found v well t s f) ∙ rows_length v t)) h

  pub first_seen : (from : ℕ) → fold (λ (b : Option ℕ) (x : Head). nearest b x.count x.start from) None (take v.slots v.heads) ≡ first_from (meaning_of w).sections from
  first_seen from = first_folded v well from ∙ ap (λ (x : View). first_from (meaning_of x).sections from) e

  pub pruned_so : (min : ℕ) (gone : Bool) (front : List Head) (floor : ℕ) → gone ≡ list_any (λ (x : Head). goes min x.count x.start) (take v.slots v.heads)
      → front ≡ map (pruned_head min) (take v.slots v.heads) → floor ≡ max v.floor min → Drops w (with_heads v (front ++ drop v.slots v.heads) floor) min gone
  pruned_so min gone front floor g f l = rw (f, l) (subst (λ (x : View). Drops x (with_heads v (map (pruned_head min) (take v.slots v.heads) ++ drop v.slots v.heads) (max v.floor min)) min gone) e (pruned_front v well min gone g))

  -- An append where no slot is free.
  pub crowded : (s : ℕ) (label : Label) (key value : List ℕ) (f : JournalFault) (r : Option ℕ) → length key ≡ v.width → v.floor ≤ s → Nowhere w s
      → MatchOption r (AllTaken w) (Vacant w) → r ≡ None → Err f ≡ ok_or r (NoSlot s) → Stores w w s label key value (Err f)
  crowded s label key value f r lk fl g m n a =
      let t : AllTaken w = rw n at m in
      let b : ◌≡◌ {A = Result ℕ JournalFault} (Err f) (Err (NoSlot s)) = a ∙ ap (λ (o : Option ℕ). ok_or o (NoSlot s)) n in
      let q : f ≡ NoSlot s = cc in
      rw q (subst (λ (x : View). AllTaken x → Nowhere x s → Stores x x s label key value (Err (NoSlot s))) e
      (λ h k. none_free v s label key value well lk fl h k) t g)

  -- An append to the slot where it goes, by what the check of its room found.
  module _ (t s : ℕ) (label : Label) (key value : List ℕ) (goes : Goes w t s key) where
    here : Goes v t s key
    here = subst (λ (x : View). Goes x t s key) (sym e) goes

    pub refused : (f : JournalFault) → checked (room_fault (head v t) (length value) v.rows v.limit s) ≡ Err f → Stores w w s label key value (Err f)
    refused f h = subst (λ (x : View). Stores x x s label key value (Err f)) e (full v t s label key value well here f (fault_found _ f h))

    module _ (found : checked (room_fault (head v t) (length value) v.rows v.limit s) ≡ Ok tt) where
      pub row_in : (next_at v t + length key ≤ length v.bytes) × (next_at v t + v.width + length value ≤ length v.bytes)
      row_in =
          let p = has_place v t s label key value well here (none_found _ found) in
          let f = next_fits v well t (length value) here.ready.slot p.0 p.1 in
          (omega (arith, f, here.wide), omega (arith, f))

      pub place_in : t * v.rows + (head v t).count < length v.records
      place_in =
          let p = has_place v t s label key value well here (none_found _ found) in
          row_fits v well t (length value) here.ready.slot p.0 p.1

      pub pushed : (keyed valued : List ℕ) → s < 2 ^ 64 → keyed ≡ put v.bytes (next_at v t) key → valued ≡ put keyed (next_at v t + v.width) value
          → Stores w (record (stored v t s label key value) { bytes = valued }) s label key value (Ok (head v t).count)
      pushed keyed valued low a b =
          subst (λ (x : View). Stores x (record (stored v t s label key value) { bytes = valued }) s label key value (Ok (head v t).count)) e
          (takes v t s label key value well here (none_found _ found) low _ _
          (ap (λ (bs : List ℕ). record (stored v t s label key value) { bytes = bs }) (b ∙ ap (λ (bs : List ℕ). put bs (next_at v t + v.width) value) a)) refl)
