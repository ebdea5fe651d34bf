-- An append, from the facts that the code finds. Assumes nothing.
use Rattle.std.proofs.Common.{◌≡◌, ℕ, ◌+◌, ◌^◌, ◌<◌, ◌≤◌, false, leb, List, length, Some, None, Ok, Err, Option, sym, refl, ap, ◌∙◌, subst, arith}
use Rattle.std.proofs.lemmas.Bool.{cond_both, leb-true, leb-false}
use Rattle.journal.specs.declared.row.Label.{Label}
use Rattle.journal.specs.declared.fault.JournalFault.{JournalFault}
use Rattle.journal.specs.declared.fault.JournalFault.TheVariants.{NoSlot}
use Rattle.journal.specs.Meaning.{Section, cost, cost_of, rows_of}
use Rattle.journal.specs.Calls.{append_fault, no_slot}
use Rattle.journal.specs.Making.{checked}
use Rattle.journal.specs.Slots.{Ready, kept_in}
use Rattle.journal.proofs.Laws.{accepted}
use Rattle.journal.proofs.Refusals as refusals
use Rattle.journal.proofs.Pages as pages_have
use Rattle.memory_layout.specs.View.{View, Well, Nowhere, AllTaken, Goes, Stores, head, pages, limits_of, meaning_of, stored, room_fault}
use Rattle.memory_layout.proofs.Store.{grows}
use Rattle.memory_layout.proofs.Keeps.{well_after}
use Rattle.memory_layout.proofs.Seen.{rows_length, counted, absent, distinct, above}

-- What a check of a fault that may be none found.
pub none_found : (o : Option JournalFault) → checked o ≡ Ok tt → o ≡ None
none_found None h = refl
none_found (Some f) h = cc

pub fault_found : (o : Option JournalFault) (f : JournalFault) → checked o ≡ Err f → o ≡ Some f
fault_found None f h = cc
fault_found (Some g) f h = cc

-- A refusal leaves the tables.
pub refuses : (v : View) (s : ℕ) (label : Label) (key value : List ℕ) (e : JournalFault) → Well v → append_fault (meaning_of v) s key value ≡ Some e → Stores v v s label key value (Err e)
refuses v s label key value e well h =
    let k = refusals.refused (meaning_of v) s key value label e h in record { well = well; answer = k.0; after = k.1 }

pub none_free : (v : View) (s : ℕ) (label : Label) (key value : List ℕ) → Well v → length key ≡ v.width → v.floor ≤ s
    → AllTaken v → Nowhere v s → Stores v v s label key value (Err (NoSlot s))
none_free v s label key value well lk fl f g =
    refuses v s label key value (NoSlot s) well
    (refusals.fault_slot (meaning_of v) s key value lk fl
    (pages_have.no_slot_left (pages v) v.slots s (meaning_of v) refl refl (distinct v well) (λ i h. counted v i (f i h)) (absent v s g)))

module _ (v : View) (t s : ℕ) (label : Label) (key value : List ℕ) (well : Well v) (goes : Goes v t s key) where
  abbrev ready : Ready (pages v) v.slots t s
  ready = goes.ready

  abbrev fl : v.floor ≤ s
  fl = goes.floor

  abbrev lk : length key ≡ v.width
  lk = goes.wide

  rows_are : rows_of (kept_in (pages v) v.slots) s ≡ (pages v t).rows
  rows_are = pages_have.ready_rows (pages v) v.slots t s ready

  sees : cost (rows_of (kept_in (pages v) v.slots) s) ≡ (head v t).cost
  sees = ap cost rows_are ∙ sym (well.costs t ready.slot)

  counts : length (rows_of (kept_in (pages v) v.slots) s) ≡ (head v t).count
  counts = ap length rows_are ∙ rows_length v t

  room : no_slot (meaning_of v) s ≡ false
  room = pages_have.ready_slot (pages v) v.slots t s ready (meaning_of v) refl refl

  -- The slot's own tests are what is left of the refusals.
  pub left_over : append_fault (meaning_of v) s key value ≡ room_fault (head v t) (length value) v.rows v.limit s
  left_over =
      cond_both (leb v.rows (head v t).count) _ _ (λ o. append_fault (meaning_of v) s key value ≡ o)
      (λ e. refusals.fault_rows (meaning_of v) s key value lk fl room (omega (arith, counts, leb-true _ _ e)))
      (λ e. cond_both (leb ((head v t).cost + cost_of (length value)) v.limit) _ _ (λ o. append_fault (meaning_of v) s key value ≡ o)
      (λ q. refusals.fault_none (meaning_of v) s key value lk fl room (omega (arith, counts, leb-false _ _ e)) (omega (arith, sees, leb-true _ _ q)))
      (λ q. refusals.fault_bytes (meaning_of v) s key value lk fl room (omega (arith, counts, leb-false _ _ e)) (omega (arith, sees, leb-false _ _ q))))

  pub full : (f : JournalFault) → room_fault (head v t) (length value) v.rows v.limit s ≡ Some f → Stores v v s label key value (Err f)
  full f h = refuses v s label key value f well (left_over ∙ h)

  -- What an accepted row may rest on.
  pub has_place : room_fault (head v t) (length value) v.rows v.limit s ≡ None → ((head v t).count < v.rows) × ((head v t).cost + cost_of (length value) ≤ v.limit)
  has_place h = let a = accepted (meaning_of v) s key value (left_over ∙ h) in (omega (arith, counts, a.rows), omega (arith, sees, a.bytes))

  pub takes : room_fault (head v t) (length value) v.rows v.limit s ≡ None → s < 2 ^ 64
      → (v' : View) (n : ℕ) → v' ≡ stored v t s label key value → n ≡ (head v t).count → Stores v v' s label key value (Ok n)
  takes h ns v' n e q =
      let a = has_place h in
      let k = refusals.taken (meaning_of v) s key value label (left_over ∙ h) in
      let g = pages_have.kept_grown (pages v) (pages (stored v t s label key value)) v.slots t s v.floor _ ready
      (grows v well t s label key value ready.slot a.0 a.1 lk) (pages_have.rising (pages v) v.slots v.floor (above v well)) in
      subst (λ (w : View). Stores v w s label key value (Ok n)) (sym e)
      (record {
        well = well_after v well t s label key value ready.slot a.0 a.1 lk (λ i hi ne c. ready.alone i hi ne (counted v i c)) fl ns;
        answer = ap (λ (i : ℕ). Ok i) (q ∙ sym counts) ∙ k.0;
        after = ap (λ (xs : List Section). record { limits = limits_of v; floor = v.floor; sections = xs }) g ∙ k.1;
      })
