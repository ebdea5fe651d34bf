-- An append, from the facts that the code finds. Assumes nothing.
use Rattle.std.proofs.Common.{◌≡◌, ℕ, ◌+◌, ◌^◌, ◌<◌, ◌≤◌, true, false, List, length, Some, None, Ok, Err, Option, Result, MatchResult, sym, refl, ap, ◌∙◌, subst, inl, inr, ⊎_elim, arith}
use Rattle.std.proofs.lemmas.Bool.{eqb-true, eq-eqb, true≢false}
use Rattle.std.specs.Option.{ok_or}
use Rattle.journal.specs.declared.row.Label.{Label}
use Rattle.journal.specs.declared.fault.JournalFault.{JournalFault}
use Rattle.journal.specs.declared.fault.JournalFault.TheVariants.{WrongWidth, BelowFloor, NoSlot, RowsFull, BytesFull}
use Rattle.journal.specs.Meaning.{Section, cost, cost_of, rows_of}
use Rattle.journal.specs.Calls.{append_fault, no_slot, new_row}
use Rattle.journal.specs.Slots.{kept_in, Ready}
use Rattle.journal.proofs.Refusals as refusals
use Rattle.journal.proofs.Pages as slots
use Rattle.format.specs.Mount.{found, bears, empty_at}
use Rattle.format.specs.State.{View, page_in, pages_in, meaning_of, count_in, used_in, is_sound, stored, Takes}
use Rattle.format.specs.Well.{Well, IsFull, Stores}
use Rattle.format.proofs.Firsts.{found_some, found_none}
use Rattle.format.proofs.Mounting.{above_zero, bears_true, free_count, sound_well, sound_again}
use Rattle.format.proofs.Slots.{kept}
use Rattle.format.proofs.Meanings.{rows_length, counted, taken, cost_rows, distinct, absent}

-- The slot that a row goes to.
ready : (v : View) (t start : ℕ) → Well v → Takes v t start → Ready (pages_in v) v.limits.slots t start
ready v t start w k =
    ⊎_elim
    (λ b. let f = bears_true v.limits v.entries start t b in slots.ready_found (pages_in v) v.limits.slots t start (distinct v w) k.slot (counted v t f.0) f.1)
    (λ b. slots.ready_vacant (pages_in v) v.limits.slots t start k.slot (rows_length v t ∙ free_count (page_in v t) b.0) (absent v start b.1))
    k.own

pub takes_found : (v : View) (t start : ℕ) → Some t ≡ found (bears v.limits v.entries start) v.limits.slots → Takes v t start
takes_found v t start e = let f = found_some (bears v.limits v.entries start) v.limits.slots t (sym e) in record { slot = f.0; own = inl f.1 }

pub takes_vacant : (v : View) (t start : ℕ) → Well v → None ≡ found (bears v.limits v.entries start) v.limits.slots → Some t ≡ found (empty_at v.limits v.entries) v.limits.slots → Takes v t start
takes_vacant v t start w n e =
    let f = found_some (empty_at v.limits v.entries) v.limits.slots t (sym e) in
    record { slot = f.0; own = inr ((w.pages t f.0).free (eqb-true _ _ f.1), sym n) }

-- A section that lies nowhere goes to a free slot, where there is one.
pub vacant_or : (v : View) (start : ℕ) → Well v → (o : Option ℕ) (r : Result ℕ JournalFault) → None ≡ found (bears v.limits v.entries start) v.limits.slots
    → o ≡ found (empty_at v.limits v.entries) v.limits.slots → r ≡ ok_or o (NoSlot start) → MatchResult r (λ t. Takes v t start) (λ f. (f ≡ NoSlot start) × IsFull v start)
vacant_or v start w None r n e h = rw h (refl, record { absent = n; taken = e })
vacant_or v start w (Some t) r n e h = rw h (takes_vacant v t start w n e)

-- A refusal leaves the bytes.
pub refuses : (v : View) (start : ℕ) (label : Label) (key value : List ℕ) (e : JournalFault) → is_sound v ≡ true → append_fault (meaning_of v) start key value ≡ Some e → Stores v v start label key value (Err e)
refuses v start label key value e s h =
    let k = refusals.refused (meaning_of v) start key value label e h in record { sound = s; answer = k.0; after = k.1; bytes = refl }

pub wrong_width : (v : View) (start : ℕ) (label : Label) (key value : List ℕ) → is_sound v ≡ true → (length key ≡ v.limits.width → ⊥) → Stores v v start label key value (Err WrongWidth)
wrong_width v start label key value s h = refuses v start label key value WrongWidth s (refusals.fault_width (meaning_of v) start key value h)

module _ (v : View) (start : ℕ) (label : Label) (key value : List ℕ) (s : is_sound v ≡ true) (lk : length key ≡ v.limits.width) where
  pub below_floor : start < v.floor → Stores v v start label key value (Err (BelowFloor start))
  below_floor h = refuses v start label key value (BelowFloor start) s (refusals.fault_floor (meaning_of v) start key value lk h)

  module _ (fl : v.floor ≤ start) where
    pub none_free : IsFull v start → Stores v v start label key value (Err (NoSlot start))
    none_free q =
        let w = sound_well v s in
        let some : (i : ℕ) → i < v.limits.slots → 0 < count_in v i =
        λ i h. above_zero (count_in v i) (λ e. true≢false (sym (eq-eqb (count_in v i) 0 e) ∙ found_none (empty_at v.limits v.entries) v.limits.slots (sym q.taken) i h)) in
        refuses v start label key value (NoSlot start) s
        (refusals.fault_slot (meaning_of v) start key value lk fl
        (slots.no_slot_left (pages_in v) v.limits.slots start (meaning_of v) refl refl (distinct v w) (λ i h. counted v i (some i h)) (absent v start (sym q.absent))))

    module _ (t : ℕ) (k : Takes v t start) where
      well : Well v
      well = sound_well v s

      goes : Ready (pages_in v) v.limits.slots t start
      goes = ready v t start well k

      rows_are : rows_of (kept_in (pages_in v) v.limits.slots) start ≡ (pages_in v t).rows
      rows_are = slots.ready_rows (pages_in v) v.limits.slots t start goes

      costs : cost (rows_of (kept_in (pages_in v) v.limits.slots) start) ≡ used_in v t
      costs = ap cost rows_are ∙ cost_rows v well t k.slot

      counts : length (rows_of (kept_in (pages_in v) v.limits.slots) start) ≡ count_in v t
      counts = ap length rows_are ∙ rows_length v t

      room : no_slot (meaning_of v) start ≡ false
      room = slots.ready_slot (pages_in v) v.limits.slots t start goes (meaning_of v) refl refl

      pub rows_full : v.limits.rows ≤ count_in v t → Stores v v start label key value (Err (RowsFull start))
      rows_full h = refuses v start label key value (RowsFull start) s (refusals.fault_rows (meaning_of v) start key value lk fl room (omega (arith, counts)))

      module _ (hc : count_in v t < v.limits.rows) where
        pub bytes_full : v.limits.bytes < used_in v t + cost_of (length value) → Stores v v start label key value (Err (BytesFull start))
        bytes_full h = refuses v start label key value (BytesFull start) s (refusals.fault_bytes (meaning_of v) start key value lk fl room (omega (arith, counts)) (omega (arith, costs)))

        pub takes : used_in v t + cost_of (length value) ≤ v.limits.bytes → start < 2 ^ 64 → label.number < 2 ^ 64
            → (v' : View) (n : ℕ) → v' ≡ stored v t start label key value → n ≡ count_in v t → Stores v v' start label key value (Ok n)
        takes hk ns nn v' n e q =
            let r = refusals.taken (meaning_of v) start key value label (refusals.fault_none (meaning_of v) start key value lk fl room (omega (arith, counts)) (omega (arith, costs))) in
            let others = λ (i : ℕ) (hi : i < v.limits.slots) (ne : i ≡ t → ⊥) (c : 0 < count_in v i). goes.alone i hi ne (counted v i c) in
            let s' = kept v well t k.slot start label key value lk hc hk ns nn in
            let g = slots.kept_grown (pages_in v) (pages_in (stored v t start label key value)) v.limits.slots t start v.floor (new_row label key value) goes
            (record { here = s'.here; others = λ i hi ne. s'.others i ne })
            (slots.rising (pages_in v) v.limits.slots v.floor (λ i hi a. well.above i hi (taken v i a))) in
            subst (λ (x : View). Stores v x start label key value (Ok n)) (sym e)
            (record {
              sound = sound_again v (stored v t start label key value) s (s'.again others fl) refl s'.entries s'.values;
              answer = ap (λ (i : ℕ). Ok i) (q ∙ sym counts) ∙ r.0;
              after = ap (λ (xs : List Section). record { limits = v.limits; floor = v.floor; sections = xs }) g ∙ r.1;
              bytes = (t, k, refl);
            })
