-- Two accepted puts into different sections: in either order the same answers and the same state. Assumes nothing.
use Rattle.std.proofs.Common.{◌≡◌, ℕ, ◌+◌, Bool, true, false, cond, not, ◌&&◌, ◌||◌, ltb, ◌⊎◌, List, [], ◌∷◌, ◌++◌, length, Some, None, Ok, Option, Result, sym, refl, ap, ◌∙◌, subst, inl, inr, arith}
use Rattle.std.proofs.lemmas.Bool.Decides.{nat_tests}
use Rattle.std.proofs.lemmas.Bool.{both_ways, eqb-true}
use Rattle.journal.specs.declared.row.Label.{Label}
use Rattle.journal.specs.declared.fault.JournalFault.{JournalFault}
use Rattle.journal.specs.Meaning.{Meaning, Row, Section, is_kept, rows_of}
use Rattle.journal.specs.Calls.{or_fault, or_keep, placed, no_slot, append_fault, new_row, with_row}
use Rattle.journal.proofs.Rows.{rows_placed_other}
use Rattle.journal.proofs.Laws.{length_placed, accepted}
use Rattle.rules.specs.declared.answer.Put.{Put}
use Rattle.rules.specs.declared.answer.Put.TheVariants.{BelowFloor, AlreadyThere}
use Rattle.rules.specs.declared.answer.Reply.TheVariants as reply
use Rattle.rules.specs.declared.fault.ArchiveFault.{ArchiveFault}
use Rattle.rules.specs.State.{State, section_of, Record, number_of, filed, records_of, those, some_in, bears_number}
use Rattle.rules.specs.Calls.{is_below, is_there, stored_by, put_at, put_next, with_journal}
use Rattle.rules.specs.Steps.{said}
use Rattle.rules.specs.History.{is_accepted}
use Rattle.law.proofs.Arrivals.{Held, held_put, starts_records}
use Rattle.law.proofs.Same.{same_held, homed_arrived, homed_same, own}
use Rattle.law.proofs.Sections.{kept_placed, placed_swap}

-- What a put of either kind hands in.
pub record Deposit : Type 0 where
  pub multi : Bool
  pub label : Label
  pub key : List ℕ
  pub value : List ℕ

abbrev pub row_of : Deposit → Row
row_of d = new_row d.label d.key d.value

-- Room: n sections at first, x with a row in s, y with a row in t.
room_first : (ks kt : Bool) (top n x : ℕ) → x ≡ cond ks n (n + 1) → cond kt false (not (ltb x top)) ≡ false → cond kt false (not (ltb n top)) ≡ false
room_first ks true top n x e h = refl
room_first true false top n x e h = grind (arith, nat_tests)
room_first false false top n x e h = grind (arith, nat_tests)

room_second : (ks kt : Bool) (top n x y : ℕ) → x ≡ cond ks n (n + 1) → y ≡ cond kt n (n + 1)
    → cond ks false (not (ltb n top)) ≡ false → cond kt false (not (ltb x top)) ≡ false → cond ks false (not (ltb y top)) ≡ false
room_second true kt top n x y e d g h = refl
room_second false true top n x y e d g h = grind (arith, nat_tests)
room_second false false top n x y e d g h = grind (arith, nat_tests)

-- A row in another section changes nothing of an append but the number of sections.
module _ (m : Meaning) (s t : ℕ) (r : Row) (ne : s ≡ t → ⊥) where
  slot_seen : no_slot (with_row m t r) s ≡ cond (is_kept m.sections s) false (not (ltb (length (placed m.sections t r)) m.limits.slots))
  slot_seen = ap (λ b. cond b false (not (ltb (length (placed m.sections t r)) m.limits.slots))) (kept_placed t r s ne m.sections)

  fault_same : (key value : List ℕ) → no_slot (with_row m t r) s ≡ no_slot m s → append_fault (with_row m t r) s key value ≡ append_fault m s key value
  fault_same key value f = let e = rows_placed_other m.sections t s r ne in cc

module _ (m : Meaning) (s t : ℕ) (q r : Row) (ne : s ≡ t → ⊥) where
  slot_first : no_slot (with_row m s q) t ≡ false → no_slot m t ≡ false
  slot_first h =
      room_first (is_kept m.sections s) (is_kept m.sections t) m.limits.slots (length m.sections) (length (placed m.sections s q)) (length_placed m.sections s q)
      (sym (slot_seen m t s q (λ e. ne (sym e))) ∙ h)

  slot_second : no_slot m s ≡ false → no_slot (with_row m s q) t ≡ false → no_slot (with_row m t r) s ≡ false
  slot_second g h =
      slot_seen m s t r ne
      ∙ room_second (is_kept m.sections s) (is_kept m.sections t) m.limits.slots (length m.sections) (length (placed m.sections s q)) (length (placed m.sections t r))
      (length_placed m.sections s q) (length_placed m.sections t r) g (sym (slot_seen m t s q (λ e. ne (sym e))) ∙ h)

-- The bearers of a number lie in its section.
bearers_own : (l n : ℕ) (rs : List Row) (xs : List Section) → Held l rs xs
    → those (bears_number n) (filed (section_of l n) 0 (rows_of xs (section_of l n))) ≡ those (bears_number n) (records_of xs)
bearers_own l n rs xs h =
    ap (those (bears_number n)) (sym (starts_records (section_of l n) 0 xs h.up))
    ∙ own l n (bears_number n) (records_of xs) (homed_same l _ (records_of xs) (same_held l rs xs h) (homed_arrived l [] rs)) (λ r e. eqb-true (number_of r) n e)

module _ (l : ℕ) where
  abbrev pub home_of : Deposit → ℕ
  home_of d = section_of l d.label.number

  abbrev pub says : State → Deposit → Result Put ArchiveFault
  says s d = put_at l s d.multi d.label d.key d.value

  abbrev pub after : State → Deposit → State
  after s d = put_next l s d.multi d.label d.key d.value

  abbrev idle : State → Deposit → Bool
  idle s d = is_below s d.label.number || is_there d.multi s d.label.number

  abbrev fault : State → Deposit → Option JournalFault
  fault s d = append_fault s.journal (home_of d) d.key d.value

  abbrev grown : State → Deposit → State
  grown s d = with_journal s (with_row s.journal (home_of d) (row_of d))

  abbrev Goes : State → Deposit → Type 0
  Goes s d = (idle s d ≡ true) ⊎ ((idle s d ≡ false) × (fault s d ≡ None))

  -- An accepted put is idle, or stores.
  goes_by : (low there : Bool) (o : Option JournalFault) (t p : ℕ) → is_accepted (said reply.Put (cond low (Ok BelowFloor) (cond there (Ok AlreadyThere) (stored_by t (or_fault o p))))) ≡ true
      → ((low || there) ≡ true) ⊎ (((low || there) ≡ false) × (o ≡ None))
  goes_by true there o t p e = inl refl
  goes_by false true o t p e = inl refl
  goes_by false false None t p e = inr (refl, refl)
  goes_by false false (Some f) t p e = absurd (both_ways false refl e)

  goes : (s : State) (d : Deposit) → is_accepted (said reply.Put (says s d)) ≡ true → Goes s d
  goes s d e = goes_by (is_below s d.label.number) (is_there d.multi s d.label.number) (fault s d) (home_of d) (length (rows_of s.journal.sections (home_of d))) e

  after_idle : (s : State) (d : Deposit) → idle s d ≡ true → after s d ≡ s
  after_idle s d e = ap (λ (b : Bool). cond b s (with_journal s (or_keep (fault s d) (with_row s.journal (home_of d) (row_of d)) s.journal))) e

  after_grown : (s : State) (d : Deposit) → idle s d ≡ false → fault s d ≡ None → after s d ≡ grown s d
  after_grown s d e f =
      ap (λ (b : Bool). cond b s (with_journal s (or_keep (fault s d) (with_row s.journal (home_of d) (row_of d)) s.journal))) e
      ∙ ap (λ (o : Option JournalFault). with_journal s (or_keep o (with_row s.journal (home_of d) (row_of d)) s.journal)) f

  early : (low there : Bool) (x y : Result Put ArchiveFault) → (low || there) ≡ true → cond low (Ok BelowFloor) (cond there (Ok AlreadyThere) x) ≡ cond low (Ok BelowFloor) (cond there (Ok AlreadyThere) y)
  early true there x y e = refl
  early false true x y e = refl
  early false false x y e = absurd (both_ways false refl e)

  pub after_size : (s : State) (d : Deposit) → (after s d).size ≡ s.size
  after_size s d = by (idle s d)
    where
      by : (b : Bool) → (cond b s (with_journal s (or_keep (fault s d) (with_row s.journal (home_of d) (row_of d)) s.journal))).size ≡ s.size
      by true = refl
      by false = refl

  -- After a row of another section.
  module _ (s : State) (rs : List Row) (h : Held l rs s.journal.sections) (d g : Deposit) (ne : home_of d ≡ home_of g → ⊥) where
    there_same : is_there d.multi (grown s g) d.label.number ≡ is_there d.multi s d.label.number
    there_same =
        let n = d.label.number in
        let xs = s.journal.sections in
        let ys = placed xs (home_of g) (row_of g) in
        let e : those (bears_number n) (records_of ys) ≡ those (bears_number n) (records_of xs) =
        sym (bearers_own l n (rs ++ row_of g ∷ []) ys (held_put l rs xs (row_of g) h))
        ∙ ap (λ zs. those (bears_number n) (filed (section_of l n) 0 zs)) (rows_placed_other xs (home_of g) (home_of d) (row_of g) ne) ∙ bearers_own l n rs xs h in
        ap (λ (zs : List Record). not d.multi && some_in zs) e

    idle_same : idle (grown s g) d ≡ idle s d
    idle_same = ap (λ (b : Bool). is_below s d.label.number || b) there_same

    says_early : idle s d ≡ true → says (grown s g) d ≡ says s d
    says_early e =
        ap (λ (b : Bool). cond (is_below s d.label.number) (Ok BelowFloor) (cond b (Ok AlreadyThere) (stored_by (home_of d) (or_fault (fault (grown s g) d) (length (rows_of (grown s g).journal.sections (home_of d))))))) there_same
        ∙ early (is_below s d.label.number) (is_there d.multi s d.label.number) _ _ e

    says_room : fault (grown s g) d ≡ fault s d → says (grown s g) d ≡ says s d
    says_room f =
        let r = rows_placed_other s.journal.sections (home_of g) (home_of d) (row_of g) ne in
        let X : Bool → Option JournalFault → List Row → Result Put ArchiveFault = λ b o zs. cond (is_below s d.label.number) (Ok BelowFloor) (cond b (Ok AlreadyThere) (stored_by (home_of d) (or_fault o (length zs)))) in
        ap (λ (b : Bool). X b (fault (grown s g) d) (rows_of (grown s g).journal.sections (home_of d))) there_same
        ∙ ap (λ (o : Option JournalFault). X (is_there d.multi s d.label.number) o (rows_of (grown s g).journal.sections (home_of d))) f
        ∙ ap (λ (zs : List Row). X (is_there d.multi s d.label.number) (fault s d) zs) r

  pub record Swaps (s : State) (d g : Deposit) : Type 0 where
    pub first : says (after s g) d ≡ says s d
    pub second : says s g ≡ says (after s d) g
    pub meet : after (after s d) g ≡ after (after s g) d

  module _ (s : State) (rs : List Row) (h : Held l rs s.journal.sections) (d g : Deposit) (ne : home_of d ≡ home_of g → ⊥) where
    en : home_of g ≡ home_of d → ⊥
    en e = ne (sym e)

    -- The first changes nothing.
    swaps_idle : idle s d ≡ true → Goes s g → Swaps s d g
    swaps_idle i (inl j) =
        let a = after_idle s d i in
        let b = after_idle s g j in
        record {
          first = ap (λ (x : State). says x d) b;
          second = ap (λ (x : State). says x g) (sym a);
          meet = ap (λ (x : State). after x g) a ∙ b ∙ sym (ap (λ (x : State). after x d) b ∙ a);
        }
    swaps_idle i (inr j) =
        let a = after_idle s d i in
        let b = after_grown s g j.0 j.1 in
        let c = after_idle (grown s g) d (idle_same s rs h d g ne ∙ i) in
        record {
          first = ap (λ (x : State). says x d) b ∙ says_early s rs h d g ne i;
          second = ap (λ (x : State). says x g) (sym a);
          meet = ap (λ (x : State). after x g) a ∙ b ∙ sym (ap (λ (x : State). after x d) b ∙ c);
        }

    -- The second changes nothing.
    swaps_still : idle s d ≡ false → fault s d ≡ None → idle (grown s d) g ≡ true → Swaps s d g
    swaps_still i f j =
        let a = after_grown s d i f in
        let k = sym (idle_same s rs h g d en) ∙ j in
        let b = after_idle s g k in
        record {
          first = ap (λ (x : State). says x d) b;
          second = sym (ap (λ (x : State). says x g) a ∙ says_early s rs h g d en k);
          meet = ap (λ (x : State). after x g) a ∙ after_idle (grown s d) g j ∙ sym (ap (λ (x : State). after x d) b ∙ a);
        }

    -- Both store.
    swaps_both : idle s d ≡ false → fault s d ≡ None → idle (grown s d) g ≡ false → fault (grown s d) g ≡ None → Swaps s d g
    swaps_both i f j k =
        let m = s.journal in
        let fd = (accepted m (home_of d) d.key d.value f).slot in
        let fg = (accepted (grown s d).journal (home_of g) g.key g.value k).slot in
        let s1 = slot_first m (home_of d) (home_of g) (row_of d) (row_of g) ne fg in
        let s2 = slot_second m (home_of d) (home_of g) (row_of d) (row_of g) ne fd fg in
        let eg = fault_same m (home_of g) (home_of d) (row_of d) en g.key g.value (fg ∙ sym s1) in
        let ed = fault_same m (home_of d) (home_of g) (row_of g) ne d.key d.value (s2 ∙ sym fd) in
        let a = after_grown s d i f in
        let b = after_grown s g (sym (idle_same s rs h g d en) ∙ j) (sym eg ∙ k) in
        let a2 = after_grown (grown s d) g j k in
        let b2 = after_grown (grown s g) d (idle_same s rs h d g ne ∙ i) (ed ∙ f) in
        let c = placed_swap (home_of g) (home_of d) (row_of g) (row_of d) en m.sections in
        record {
          first = ap (λ (x : State). says x d) b ∙ says_room s rs h d g ne ed;
          second = sym (ap (λ (x : State). says x g) a ∙ says_room s rs h g d en eg);
          meet = ap (λ (x : State). after x g) a ∙ a2
              ∙ ap (λ (xs : List Section). with_journal s (record { limits = m.limits; floor = m.floor; sections = xs })) c
              ∙ sym (ap (λ (x : State). after x d) b ∙ b2);
        }

    swaps_by : Goes s d → Goes (after s d) g → Swaps s d g
    swaps_by (inl i) q = swaps_idle i (subst (λ (x : State). Goes x g) (after_idle s d i) q)
    swaps_by (inr i) q = by (subst (λ (x : State). Goes x g) (after_grown s d i.0 i.1) q)
      where
        by : Goes (grown s d) g → Swaps s d g
        by (inl j) = swaps_still i.0 i.1 j
        by (inr j) = swaps_both i.0 i.1 j.0 j.1

    pub swaps : is_accepted (said reply.Put (says s d)) ≡ true → is_accepted (said reply.Put (says (after s d) g)) ≡ true → Swaps s d g
    swaps p q = swaps_by (goes s d p) (goes (after s d) g q)
