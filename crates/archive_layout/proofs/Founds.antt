-- Records that were found, and what is read of them. Assumes nothing.
use Rattle.std.proofs.Common.{◌≡◌, ℕ, ◌≤◌, Bool, false, ltb, List, [], ◌∷◌, length, is_ok, is_some, Some, None, Ok, Option, Result, sym, refl, ap, ◌∙◌, subst, inl, arith}
use Rattle.std.specs.List.{AllByRecursion}
use Rattle.std.proofs.lemmas.Bool.{cond-false, le-ltb, both_ways}
use Rattle.journal.specs.declared.fault.JournalFault.{JournalFault}
use Rattle.journal.specs.declared.row.Entry.{Entry}
use Rattle.journal.specs.Meaning.{Meaning, Row, Lawful, row_at}
use Rattle.journal.specs.Calls.{entry_answer, entry_read, value_read, value_buffer}
use Rattle.rules.specs.declared.answer.Place.{Place}
use Rattle.rules.specs.declared.answer.Found.{Found}
use Rattle.rules.specs.declared.fault.ArchiveFault.{ArchiveFault}
use Rattle.rules.specs.State.{State, Record, section_of, place_of, records_of, kept, those, some_in, bears_key, lies_at}
use Rattle.rules.specs.Calls.{Among, if_loaded, buffer_if_loaded, found_by, first_answer, first_buffer, GetsOne, GetsKeyBy, GetsKey}
use Rattle.archive_layout.specs.declared.spot.Spot.{Spot}
use Rattle.archive_layout.specs.Fit.{Homed}
use Rattle.archive_layout.specs.Keys.{front, least, spot_in}
use Rattle.archive_layout.specs.Founds.{answer_of, buffer_of, KeptIn}
use Rattle.archive_layout.proofs.Bearers.{ReadRow}
use Rattle.archive_layout.proofs.Chains.{none_there, other_there, lies_there}
use Rattle.archive_layout.proofs.Gets.{row_there, reads_answer, reads_buffer, FirstIs}
use Rattle.archive_layout.proofs.Least.{lower_record, least_more, least_among}
use Rattle.law.proofs.Lists.{those_among}

-- What is read of a record is what the rules answer of it.
pub nothing_found : (o : Option Record) (b : List ℕ) → None ≡ spot_in o → (Ok None ≡ answer_of o (length b)) × (b ≡ buffer_of o b)
nothing_found None b e = (refl, refl)
nothing_found (Some r) b e = let z : ◌≡◌ {A = ℕ} 0 1 = cc in absurd (omega arith)

pub read_spot : (m : Meaning) (o : Option Record) (x : Spot) (b b' : List ℕ) (r : Result ℕ JournalFault) → Lawful m → KeptIn m o → Some x ≡ spot_in o
    → r ≡ value_read m x.start x.place.position (length b) → b' ≡ value_buffer m x.start x.place.position b → (found_by x.place r ≡ answer_of o (length b)) × (b' ≡ buffer_of o b)
read_spot m None x b b' r law in_it e er eb = let z : ◌≡◌ {A = ℕ} 0 1 = cc in absurd (omega arith)
read_spot m (Some y) x b b' r law in_it e er eb =
    let q : x ≡ record { start = y.start; place = place_of y } = cc in
    let there = row_there m m.floor y law.rising in_it in (
      ap (λ (z : Spot). found_by z.place r) q ∙ reads_answer m y there (length b) r (er ∙ ap (λ (z : Spot). value_read m z.start z.place.position (length b)) q),
      reads_buffer m y there b b' (eb ∙ ap (λ (z : Spot). value_buffer m z.start z.place.position b) q),
    )

-- The first and the least of some records.
pub front_answer : (rs : List Record) (n : ℕ) → answer_of (front rs) n ≡ first_answer rs n
front_answer [] n = refl
front_answer (r ∷ rs) n = refl

pub front_buffer : (rs : List Record) (b : List ℕ) → buffer_of (front rs) b ≡ first_buffer rs b
front_buffer [] b = refl
front_buffer (r ∷ rs) b = refl

pub front_some : (rs : List Record) → is_some (spot_in (front rs)) ≡ some_in rs
front_some [] = refl
front_some (r ∷ rs) = refl

pub least_some : (rs : List Record) → is_some (spot_in (least rs)) ≡ some_in rs
least_some [] = refl
least_some (r ∷ rs) = ap (λ o. is_some (spot_in o)) (least_more r rs)

front_among : (rs : List Record) (y : Record) → front rs ≡ Some y → Among y rs
front_among [] y e = let z : ◌≡◌ {A = ℕ} 0 1 = cc in absurd (omega arith)
front_among (r ∷ rs) y e = let q : r ≡ y = cc in inl (sym q)

kept_by : (m : Meaning) (t : Record → Bool) (o : Option Record) → ((y : Record) → o ≡ Some y → Among y (those t (records_of m.sections))) → KeptIn m o
kept_by m t None h = tt
kept_by m t (Some y) h = (those_among t y (records_of m.sections) (h y refl)).0

pub front_kept : (m : Meaning) (t : Record → Bool) → KeptIn m (front (those t (records_of m.sections)))
front_kept m t = kept_by m t _ (front_among (those t (records_of m.sections)))

pub least_kept : (m : Meaning) (t : Record → Bool) → KeptIn m (least (those t (records_of m.sections)))
least_kept m t = kept_by m t _ (least_among (those t (records_of m.sections)))

-- By the rules.
module _ (s : State) (l : ℕ) (size : s.size ≡ Some l) where
  pub first_by : (t : Record → Bool) (b b' : List ℕ) (r : Result (Option Found) ArchiveFault) → (r ≡ answer_of (front (those t (kept s))) (length b)) × (b' ≡ buffer_of (front (those t (kept s))) b)
      → FirstIs s t b b' r
  first_by t b b' r is = record {
    answer = is.0 ∙ front_answer (those t (kept s)) (length b) ∙ ap (λ o. if_loaded o (λ _. first_answer (those t (kept s)) (length b))) (sym size);
    buffer = is.1 ∙ front_buffer (those t (kept s)) b ∙ ap (λ o. buffer_if_loaded o (first_buffer (those t (kept s)) b) b) (sym size);
  }

  pub key_by : (key b b' : List ℕ) (r : Result (Option Found) ArchiveFault) → (r ≡ answer_of (least (those (bears_key key) (kept s))) (length b)) × (b' ≡ buffer_of (least (those (bears_key key) (kept s))) b)
      → GetsKey s key b r b'
  key_by key b b' r is = subst (λ o. GetsKeyBy o (those (bears_key key) (kept s)) b r b') (sym size) (by (those (bears_key key) (kept s)) is)
    where
      by : (rs : List Record) → (r ≡ answer_of (least rs) (length b)) × (b' ≡ buffer_of (least rs) b) → GetsOne rs b r b'
      by [] i = i
      by (x ∷ rs) i =
          let y = lower_record x (least rs) in
          (y, least_among (x ∷ rs) y (least_more x rs), i.0 ∙ ap (λ o. answer_of o (length b)) (least_more x rs), i.1 ∙ ap (λ o. buffer_of o b) (least_more x rs))

-- The record at a place, by the row that was read there.
module _ (l : ℕ) (m : Meaning) (p : Place) (law : Lawful m) (homed : AllByRecursion (Homed l) m.sections) (start : ℕ) (home : start ≡ section_of l p.number) where
  pub spot_none : row_at m start p.position ≡ None → None ≡ spot_in (front (those (lies_at p) (records_of m.sections)))
  spot_none e = sym (ap (λ rs. spot_in (front rs)) (none_there l m p law homed start (sym home) e))

  pub spot_other : (e : Entry) (after : List ℕ) → ReadRow m start p.position e after → (e.label.number ≡ p.number → ⊥) → None ≡ spot_in (front (those (lies_at p) (records_of m.sections)))
  spot_other e after r ne =
      sym (ap (λ rs. spot_in (front rs)) (other_there l m p law homed start (sym home) r.row r.there (λ q. ne (sym (ap (λ (x : Entry). x.label.number) r.entry) ∙ q))))

  pub spot_here : (e : Entry) (after : List ℕ) → ReadRow m start p.position e after → e.label.number ≡ p.number → Some (record { start = start; place = p }) ≡ spot_in (front (those (lies_at p) (records_of m.sections)))
  spot_here e after r is =
      let n : r.row.label.number ≡ p.number = ap (λ (x : Entry). x.label.number) r.entry ∙ is in
      ap (λ i. Some (record { start = start; place = record { number = i; position = p.position } })) (sym n)
      ∙ sym (ap (λ rs. spot_in (front rs)) (lies_there l m p law homed start (sym home) r.row r.there n))

-- Where a read of 32 bytes is refused there is no row: no key is longer.
pub no_row : (m : Meaning) (s p room : ℕ) (r : Result Entry JournalFault) → Lawful m → 32 ≤ room → r ≡ entry_read m s p room → is_ok r ≡ false → row_at m s p ≡ None
no_row m s p room r law long e failed = by (row_at m s p) refl
  where
    by : (o : Option Row) → row_at m s p ≡ o → o ≡ None
    by None is = refl
    by (Some x) is =
        let n = law.narrow in
        let w : ltb room m.limits.width ≡ false = le-ltb _ _ (omega arith) in
        absurd (both_ways _ failed (ap is_ok (e ∙ ap (λ o. entry_answer o m.limits.width s p room) is ∙ cond-false _ _ _ w)))
