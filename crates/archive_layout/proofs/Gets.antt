-- Gets, questions and listings, by the rules. Assumes nothing.
use Rattle.std.proofs.Common.{◌≡◌, ℕ, suc, ◌+◌, ◌-◌, ◌<◌, ◌≤◌, Bool, true, false, ltb, List, [], ◌∷◌, ◌++◌, length, drop, Some, Ok, Err, Option, Result, sym, refl, ap, ◌∙◌, subst, inl, inr, arith}
use Rattle.std.specs.List.{slice_get}
use Rattle.std.proofs.lemmas.Bool.{cond-true, cond-false, lt-ltb, le-ltb, eq-eqb}
use Rattle.journal.specs.declared.fault.JournalFault.{JournalFault}
use Rattle.journal.specs.Meaning.{Meaning, Row, rows_of, row_at, Rising}
use Rattle.journal.specs.Calls.{value_answer, value_fill, value_read, value_buffer}
use Rattle.rules.specs.declared.answer.Found.{Found}
use Rattle.rules.specs.declared.answer.Place.{Place}
use Rattle.rules.specs.declared.fault.ArchiveFault.{ArchiveFault}
use Rattle.rules.specs.declared.fault.ArchiveFault.TheVariants.{ShortListing}
use Rattle.rules.specs.State.{State, Record, place_of, filed, records_of, kept, those, some_in, by_number, places_of}
use Rattle.rules.specs.Calls.{Among, if_loaded, buffer_if_loaded, found_by, found_answer, found_buffer, first_answer, first_buffer, has_answer, fitting, listing_places, list_places}
use Rattle.law.proofs.Lists.{among_those}
use Rattle.law.proofs.Arrivals.{starts, starts_records}

-- A record of the sections is the row at its place.
filed_row : (s p : ℕ) (rs : List Row) (y : Record) → Among y (filed s p rs) → (p ≤ y.position) × (slice_get rs (y.position - p) ≡ Some y.row)
filed_row s p [] y a = absurd a
filed_row s p (r ∷ rs) y (inl e) =
    let z : y.position ≡ p = ap (λ x. x.position) e in
    let q : y.position - p ≡ 0 = omega arith in
    (omega arith, ap (slice_get (r ∷ rs)) q ∙ ap (λ (x : Record). Some x.row) (sym e))
filed_row s p (r ∷ rs) y (inr a) =
    let f = filed_row s (p + 1) rs y a in
    let le = f.0 in
    let q : y.position - p ≡ suc (y.position - (p + 1)) = omega arith in
    (omega arith, ap (slice_get (r ∷ rs)) q ∙ f.1)

pub row_there : (m : Meaning) (low : ℕ) (y : Record) → Rising low m.sections → Among y (records_of m.sections) → row_at m y.start y.position ≡ Some y.row
row_there m low y up a =
    let b = subst (Among y) (starts_records y.start low m.sections up) (among_those (starts y.start) y (records_of m.sections) a (eq-eqb y.start y.start refl)) in
    let f = filed_row y.start 0 (rows_of m.sections y.start) y b in
    let q : y.position - 0 ≡ y.position = omega arith in
    sym (ap (slice_get (rows_of m.sections y.start)) q) ∙ f.1

-- What the journal answers of a record's value is what the rules do.
module _ (m : Meaning) (y : Record) (there : row_at m y.start y.position ≡ Some y.row) where
  pub reads_answer : (room : ℕ) (r : Result ℕ JournalFault) → r ≡ value_read m y.start y.position room → found_by (place_of y) r ≡ found_answer y room
  reads_answer room r e = ap (found_by (place_of y)) (e ∙ ap (λ o. value_answer o y.start y.position room) there)

  pub reads_buffer : (b b' : List ℕ) → b' ≡ value_buffer m y.start y.position b → b' ≡ found_buffer y b
  reads_buffer b b' e = e ∙ ap (λ o. value_fill o b) there

-- The first record that passes a test.
module _ (s : State) (t : Record → Bool) where
  pub record FirstIs (b b' : List ℕ) (r : Result (Option Found) ArchiveFault) : Type 0 where
    pub answer : r ≡ if_loaded s.size (λ _. first_answer (those t (kept s)) (length b))
    pub buffer : b' ≡ buffer_if_loaded s.size (first_buffer (those t (kept s)) b) b

-- Questions.
pub has_by : (s : State) (t : Record → Bool) (l : ℕ) (b : Bool) → s.size ≡ Some l → b ≡ some_in (those t (kept s)) → Ok b ≡ has_answer s t
has_by s t l b e is = ap (λ x. Ok x) is ∙ ap (λ o. if_loaded o (λ _. Ok (some_in (those t (kept s))))) (sym e)

-- Listings of the records that pass a test, for whatever an accepted one answers.
module _ {X : Type 0} (s : State) (t : Record → Bool) (x : X) where
  pub record ListingIs (ps ps' : List Place) (r : Result X ArchiveFault) : Type 0 where
    pub answer : r ≡ if_loaded s.size (λ _. fitting (length (those t (kept s))) (length ps) x)
    pub places : ps' ≡ list_places s t ps

  module _ (l : ℕ) (e : s.size ≡ Some l) where
    by_size : (ps ps' : List Place) (r : Result X ArchiveFault) → r ≡ fitting (length (those t (kept s))) (length ps) x → ps' ≡ listing_places (those t (kept s)) ps → ListingIs ps ps' r
    by_size ps ps' r a b = record {
      answer = a ∙ ap (λ o. if_loaded o (λ _. fitting (length (those t (kept s))) (length ps) x)) (sym e);
      places = b ∙ ap (λ o. buffer_if_loaded o (listing_places (those t (kept s)) ps) ps) (sym e);
    }

    pub listing_short : (ps : List Place) (n : ℕ) → n ≡ length (those t (kept s)) → length ps < n → ListingIs ps ps (Err (ShortListing n))
    listing_short ps n is lt =
        let u : ltb (length ps) (length (those t (kept s))) ≡ true = lt-ltb _ _ (subst (λ i. length ps < i) is lt) in
        by_size ps ps (Err (ShortListing n)) (ap (λ i. Err (ShortListing i)) is ∙ sym (cond-true _ _ _ u)) (sym (cond-true _ _ _ u))

    pub listing_fits : (ps ps' : List Place) (n : ℕ) → n ≡ length (those t (kept s)) → n ≤ length ps → ps' ≡ places_of (by_number (those t (kept s))) ++ drop n ps → ListingIs ps ps' (Ok x)
    listing_fits ps ps' n is le to =
        let u : ltb (length ps) (length (those t (kept s))) ≡ false = le-ltb _ _ (subst (λ i. i ≤ length ps) is le) in
        by_size ps ps' (Ok x) (sym (cond-false _ _ _ u)) (to ∙ ap (λ i. places_of (by_number (those t (kept s))) ++ drop i ps) is ∙ sym (cond-false _ _ _ u))
