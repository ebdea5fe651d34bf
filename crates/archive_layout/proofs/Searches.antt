-- The least bearer, candidate after candidate and section after section. Assumes nothing.
use Rattle.std.proofs.Common.{◌≡◌, ℕ, ◌+◌, ◌*◌, ◌%◌, ◌^◌, ◌<◌, ◌≤◌, Bool, cond, List, [], ◌∷◌, length, drop, Some, None, Option, MatchOption, sym, refl, ap, ◌∙◌, subst, arith, length-append}
use Rattle.std.specs.List.{slice_get, AllByRecursion}
use Rattle.std.proofs.lemmas.Bool.Decides.{nat_tests}
use Rattle.std.proofs.lemmas.List.{nil_from_length}
use Rattle.journal.specs.Meaning.{Meaning, Section, Row, Within, Rising, rows_of}
use Rattle.journal.specs.Calls.{kept_from}
use Rattle.journal.specs.declared.limits.Limits.{Limits}
use Rattle.journal.proofs.Walks.{kept_all, none_above, from_or_end}
use Rattle.rules.specs.declared.answer.Place.{Place}
use Rattle.rules.specs.State.{Record, place_of, filed, records_of, those, bears_key}
use Rattle.law.proofs.Lists.{those_among, length_those}
use Rattle.law.proofs.Sorted.{length_sorted}
use Rattle.index_layout.specs.Views.{View, view_at, Apart, bucket_of}
use Rattle.index_layout.specs.Candidates.{FirstOffer, FirstWith}
use Rattle.archive_layout.specs.declared.spot.Spot.{Spot}
use Rattle.archive_layout.specs.Fit.{Coding, full_view, Homed}
use Rattle.archive_layout.specs.Walks.{filed_at, rest, below_link}
use Rattle.archive_layout.specs.Keys.{start_behind, sought, front, least, least_from, listed_from, place_in, spot_in, lower, in_place, HandledAt, Coded}
use Rattle.archive_layout.specs.Promises.{Known}
use Rattle.archive_layout.proofs.Fits.{small}
use Rattle.archive_layout.proofs.Rests.{nth_there, rest_past}
use Rattle.archive_layout.proofs.Keys.{long, skipped_sought, better}
use Rattle.archive_layout.proofs.Handles.{WalksOn}
use Rattle.archive_layout.proofs.Least.{or_else, least_among}
use Rattle.archive_layout.proofs.Sections.{slot_view}
use Rattle.archive_layout.proofs.Offers.{Reached, offer_reached, none_offered}
use Rattle.archive_layout.proofs.Search.{filed_start, from_there}
use Rattle.archive_layout.proofs.Numbers.{homed_records}
use Rattle.archive_layout.proofs.Counting.{length_filed, rising_weaker}
use Rattle.archive_layout.proofs.Listing.{next_places, from_none, front_listed, front_some, front_none, front_inside}

abbrev pub place_of_spot : Option Spot → Option Place
place_of_spot None = None
place_of_spot (Some x) = Some x.place

-- In one section.
module _ {k : Coding} {m : Meaning} {key : List ℕ} {code hash s : ℕ} {v : View} (rows : List Row) (coded : Coded k m key code hash) (shows : v ≡ full_view k s rows) (after : Option Place) where
  pub search_begins : (i : ℕ) (r : Option ℕ) → WalksOn v i code hash (length v.codes) r → None ≡ place_in (least (rest (sought key after) s rows (below_link (in_place r))))
  search_begins i r w =
      sym (ap (λ rs. place_in (least rs))
      (skipped_sought k m key code hash s v rows coded shows after (length v.codes) (in_place r) w.steps
      ∙ ap (rest (sought key after) s rows) (long k m key code hash s v rows coded shows) ∙ rest_past (sought key after) s rows (length rows) (omega arith)))

  pub search_goes_on : (i x q : ℕ) (at r : Option ℕ) (best best' : Option Place) → at ≡ Some x → q ≡ x % 2 ^ 40 → HandledAt v i code hash x → WalksOn v i code hash (x % 2 ^ 40) r
      → best ≡ place_in (least (rest (sought key after) s rows (below_link (in_place at))))
      → ((row : Row) → slice_get rows q ≡ Some row → best' ≡ cond (sought key after (filed_at s q row)) (Some (lower (record { number = row.label.number; position = q }) best)) best)
      → best' ≡ place_in (least (rest (sought key after) s rows (below_link (in_place r))))
  search_goes_on i x q at r best best' ea eq here w was is =
      let a = long k m key code hash s v rows coded shows in
      let n = nth_there rows q (omega (arith, here.inside, a, eq)) in
      better (sought key after) s q rows n.0 best best' n.1 (was ∙ ap (λ o. place_in (least (rest (sought key after) s rows (below_link (in_place o))))) ea ∙ ap (λ p. place_in (least (rest (sought key after) s rows (p + 1)))) (sym eq)) (is n.0 n.1)
      ∙ ap (λ p. place_in (least (rest (sought key after) s rows p))) eq
      ∙ ap (λ rs. place_in (least rs)) (sym (skipped_sought k m key code hash s v rows coded shows after (x % 2 ^ 40) (in_place r) w.steps))

-- Section after section: how far a search from `begun` has come.
pub record Passed (t : Record → Bool) (m : Meaning) (begun from i : ℕ) : Type 0 where
  pub left : length (kept_from m.sections from) + i ≤ 16
  pub same : least_from t m.sections begun ≡ least_from t m.sections from

kept_few : (n : ℕ) (xs : List Section) → length (kept_from xs n) ≤ length xs
kept_few n [] = omega arith
kept_few n (x ∷ xs) = let i = kept_few n xs in grind (arith, nat_tests)

pub none_passed : {k : Coding} {width l : ℕ} {m : Meaning} {vs : List View} {key : List ℕ} {code hash : ℕ} → Known k width l m vs key code hash → (t : Record → Bool) (from : ℕ) → Passed t m from from 0
none_passed {m = m} known t from =
    let a = kept_few from m.sections in
    let b = small m.limits known.fit.limits in
    record { left = omega (arith, a, b.slots, known.lawful.slots); same = refl }

place_none : (o : Option Record) → None ≡ place_in o → o ≡ None
place_none None h = refl
place_none (Some r) h = let z : ◌≡◌ {A = ℕ} 0 1 = cc in absurd (omega arith)

place_some : (o : Option Record) (p : Place) → Some p ≡ place_in o → (r : Record) × (o ≡ Some r) × (place_of r ≡ p)
place_some None p h = let z : ◌≡◌ {A = ℕ} 0 1 = cc in absurd (omega arith)
place_some (Some r) p h = let e : place_of r ≡ p = cc in (r, refl, e)

-- What an index tells of the first section with a candidate from a number on, or from none.
abbrev pub SlotWith : List View → ℕ → ℕ → Option ℕ → Option (ℕ × ℕ) → Type 0
SlotWith vs c b from r = MatchOption from (r ≡ None) (λ n. FirstWith vs c b n r)

slot_comes : (vs : List View) (c b : ℕ) (from : Option ℕ) (r : Option (ℕ × ℕ)) (h : ℕ × ℕ) → SlotWith vs c b from r → r ≡ Some h → FirstOffer vs c b (from_or_end from) h.0 h.1
slot_comes vs c b None r h f e = let z : ◌≡◌ {A = Option (ℕ × ℕ)} (Some h) None = sym e ∙ f in let w : ◌≡◌ {A = ℕ} 0 1 = cc in absurd (omega arith)
slot_comes vs c b (Some n) r h f e = subst (FirstWith vs c b n) e f

module _ {k : Coding} {width l : ℕ} {m : Meaning} {vs : List View} {key : List ℕ} {code hash : ℕ} (known : Known k width l m vs key code hash) (apart : Apart vs) (sized : length vs ≡ 16)
    (after : Option Place) {begun i : ℕ} (from : Option ℕ) (p : Passed (sought key after) m begun (from_or_end from) i) where
  left_none : least_from (sought key after) m.sections (from_or_end from) ≡ None → None ≡ spot_in (least_from (sought key after) m.sections begun)
  left_none e = sym (ap spot_in (p.same ∙ e))

  nothing_kept : (n : ℕ) → kept_from m.sections n ≡ [] → least_from (sought key after) m.sections n ≡ None
  nothing_kept n e = ap (λ ys. least (those (sought key after) (records_of ys))) e

  pub passed_all : 16 ≤ i → None ≡ spot_in (least_from (sought key after) m.sections begun)
  passed_all h = left_none (nothing_kept (from_or_end from) (nil_from_length (kept_from m.sections (from_or_end from)) (omega (arith, p.left))))

  module _ (r : Option (ℕ × ℕ)) (found : SlotWith vs code (bucket_of hash) from r) where
    pub passed_rest : r ≡ None → None ≡ spot_in (least_from (sought key after) m.sections begun)
    passed_rest e = left_none (by from found)
      where
        by : (o : Option ℕ) → SlotWith vs code (bucket_of hash) o r → least_from (sought key after) m.sections (from_or_end o) ≡ None
        by None f = nothing_kept (2 ^ 64) (none_above m.limits (2 ^ 64) m.sections known.lawful.within refl)
        by (Some n) f = none_offered known apart sized after n (subst (FirstWith vs code (bucket_of hash) n) e f)

    module _ (slot s : ℕ) (is : r ≡ Some (slot, s)) where
      first : FirstOffer vs code (bucket_of hash) (from_or_end from) slot s
      first = slot_comes vs code (bucket_of hash) from r (slot, s) found is

      reached : Reached (sought key after) m s (from_or_end from)
      reached = offer_reached known apart sized after (from_or_end from) slot s first

      step : least_from (sought key after) m.sections begun ≡ or_else (least (those (sought key after) (filed s 0 (rows_of m.sections s)))) (least_from (sought key after) m.sections (s + 1))
      step = p.same ∙ reached.step

      pub shown : view_at vs slot ≡ full_view k s (rows_of m.sections s)
      shown = slot_view k vs m.sections known.fit.held slot s (omega (arith, first.here.slot, sized)) first.here.holds apart

      pub passed_more : (next : Option ℕ) → from_or_end next ≡ s + 1 → None ≡ place_in (least (those (sought key after) (filed s 0 (rows_of m.sections s))))
          → Passed (sought key after) m begun (from_or_end next) (i + 1)
      passed_more next e none =
          rw e (record {
            left = omega (arith, p.left, reached.fewer);
            same = step ∙ ap (λ o. or_else o (least_from (sought key after) m.sections (s + 1))) (place_none _ none);
          })

      pub passed_found : (q : Place) → Some q ≡ place_in (least (those (sought key after) (filed s 0 (rows_of m.sections s))))
          → Some (record { start = s; place = q }) ≡ spot_in (least_from (sought key after) m.sections begun)
      passed_found q found =
          let f = place_some _ q found in
          let z : f.0.start ≡ s = in_section f.0 f.1 in
          sym (ap spot_in (step ∙ ap (λ o. or_else o (least_from (sought key after) m.sections (s + 1))) f.1) ∙ ap (λ i. Some (record { start = i; place = place_of f.0 })) z ∙ ap (λ x. Some (record { start = s; place = x })) f.2)
        where
          in_section : (r : Record) → least (those (sought key after) (filed s 0 (rows_of m.sections s))) ≡ Some r → r.start ≡ s
          in_section r e = filed_start s 0 (rows_of m.sections s) r (those_among (sought key after) r (filed s 0 (rows_of m.sections s)) (least_among (those (sought key after) (filed s 0 (rows_of m.sections s))) r e)).0

-- A search behind a place may begin at that place's section.
pub from_behind : (l low : ℕ) (key : List ℕ) (a : Option Place) (xs : List Section) → 0 < l → Rising low xs → AllByRecursion (Homed l) xs
    → least_from (sought key a) xs (start_behind l a) ≡ least (those (sought key a) (records_of xs))
from_behind l low key None xs some up homed = ap (λ ys. least (those (sought key None) (records_of ys))) (kept_all low 0 xs up (omega arith))
from_behind l low key (Some a) xs some up homed = ap least (from_there l key a xs some homed)

pub next_is : {k : Coding} {width l : ℕ} {m : Meaning} {vs : List View} {key : List ℕ} {code hash : ℕ} → Known k width l m vs key code hash → (from : ℕ) (a : Option Place) (r : Option Spot) → from ≡ start_behind l a
    → r ≡ spot_in (least_from (sought key a) m.sections from) → r ≡ spot_in (least (those (sought key a) (records_of m.sections)))
next_is {l = l} {m = m} {key = key} known from a r e is =
    is ∙ ap (λ n. spot_in (least_from (sought key a) m.sections n)) e ∙ ap spot_in (from_behind l m.floor key a m.sections known.fit.some known.lawful.rising known.fit.homed)

-- Places one after another: how far a walk through the listing of a key has come.
pub record ListedTo (m : Meaning) (key : List ℕ) (a : Option Place) (i : ℕ) : Type 0 where
  pub left : listed_from m.sections key a ≡ drop i (listed_from m.sections key None)
  pub within : i ≤ length (listed_from m.sections key None)

pub listed_none : (m : Meaning) (key : List ℕ) → ListedTo m key None 0
listed_none m key = record { left = refl; within = omega arith }

spot_place : (o : Option Record) → (r : Option Spot) → r ≡ spot_in o → place_of_spot r ≡ place_in o
spot_place None r e = ap place_of_spot e
spot_place (Some x) r e = ap place_of_spot e

module _ {k : Coding} {width l : ℕ} {m : Meaning} {vs : List View} {key : List ℕ} {code hash : ℕ} (known : Known k width l m vs key code hash) {a : Option Place} {i : ℕ} (to : ListedTo m key a i) {r : Option Spot}
    (is : r ≡ spot_in (least (those (sought key a) (records_of m.sections)))) where
  ahead : place_of_spot r ≡ front (drop i (listed_from m.sections key None))
  ahead = spot_place _ r is ∙ front_listed (those (sought key a) (records_of m.sections)) ∙ ap front to.left

  pub listed_end : r ≡ None → i ≡ length (listed_from m.sections key None)
  listed_end e = let b = front_none (listed_from m.sections key None) i (sym ahead ∙ ap place_of_spot e) in omega (arith, b, to.within)

  module _ (x : Spot) (e : r ≡ Some x) where
    here : front (drop i (listed_from m.sections key None)) ≡ Some x.place
    here = sym ahead ∙ ap place_of_spot e

    pub listed_at : drop i (listed_from m.sections key None) ≡ x.place ∷ drop (i + 1) (listed_from m.sections key None)
    listed_at = front_some (listed_from m.sections key None) i x.place here

    pub listed_more : ListedTo m key (Some x.place) (i + 1)
    listed_more = record {
      left = next_places l m.sections key (rising_weaker m.floor 0 m.sections (omega arith) known.lawful.rising) (homed_records l m.sections known.fit.homed) a x.place _ (to.left ∙ listed_at);
      within = (let b = front_inside (listed_from m.sections key None) i x.place here in omega arith);
    }

-- No listing is longer than all rows.
pub listed_length : (m : Meaning) (key : List ℕ) → length (listed_from m.sections key None) ≡ length (those (bears_key key) (records_of m.sections))
listed_length m key = ap length (from_none key m.sections) ∙ length_sorted (those (bears_key key) (records_of m.sections))

pub records_most : (l : Limits) (xs : List Section) → l.rows ≤ 128 → AllByRecursion (Within l) xs → length (records_of xs) ≤ length xs * 128
records_most l [] h w = omega arith
records_most l (x ∷ xs) h w =
    let i = records_most l xs h w.1 in
    let a = length-append (filed x.start 0 x.rows) (records_of xs) in
    let b = length_filed x.start 0 x.rows in
    let c = w.0.rows in
    omega arith

pub listed_most : {k : Coding} {width l : ℕ} {m : Meaning} {vs : List View} {key : List ℕ} {code hash : ℕ} → Known k width l m vs key code hash → length (listed_from m.sections key None) ≤ 2048
listed_most {m = m} {key = key} known =
    let q = small m.limits known.fit.limits in
    let a = records_most m.limits m.sections q.rows known.lawful.within in
    let b = length_those (bears_key key) (records_of m.sections) in
    let c = known.lawful.slots in
    let d = q.slots in
    let e = listed_length m key in
    omega arith
