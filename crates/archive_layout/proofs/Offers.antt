-- What a search passes over has no bearer: only sections with a candidate can have one. Assumes nothing.
--   Reached        a search from n on comes to the section at s first: what that has, and then what lies behind it
--   offer_reached  the first section with a candidate
--   none_offered   no section has one
use Rattle.std.proofs.Common.{◌≡◌, ℕ, zero, suc, ◌+◌, ◌<◌, ◌≤◌, Bool, true, false, ◌⊎◌, List, [], length, is_some, Some, None, Option, sym, refl, ap, ◌∙◌, subst, inl, inr, arith}
use Rattle.std.proofs.lemmas.Bool.{cases_Bool, cases_lt, both_ways}
use Rattle.std.proofs.lemmas.List.{nil_from_length}
use Rattle.journal.specs.Meaning.{Meaning, Row, rows_of, first_from}
use Rattle.journal.specs.Calls.{kept_from}
use Rattle.journal.proofs.Rows.{rows_kept_from}
use Rattle.journal.proofs.Walks.{Leads, first_some, first_none}
use Rattle.rules.specs.declared.answer.Place.{Place}
use Rattle.rules.specs.State.{Record, filed, records_of, those}
use Rattle.index_layout.specs.Views.{View, view_at, Apart, bucket_of, newest_in}
use Rattle.index_layout.specs.Candidates.{has_candidate, Offers, FirstOffer}
use Rattle.index_layout.proofs.Held.{Somewhere}
use Rattle.archive_layout.specs.Fit.{Coding, full_view}
use Rattle.archive_layout.specs.Walks.{rest}
use Rattle.archive_layout.specs.Keys.{sought, least, least_from}
use Rattle.archive_layout.specs.Promises.{Known}
use Rattle.archive_layout.proofs.Fits.{some_rows}
use Rattle.archive_layout.proofs.Rests.{rest_past}
use Rattle.archive_layout.proofs.Keys.{newest_steps, long, skipped_sought}
use Rattle.archive_layout.proofs.Least.{or_else}
use Rattle.archive_layout.proofs.Sections.{slot_rows, slot_view, rows_slot, first_rows, behind_first, no_rows}
use Rattle.archive_layout.proofs.Search.{least_step}

none_is : (o : Option ℕ) → is_some o ≡ false → None ≡ o
none_is None h = refl
none_is (Some x) h = absurd (both_ways _ h refl)

pub record Reached (t : Record → Bool) (m : Meaning) (s n : ℕ) : Type 0 where
  pub fewer : length (kept_from m.sections (s + 1)) < length (kept_from m.sections n)
  pub step : least_from t m.sections n ≡ or_else (least (those t (filed s 0 (rows_of m.sections s)))) (least_from t m.sections (s + 1))

module _ {k : Coding} {width l : ℕ} {m : Meaning} {vs : List View} {key : List ℕ} {code hash : ℕ} (known : Known k width l m vs key code hash) (apart : Apart vs) (sized : length vs ≡ 16) (after : Option Place) where
  -- A slot without a candidate.
  bare_rows : (s : ℕ) (v : View) (rows : List Row) → v ≡ full_view k s rows → has_candidate v code (bucket_of hash) ≡ false → those (sought key after) (filed s 0 rows) ≡ []
  bare_rows s v rows shows h =
      skipped_sought k m key code hash s v rows known.coded shows after (length v.codes) None (newest_steps v code hash None (none_is (newest_in v code (bucket_of hash)) h))
      ∙ ap (rest (sought key after) s rows) (long k m key code hash s v rows known.coded shows) ∙ rest_past (sought key after) s rows (length rows) (omega arith)

  -- The first section from n on, at u, is offered by no slot.
  bare : (n u : ℕ) → first_from m.sections n ≡ Some u → ((j : ℕ) → Offers vs code (bucket_of hash) n j u → ⊥)
      → least_from (sought key after) m.sections n ≡ least_from (sought key after) m.sections (u + 1)
  bare n u e lack = by (cases_Bool (has_candidate (view_at vs w.slot) code (bucket_of hash)))
    where
      w : Somewhere vs u
      w = rows_slot k vs m.sections known.fit.held u (first_rows m.floor n u m.limits m.sections known.lawful.rising (some_rows m.limits m.sections known.lawful.within) e)

      by : (has_candidate (view_at vs w.slot) code (bucket_of hash) ≡ true) ⊎ (has_candidate (view_at vs w.slot) code (bucket_of hash) ≡ false)
          → least_from (sought key after) m.sections n ≡ least_from (sought key after) m.sections (u + 1)
      by (inl y) =
          absurd (lack w.slot (record { slot = omega (arith, w.below, sized); holds = w.here; reached = (first_some m.floor n u m.sections known.lawful.rising e).from; candidate = y }))
      by (inr z) =
          least_step l m.floor m.sections known.fit.some known.lawful.rising known.fit.homed (sought key after) n u e
          ∙ ap (λ rs. or_else (least rs) (least_from (sought key after) m.sections (u + 1)))
          (bare_rows u (view_at vs w.slot) (rows_of m.sections u) (slot_view k vs m.sections known.fit.held w.slot u w.below w.here apart) z)

  -- No section from n on is offered.
  none_left : (d n : ℕ) → length (kept_from m.sections n) ≤ d → ((j t : ℕ) → Offers vs code (bucket_of hash) n j t → ⊥) → least_from (sought key after) m.sections n ≡ None
  none_left zero n few lack = ap (λ ys. least (those (sought key after) (records_of ys))) (nil_from_length (kept_from m.sections n) (omega (arith, few)))
  none_left (suc d) n few lack = by (first_from m.sections n) refl (λ u lt e. none_left d (u + 1) lt e)
    where
      by : (o : Option ℕ) → first_from m.sections n ≡ o
          → ((u : ℕ) → length (kept_from m.sections (u + 1)) ≤ d → ((j t : ℕ) → Offers vs code (bucket_of hash) (u + 1) j t → ⊥) → least_from (sought key after) m.sections (u + 1) ≡ None)
          → least_from (sought key after) m.sections n ≡ None
      by None e again = ap (λ ys. least (those (sought key after) (records_of ys))) (first_none n m.sections e)
      by (Some u) e again =
          let f = first_some m.floor n u m.sections known.lawful.rising e in
          bare n u e (λ j o. lack j u o)
          ∙ again u (omega (arith, few, ap length f.rest)) (λ j t o. lack j t (record { slot = o.slot; holds = o.holds; reached = omega (arith, o.reached, f.from); candidate = o.candidate }))

  pub none_offered : (n : ℕ) → ((j t : ℕ) → Offers vs code (bucket_of hash) n j t → ⊥) → least_from (sought key after) m.sections n ≡ None
  none_offered n lack = none_left (length (kept_from m.sections n)) n (omega arith) lack

  module _ (begun i s : ℕ) (first : FirstOffer vs code (bucket_of hash) begun i s) where
    here : 0 < length (rows_of m.sections s)
    here = slot_rows k vs m.sections known.fit.held i s (omega (arith, first.here.slot, sized)) first.here.holds apart

    reach : (d n : ℕ) → length (kept_from m.sections n) ≤ d → begun ≤ n → n ≤ s → Reached (sought key after) m s n
    reach zero n few low le =
        let none = nil_from_length (kept_from m.sections n) (omega (arith, few)) in
        absurd (no_rows (rows_of m.sections s) (sym (rows_kept_from m.sections n s le) ∙ ap (λ ys. rows_of ys s) none) here)
    reach (suc d) n few low le = by (first_from m.sections n) refl (λ u lt a b. reach d (u + 1) lt a b)
      where
        by : (o : Option ℕ) → first_from m.sections n ≡ o
            → ((u : ℕ) → length (kept_from m.sections (u + 1)) ≤ d → begun ≤ u + 1 → u + 1 ≤ s → Reached (sought key after) m s (u + 1)) → Reached (sought key after) m s n
        by None e again = absurd (no_rows (rows_of m.sections s) (sym (rows_kept_from m.sections n s le) ∙ ap (λ ys. rows_of ys s) (first_none n m.sections e)) here)
        by (Some u) e again = on (cases_lt u s)
          where
            f : Leads m.floor n u m.sections
            f = first_some m.floor n u m.sections known.lawful.rising e

            on : (u < s) ⊎ (s ≤ u) → Reached (sought key after) m s n
            on (inl lt) =
                let a = again u (omega (arith, few, ap length f.rest)) (omega (arith, low, f.from)) (omega arith) in
                record {
                  fewer = omega (arith, a.fewer, ap length f.rest);
                  step = bare n u e (λ j o. (let q = first.first j u (record { slot = o.slot; holds = o.holds; reached = omega (arith, low, o.reached); candidate = o.candidate }) in omega (arith, q, lt))) ∙ a.step;
                }
            on (inr ge) =
                let q : u ≡ s = omega (arith, ge, behind_first m.floor n u s m.sections known.lawful.rising e le here) in
                subst (λ z. Reached (sought key after) m z n) q
                (record {
                  fewer = omega (arith, ap length f.rest);
                  step = least_step l m.floor m.sections known.fit.some known.lawful.rising known.fit.homed (sought key after) n u e;
                })

    pub offer_reached : Reached (sought key after) m s begun
    offer_reached = reach (length (kept_from m.sections begun)) begun (omega arith) (omega arith) first.here.reached
