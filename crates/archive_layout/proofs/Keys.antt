-- The bearers of a key, found by the index. Assumes nothing.
use Rattle.std.proofs.Common.{◌≡◌, ℕ, ◌+◌, ◌<◌, Bool, true, false, cond, eqb, List, length, get_or, Some, None, Option, sym, refl, ap, ◌∙◌, subst, arith}
use Rattle.std.specs.List.{slice_get}
use Rattle.std.proofs.lemmas.List.{length-map}
use Rattle.std.proofs.lemmas.Bool.{cond-true, eq-eqb, eqb-true, and_parts, and_from, lt-ltb}
use Rattle.journal.specs.Meaning.{Meaning, Row}
use Rattle.rules.specs.declared.answer.Place.{Place}
use Rattle.rules.specs.State.{Record, place_of, bears_key}
use Rattle.law.proofs.Tests.{as_same}
use Rattle.index_layout.specs.Links.{linked, matching}
use Rattle.index_layout.specs.Views.{View, bucket_of, newest_in, older_in}
use Rattle.index_layout.proofs.Links.{linked_none, linked_some}
use Rattle.archive_layout.specs.Fit.{Coding, full_view, code_of, bucket_by}
use Rattle.archive_layout.specs.Walks.{filed_at, rest, below_link}
use Rattle.archive_layout.specs.Keys.{is_behind, sought, least, place_in, lower, coded_at, Steps, Coded}
use Rattle.archive_layout.proofs.Places.{matching_is, last_place, last_none, last_some}
use Rattle.archive_layout.proofs.Rests.{rest_yes, rest_no, rest_skip}
use Rattle.archive_layout.proofs.Numbers.{get_or_row}
use Rattle.archive_layout.proofs.Least.{least_more, lower_place}

-- What a walk of the candidates comes to next, by the index alone.
module _ (v : View) (c h : ℕ) where
  steps : (n : ℕ) (o : Option ℕ) → o ≡ linked (matching v.buckets v.codes (bucket_of h) c n) → Steps v c h n o
  steps n o e = by o (e ∙ ap linked (matching_is v.buckets v.codes (bucket_of h) c n))
    where
      by : (o : Option ℕ) → o ≡ linked (last_place (coded_at v c h) n) → Steps v c h n o
      by None e = record {
        below = omega arith;
        between = λ q _ l t. last_none (coded_at v c h) n (linked_none _ (sym e)) q l t;
        here = λ q z. (let w : ◌≡◌ {A = ℕ} 0 1 = cc in absurd (omega arith));
      }
      by (Some p) e =
          let f = last_some (coded_at v c h) n p (linked_some _ p (sym e)) in
          record {
            below = omega (arith, f.below);
            between = λ q a l t. f.after q (omega arith) l t;
            here = λ q z. (let w : p ≡ q = cc in subst (λ i. coded_at v c h i ≡ true) w f.here);
          }

  pub newest_steps : (o : Option ℕ) → o ≡ newest_in v c (bucket_of h) → Steps v c h (length v.codes) o
  newest_steps o e = steps (length v.codes) o e

  pub older_steps : (p : ℕ) (o : Option ℕ) → p < length v.codes → coded_at v c h p ≡ true → o ≡ older_in v c (bucket_of h) p → Steps v c h p o
  older_steps p o lt here e =
      steps p o (e ∙ cond-true _ _ _ (and_from _ _ (lt-ltb p (length v.codes) lt) (and_parts (eqb (get_or v.buckets p 0) (bucket_of h)) (eqb (get_or v.codes p 0) c) here).0))

-- One section: its slot v shows the rows rs, and code and hash are those of a key.
module _ (k : Coding) (m : Meaning) (key : List ℕ) (code hash s : ℕ) (v : View) (rows : List Row) (coded : Coded k m key code hash) (shows : v ≡ full_view k s rows) where
  pub long : length v.codes ≡ length rows
  long = ap (λ w. length w.codes) shows ∙ length-map rows (code_of k)

  same_code : (q : ℕ) (row : Row) → slice_get rows q ≡ Some row → get_or v.codes q 0 ≡ k.translated row.key
  same_code q row h = ap (λ w. get_or w.codes q 0) shows ∙ get_or_row (code_of k) rows q row h

  same_bucket : (q : ℕ) (row : Row) → slice_get rows q ≡ Some row → get_or v.buckets q 0 ≡ bucket_of (k.hashed (k.translated row.key))
  same_bucket q row h = ap (λ w. get_or w.buckets q 0) shows ∙ get_or_row (bucket_by k) rows q row h

  -- A row with the translated key is a candidate, and only such a one.
  pub is_coded : (q : ℕ) (row : Row) → slice_get rows q ≡ Some row → k.translated row.key ≡ k.translated key → coded_at v code hash q ≡ true
  is_coded q row h e =
      let c : k.translated row.key ≡ code = e ∙ sym coded.coded in
      and_from _ _ (eq-eqb _ _ (same_bucket q row h ∙ ap (λ x. bucket_of (k.hashed x)) c ∙ ap bucket_of (sym coded.hashed))) (eq-eqb _ _ (same_code q row h ∙ c))

  pub coded_is : (q : ℕ) (row : Row) → slice_get rows q ≡ Some row → coded_at v code hash q ≡ true → k.translated row.key ≡ k.translated key
  coded_is q row h e = sym (same_code q row h) ∙ eqb-true _ _ (and_parts (eqb (get_or v.buckets q 0) (bucket_of hash)) (eqb (get_or v.codes q 0) code) e).1 ∙ coded.coded

  -- A test that only candidates pass skips what a walk skips.
  pub skipped : (t : Record → Bool) → ((q : ℕ) (row : Row) → t (filed_at s q row) ≡ true → k.translated row.key ≡ k.translated key)
      → (n : ℕ) (o : Option ℕ) → Steps v code hash n o → rest t s rows (below_link o) ≡ rest t s rows n
  skipped t only n o st = rest_skip t s rows (below_link o) n st.below (λ p row a b h y. st.between p a b (is_coded p row h (only p row y)))

  bears_coded : (after : Option Place) (q : ℕ) (row : Row) → sought key after (filed_at s q row) ≡ true → k.translated row.key ≡ k.translated key
  bears_coded after q row e = ap k.translated (as_same row.key key (and_parts (bears_key key (filed_at s q row)) (is_behind after (filed_at s q row)) e).0)

  pub skipped_sought : (after : Option Place) (n : ℕ) (o : Option ℕ) → Steps v code hash n o → rest (sought key after) s rows (below_link o) ≡ rest (sought key after) s rows n
  skipped_sought after = skipped (sought key after) (bears_coded after)

-- One candidate more: the best of those from q on, by the best of those behind it.
pub better : (t : Record → Bool) (s q : ℕ) (rows : List Row) (row : Row) (best best' : Option Place) → slice_get rows q ≡ Some row → best ≡ place_in (least (rest t s rows (q + 1)))
    → best' ≡ cond (t (filed_at s q row)) (Some (lower (place_of (filed_at s q row)) best)) best → best' ≡ place_in (least (rest t s rows q))
better t s q rows row best best' there was is = is ∙ by (t (filed_at s q row)) refl
  where
    by : (b : Bool) → t (filed_at s q row) ≡ b → cond b (Some (lower (place_of (filed_at s q row)) best)) best ≡ place_in (least (rest t s rows q))
    by true e =
        ap (λ o. Some (lower (place_of (filed_at s q row)) o)) was
        ∙ ap (λ p. Some p) (sym (lower_place (filed_at s q row) (least (rest t s rows (q + 1)))))
        ∙ ap place_in (sym (least_more (filed_at s q row) (rest t s rows (q + 1))))
        ∙ ap (λ rs. place_in (least rs)) (sym (rest_yes t s rows q row there e))
    by false e = was ∙ ap (λ rs. place_in (least rs)) (sym (rest_no t s rows q row there e))
