-- What keeps an index fitting the sections of a journal. Assumes nothing.
use Rattle.std.proofs.Common.{◌≡◌, ℕ, ◌+◌, ◌-◌, ◌*◌, ◌/◌, ◌<◌, ◌≤◌, Bool, true, false, cond, ◌||◌, eqb, ltb, ◌⊎◌, List, [], ◌∷◌, ◌++◌, map, length, Some, None, Ok, Err, Option, sym, refl, ap, ◌∙◌, subst, inl, inr, ⊎_elim, div-mul-le_self, arith}
use native.Mathlib.Nat.{lt-div-mul-add}
use Rattle.std.specs.List.{AllByRecursion}
use Rattle.std.proofs.ByRecursion.{All-push}
use Rattle.std.proofs.lemmas.List.{map_push, length-map}
use Rattle.std.proofs.lemmas.Bool.{cond-true, cond-false, cond_both, cases_Bool, cases_eq, cases_lt, eqb-true, eq-eqb, ne_eqb, and_parts, and_from, both_ways, ltb-true, leb-true, not-false, lt-ltb, le-ltb, or_left, or_right}
use Rattle.journal.specs.declared.limits.Limits.{Limits}
use Rattle.journal.specs.declared.row.Label.{Label}
use Rattle.journal.specs.declared.fault.JournalFault.{JournalFault}
use Rattle.journal.specs.Meaning.{Meaning, Section, Row, rows_of, is_kept, Within, Lawful}
use Rattle.journal.specs.Calls.{no_slot, extended, opened, placed, kept_from, pruned, appended, append_fault, append_answer, or_keep, or_fault, new_row, with_row}
use Rattle.journal.proofs.Rows.{rows_placed_same, rows_placed_other, rows_kept_from, rows_gone}
use Rattle.journal.proofs.Laws.{accepted}
use Rattle.rules.specs.State.{section_of}
use Rattle.rules.specs.Calls.{archive_limits}
use Rattle.index_layout.specs.Views.{View, free_view, grown, takes, bucket_of, Apart, kept_view}
use Rattle.index_layout.specs.Held.{found, total, one, begun, has_room, Noted}
use Rattle.index_layout.proofs.Held.{found_kept}
use Rattle.archive_layout.specs.Fit.{Coding, expected, offset_of, code_of, bucket_by, Agree, Homed, Fit}
use Rattle.archive_layout.proofs.Sums.{totals, sums, SomeRows, expected_some}

alike : (u : Bool) (s : ℕ) (a a' b b' c c' : List ℕ) → a ≡ a' → b ≡ b' → c ≡ c'
    → ◌≡◌ {A = View} (record { used = u; start = s; offsets = a; codes = b; buckets = c }) (record { used = u; start = s; offsets = a'; codes = b'; buckets = c' })
alike u s a a' b b' c c' e f g =
    ap (λ x. record { used = u; start = s; offsets = x; codes = b; buckets = c }) e
    ∙ ap (λ x. record { used = u; start = s; offsets = a'; codes = x; buckets = c }) f
    ∙ ap (λ x. record { used = u; start = s; offsets = a'; codes = b'; buckets = x }) g

pub expected_push : (k : Coding) (s : ℕ) (rs : List Row) (r : Row) → expected k s (rs ++ r ∷ []) ≡ grown (begun s (expected k s rs)) (offset_of s r) (code_of k r) (bucket_by k r)
expected_push k s [] r = refl
expected_push k s (x ∷ rs) r = alike true s _ _ _ _ _ _ (map_push (offset_of s) (x ∷ rs) r) (map_push (code_of k) (x ∷ rs) r) (map_push (bucket_by k) (x ∷ rs) r)

pub expected_length : (k : Coding) (s : ℕ) (rs : List Row) → length (expected k s rs).offsets ≡ length rs
expected_length k s [] = refl
expected_length k s (r ∷ rs) = length-map (r ∷ rs) (offset_of s)

begun_length : (k : Coding) (s : ℕ) (rs : List Row) → length (begun s (expected k s rs)).offsets ≡ length rs
begun_length k s [] = refl
begun_length k s (r ∷ rs) = length-map (r ∷ rs) (offset_of s)

all_kept : (P : Section → Type 0) (n : ℕ) (xs : List Section) → AllByRecursion P xs → AllByRecursion P (kept_from xs n)
all_kept P n [] h = tt
all_kept P n (x ∷ xs) h = cond_both (ltb x.start n) _ _ (AllByRecursion P) (λ _. all_kept P n xs h.1) (λ _. (h.0, all_kept P n xs h.1))

pub some_rows : (l : Limits) (xs : List Section) → AllByRecursion (Within l) xs → AllByRecursion SomeRows xs
some_rows l [] h = tt
some_rows l (x ∷ xs) h = (h.0.some, some_rows l xs h.1)

pub kept_rows : (xs : List Section) (s : ℕ) → AllByRecursion SomeRows xs → is_kept xs s ≡ true → 0 < length (rows_of xs s)
kept_rows [] s some h = absurd (both_ways _ refl h)
kept_rows (x ∷ xs) s some h =
    ⊎_elim
    (λ e. rw (cond-true (eqb x.start s) x.rows (rows_of xs s) e) some.0)
    (λ e. rw (cond-false (eqb x.start s) x.rows (rows_of xs s) e) (kept_rows xs s some.1 (sym (cond-false _ _ _ e) ∙ h)))
    (cases_Bool (eqb x.start s))

module _ (l s : ℕ) (r : Row) (home : section_of l r.label.number ≡ s) where
  homed_extended : (xs : List Section) → AllByRecursion (Homed l) xs → AllByRecursion (Homed l) (extended xs s r)
  homed_extended [] h = tt
  homed_extended (x ∷ xs) h =
      cond_both (eqb x.start s) _ _ (AllByRecursion (Homed l))
      (λ q. (All-push (λ (r : Row). section_of l r.label.number ≡ s) x.rows r (subst (λ n. AllByRecursion (λ (r : Row). section_of l r.label.number ≡ n) x.rows) (eqb-true _ _ q) h.0) home, h.1))
      (λ q. (h.0, homed_extended xs h.1))

  homed_opened : (xs : List Section) → AllByRecursion (Homed l) xs → AllByRecursion (Homed l) (opened xs s r)
  homed_opened [] h = ((home, tt), tt)
  homed_opened (x ∷ xs) h = cond_both (ltb s x.start) _ _ (AllByRecursion (Homed l)) (λ _. ((home, tt), h)) (λ _. (h.0, homed_opened xs h.1))

  pub homed_placed : (xs : List Section) → AllByRecursion (Homed l) xs → AllByRecursion (Homed l) (placed xs s r)
  homed_placed xs h = cond_both (is_kept xs s) _ _ (AllByRecursion (Homed l)) (λ _. homed_extended xs h) (λ _. homed_opened xs h)

pub totals_one : (k : Coding) (xs : List Section) → totals k one xs ≡ length xs
totals_one k [] = refl
totals_one k (x ∷ xs) = let again = totals_one k xs in omega arith

-- What the limits of an archive's journal come to.
pub record Small (l : Limits) : Type 0 where
  pub slots : l.slots ≤ 16
  pub rows : l.rows ≤ 128

pub small : (l : Limits) → archive_limits l ≡ true → Small l
small l h =
    let a = and_parts _ _ h in
    let b = and_parts _ _ a.0 in
    let c = and_parts _ _ (and_parts _ _ a.1).0 in
    record { slots = leb-true _ _ b.1; rows = leb-true _ _ c.1 }

-- There is a seat whenever the journal takes a row: the section is held, or not all slots are.
pub seat : (k : Coding) (m : Meaning) (vs : List View) (s : ℕ) → Agree k vs m.sections → Lawful m → m.limits.slots ≤ 16 → Apart vs → no_slot m s ≡ false → ((found vs s).used || ltb (total one vs) 16) ≡ true
seat k m vs s agree law slots apart free = by (cases_Bool (is_kept m.sections s))
  where
    some : AllByRecursion SomeRows m.sections
    some = some_rows m.limits m.sections law.within

    by : (is_kept m.sections s ≡ true) ⊎ (is_kept m.sections s ≡ false) → ((found vs s).used || ltb (total one vs) 16) ≡ true
    by (inl e) = or_left _ _ (ap (λ v. v.used) (agree s ∙ expected_some k s (rows_of m.sections s) (kept_rows m.sections s some e)))
    by (inr e) =
        let t = ltb-true _ _ (not-false _ (sym (cond-false _ _ _ e) ∙ free)) in
        let u = sums k one m.sections vs m.floor law.rising some apart agree in
        let w = totals_one k m.sections in
        or_right _ _ (lt-ltb (total one vs) 16 (omega arith))

pub offset_near : (l n : ℕ) → 0 < l → l ≤ 64 → n - section_of l n < 64
offset_near l n low high = let a : n < n / l * l + l = lt-div-mul-add low in let b = div-mul-le_self n l in omega arith

-- The slot that a row goes to takes it.
pub takes_row : (k : Coding) (vs : List View) (xs : List Section) (s o : ℕ) → Agree k vs xs → o < 64 → length (rows_of xs s) < 128 → takes (begun s (found vs s)) o ≡ true
takes_row k vs xs s o agree near short =
    and_from _ _ (lt-ltb _ _ near) (lt-ltb _ _ (subst (λ n. n < 128) (sym (ap (λ v. length (begun s v).offsets) (agree s) ∙ begun_length k s (rows_of xs s))) short))

-- One row more, at its place among the sections: the step of a put and of a load.
pub agree_placed : (k : Coding) (xs : List Section) (vs vs' : List View) (s : ℕ) (r : Row) → Agree k vs xs
    → Noted vs vs' s (offset_of s r) (code_of k r) (bucket_by k r) → Agree k vs' (placed xs s r)
agree_placed k xs vs vs' s r agree noted t = noted t ∙ by (cases_eq s t)
  where
    by : (s ≡ t) ⊎ (s ≡ t → ⊥) → cond (eqb s t) (grown (begun s (found vs s)) (offset_of s r) (code_of k r) (bucket_by k r)) (found vs t) ≡ expected k t (rows_of (placed xs s r) t)
    by (inl q) =
        cond-true _ _ _ (eq-eqb s t q)
        ∙ ap (λ v. grown (begun s v) (offset_of s r) (code_of k r) (bucket_by k r)) (agree s)
        ∙ sym (expected_push k s (rows_of xs s) r)
        ∙ ap (expected k s) (sym (rows_placed_same xs s r))
        ∙ ap (λ u. expected k u (rows_of (placed xs s r) u)) q
    by (inr q) = cond-false _ _ _ (ne_eqb s t q) ∙ agree t ∙ ap (expected k t) (sym (rows_placed_other xs s t r (λ p. q (sym p))))

-- What an append's answer tells.
pub ok_none : {X Y : Type 0} (f : Option Y) (x p : X) → or_fault f x ≡ Ok p → (f ≡ None) × (x ≡ p)
ok_none None x p h = let q : x ≡ p = cc in (refl, q)
ok_none (Some f) x p h = let z : ◌≡◌ {A = ℕ} 0 1 = cc in absurd (omega arith)

pub err_some : {X Y : Type 0} (f : Option Y) (x : X) (y : Y) → or_fault f x ≡ Err y → f ≡ Some y
err_some None x y h = let z : ◌≡◌ {A = ℕ} 0 1 = cc in absurd (omega arith)
err_some (Some f) x y h = let q : f ≡ y = cc in ap (λ z. Some z) q

-- An accepted append: the index has room for its row, and with it fits the journal again.
module _ (k : Coding) (width l : ℕ) (m m' : Meaning) (vs : List View) (s p : ℕ) (label : Label) (key value : List ℕ) (fit : Fit k width l m vs) (law : Lawful m) (apart : Apart vs)
    (home : section_of l label.number ≡ s) (ok : append_answer m s key value ≡ Ok p) (to : m' ≡ appended m s label key value) where
  none : append_fault m s key value ≡ None
  none = (ok_none (append_fault m s key value) (length (rows_of m.sections s)) p ok).0

  pub room_for : has_room vs s (label.number - s) ≡ true
  room_for =
      let a = accepted m s key value none in
      let q = small m.limits fit.limits in
      and_from _ _
      (takes_row k vs m.sections s (label.number - s) fit.held (subst (λ t. label.number - t < 64) home (offset_near l label.number fit.some fit.few)) (omega (arith, a.rows, q.rows)))
      (seat k m vs s fit.held law q.slots apart a.slot)

  pub fit_appended : (vs' : List View) → Noted vs vs' s (label.number - s) (k.translated key) (bucket_of (k.hashed (k.translated key))) → Fit k width l m' vs'
  fit_appended vs' noted =
      let new : m' ≡ with_row m s (new_row label key value) = to ∙ ap (λ o. or_keep o (with_row m s (new_row label key value)) m) none in
      subst (λ q. Fit k width l q vs') (sym new) (record {
        some = fit.some;
        few = fit.few;
        limits = fit.limits;
        wide = fit.wide;
        homed = homed_placed l s (new_row label key value) home m.sections fit.homed;
        held = agree_placed k m.sections vs vs' s (new_row label key value) fit.held noted;
      })

-- A refused append leaves the meaning.
pub refused : (m m' : Meaning) (s : ℕ) (label : Label) (key value : List ℕ) (f : JournalFault) → append_answer m s key value ≡ Err f → m' ≡ appended m s label key value → m' ≡ m
refused m m' s label key value f h to = to ∙ ap (λ o. or_keep o (with_row m s (new_row label key value)) m) (err_some _ _ f h)

-- A prune.
pub fit_pruned : (k : Coding) (width l : ℕ) (m m' : Meaning) (vs vs' : List View) (n : ℕ) → Fit k width l m vs → m' ≡ pruned m n → vs' ≡ map (kept_view n) vs → Fit k width l m' vs'
fit_pruned k width l m m' vs vs' n fit to eq =
    subst (λ q. Fit k width l q vs') (sym to) (record {
      some = fit.some;
      few = fit.few;
      limits = fit.limits;
      wide = fit.wide;
      homed = all_kept (Homed l) n m.sections fit.homed;
      held = λ s. ap (λ us. found us s) eq ∙ found_kept vs n s ∙ by s (cases_lt s n);
    })
  where
    by : (s : ℕ) → (s < n) ⊎ (n ≤ s) → cond (ltb s n) free_view (found vs s) ≡ expected k s (rows_of (kept_from m.sections n) s)
    by s (inl lt) = cond-true _ _ _ (lt-ltb _ _ lt) ∙ ap (expected k s) (sym (rows_gone m.sections n s lt))
    by s (inr le) = cond-false _ _ _ (le-ltb _ _ le) ∙ fit.held s ∙ ap (expected k s) (sym (rows_kept_from m.sections n s le))
