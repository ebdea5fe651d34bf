-- Each answer that the rules allow is what the kept records, by arrival, require. Assumes nothing.
use Rattle.std.proofs.Common.{◌≡◌, ℕ, suc, ◌+◌, ◌<◌, ◌≤◌, Bool, true, false, cond, not, ◌&&◌, ltb, leb, ◌⊎◌, List, [], ◌∷◌, ◌++◌, length, drop, Some, None, Ok, Err, Option, Result, sym, refl, ap, ◌∙◌, subst, inl, inr, arith}
use Rattle.std.proofs.lemmas.Bool.{cases_Bool, both_ways, eq-eqb, eqb-true, ltb-true, ltb-false, lt-ltb, le-leb, leb-true, le-ltb, and_parts, and_from, not-true}
use Rattle.journal.specs.declared.row.Label.{Label}
use Rattle.journal.specs.declared.fault.JournalFault.{JournalFault}
use Rattle.journal.specs.declared.fault.JournalFault.TheVariants.{Short, Damaged}
use Rattle.journal.specs.Meaning as journal
use Rattle.journal.specs.Meaning.{Meaning, Section, Row, Content, sound, damaged, rows_of}
use Rattle.journal.specs.Calls.{or_fault, append_fault, content_answer, content_fill}
use Rattle.rules.specs.declared.answer.Place.{Place}
use Rattle.rules.specs.declared.answer.Put.TheVariants.{BelowFloor, AlreadyThere, Stored}
use Rattle.rules.specs.declared.answer.Found.{Found}
use Rattle.rules.specs.declared.answer.Pruned.TheVariants.{Unchanged, Struck}
use Rattle.rules.specs.declared.answer.Reply.{Reply}
use Rattle.rules.specs.declared.answer.Reply.TheVariants as reply
use Rattle.rules.specs.declared.call.Call.{Call}
use Rattle.rules.specs.declared.call.Call.TheVariants.{Load, Put, PutMulti, Prune, GetNumber, GetKey, GetPlace, HasNumber, HasKey, HasBoth, ListNumber, ListKey, Counts}
use Rattle.rules.specs.declared.fault.ArchiveFault.{ArchiveFault}
use Rattle.rules.specs.declared.fault.ArchiveFault.TheVariants.{ShortListing}
use Rattle.rules.specs.State.{Kind, State, section_of, or_zero, Record, number_of, place_of, records_of, those, some_in, bears_number, bears_key, bears_both, lies_at, is_candidate, by_number, places_of, distinct}
use Rattle.rules.specs.Calls.{Among, found_by, found_answer, found_buffer, first_answer, first_buffer, GetsOne, fitting, listing_places, stored_by, is_below, is_there, floor_reaches, starts_below, put_at}
use Rattle.rules.specs.Steps.{Handed, Answer, answer, said, Answers, AnswersTo, Change, loads, puts, prunes, asks, change_of}
use Rattle.rules.specs.History.{Book, rows_in, position_after, kept_in}
use Rattle.rules.specs.Told.{BearsNumber, BearsKey, BearsBoth, LiesAt, SameTranslated, Borne, Counted, plain, refused, ToldListing, ReadsContent, Reads, ToldEarliest, ToldSome, ToldHas, ToldCounts, ToldPut, Reached, NumberedBelow, ToldPrune, ToldAt, ToldLoad, ToldFirst, ToldBy, Told}
use Rattle.law.proofs.Tests.{decides_number, decides_key, decides_both, decides_place, decides_candidate}
use Rattle.law.proofs.FirstLoads.{told_load}
use Rattle.law.proofs.Lists.{Decided, counted_those, those_all, those_same, among_those, those_among, some_there, there_some, none_there}
use Rattle.law.proofs.Arrivals.{at_most, over}
use Rattle.law.proofs.Same.{Same, same_held, turned, across, count_same, Homed, homed_arrived, homed_same, own_same, earliest}
use Rattle.law.proofs.Sorted.{listed}
use Rattle.law.proofs.Numbers.{different}
use Rattle.law.proofs.Changes.{at, SaysFirst, says_first}
use Rattle.law.proofs.Books.{Agrees, Ties}

no_zero : {X : Type 0} → ◌≡◌ {A = ℕ} 0 1 → X
no_zero e = let z : ⊥ = omega arith in absurd z

-- K is what is kept by arrival, R what the journal keeps.
module _ (l : ℕ) (K : List Record) (xs : List Section) (up : journal.Rising 0 xs) (w : Same K (records_of xs)) (home : Homed l K) (h : Handed) (a : Answer) where
  abbrev R : List Record
  R = records_of xs

  there : (r : Record) → Among r K → Among r R
  there = across K R w

  back : (r : Record) → Among r R → Among r K
  back = across R K (turned K R w)

  -- Gets.
  reads : (r : Record) → a ≡ answer (said reply.Found (found_answer r (length h.bytes))) (found_buffer r h.bytes) h.places → Reads r h a
  reads r e = by r.row.content e
    where
      sounds : (v : List ℕ) (b : Bool) → ltb (length h.bytes) (length v) ≡ b
          → a ≡ answer (said reply.Found (found_by (place_of r) (cond b (Err (Short r.start r.position (length v))) (Ok (length v))))) (cond b h.bytes (v ++ drop (length v) h.bytes)) h.places
          → ReadsContent (sound v) r h a
      sounds v true q e = inl (ltb-true (length h.bytes) (length v) q, e)
      sounds v false q e = inr (ltb-false (length h.bytes) (length v) q, e)

      damages : (n : ℕ) (b : Bool) → ltb (length h.bytes) n ≡ b
          → a ≡ answer (said reply.Found (found_by (place_of r) (cond b (Err (Short r.start r.position n)) (Err (Damaged r.start r.position))))) h.bytes h.places
          → ReadsContent (damaged n) r h a
      damages n true q e = inl (ltb-true (length h.bytes) n q, e)
      damages n false q e = inr (ltb-false (length h.bytes) n q, e)

      by : (c : Content) → a ≡ answer (said reply.Found (found_by (place_of r) (content_answer c r.start r.position (length h.bytes)))) (content_fill c h.bytes) h.places → ReadsContent c r h a
      by (sound v) e = sounds v (ltb (length h.bytes) (length v)) refl e
      by (damaged n) e = damages n (ltb (length h.bytes) n) refl e

  told_first : (n : ℕ) (t : Record → Bool) (P : Record → Type 0) → Decided t P → ((r : Record) → t r ≡ true → number_of r ≡ n)
      → a ≡ answer (said reply.Found (first_answer (those t R) (length h.bytes))) (first_buffer (those t R) h.bytes) h.places → ToldEarliest P K h a
  told_first n t P d k e = by (those t R) (own_same l n t K R w home k) e
    where
      by : (ys : List Record) → those t K ≡ ys → a ≡ answer (said reply.Found (first_answer ys (length h.bytes))) (first_buffer ys h.bytes) h.places → ToldEarliest P K h a
      by [] q e = inl ((λ b. none_there t K q (b.0, b.1, (d b.0).1 b.2)), e)
      by (r ∷ ys) q e = inr (r, earliest t P d r ys K q, reads r e)

  told_some : (t : Record → Bool) (P : Record → Type 0) → Decided t P → (r : Result (Option Found) ArchiveFault) (after : List ℕ) → GetsOne (those t R) h.bytes r after
      → a ≡ answer (said reply.Found r) after h.places → ToldSome P K h a
  told_some t P d r after g e = by (those t R) refl g
    where
      by : (ys : List Record) → those t R ≡ ys → GetsOne ys h.bytes r after → ToldSome P K h a
      by [] q g =
          inl (
            (λ b. none_there t R q (b.0, there b.0 b.1, (d b.0).1 b.2)),
            e ∙ ap (λ x. answer (said reply.Found x) after h.places) g.0 ∙ ap (λ x. answer (Some (Ok (reply.Found None))) x h.places) g.1,
          )
      by (y ∷ ys) q g =
          let k = those_among t g.0 R (subst (Among g.0) (sym q) g.1) in
          inr (
            g.0,
            back g.0 k.0,
            (d g.0).0 k.1,
            reads g.0 (e ∙ ap (λ x. answer (said reply.Found x) after h.places) g.2 ∙ ap (λ x. answer (said reply.Found (found_answer g.0 (length h.bytes))) x h.places) g.3),
          )

  -- The first of those that pass is one of them.
  first_one : (ys : List Record) → GetsOne ys h.bytes (first_answer ys (length h.bytes)) (first_buffer ys h.bytes)
  first_one [] = (refl, refl)
  first_one (r ∷ ys) = (r, inl refl, refl, refl)

  -- Has.
  told_has : (t : Record → Bool) (P : Record → Type 0) → Decided t P → a ≡ plain h (reply.Has (some_in (those t R))) → ToldHas P K h a
  told_has t P d e = (
    some_in (those t R),
    e,
    ((λ k. let b = some_there t R k in (b.0, back b.0 b.1, (d b.0).0 b.2)), (λ b. there_some t b.0 R (there b.0 b.1) ((d b.0).1 b.2))),
  )

  -- Listings.
  told_listing : {X : Type 0} (t : Record → Bool) (P : Record → Type 0) → Decided t P → (f : X → Reply) (x : X) (says : ℕ → Reply) → f x ≡ says (length (those t R))
      → a ≡ answer (said f (fitting (length (those t R)) (length h.places) x)) h.bytes (listing_places (those t R) h.places) → ToldListing P K says h a
  told_listing {X} t P d f x says q e =
      record {
        count = length (those t R);
        listed = places_of (by_number (those t R));
        lists = listed l t P d K xs up (homed_same l K R w home) w;
        answers = by (ltb (length h.places) (length (those t R))) refl e;
      }
    where
      by : (b : Bool) → ltb (length h.places) (length (those t R)) ≡ b
          → a ≡ answer (said f (cond b (Err (ShortListing (length (those t R)))) (Ok x))) h.bytes (cond b h.places (places_of (by_number (those t R)) ++ drop (length (those t R)) h.places))
          → ((length h.places < length (those t R)) × (a ≡ refused h (ShortListing (length (those t R)))))
          ⊎ ((length (those t R) ≤ length h.places) × (a ≡ answer (Some (Ok (says (length (those t R))))) h.bytes (places_of (by_number (those t R)) ++ drop (length (those t R)) h.places)))
      by true k e = inl (ltb-true (length h.places) (length (those t R)) k, e)
      by false k e =
          inr (
            ltb-false (length h.places) (length (those t R)) k,
            e ∙ ap (λ (z : Reply). answer (Some (Ok z)) h.bytes (places_of (by_number (those t R)) ++ drop (length (those t R)) h.places)) q,
          )

  -- Counts.
  length_same : length R ≡ length K
  length_same =
      let every : Record → Bool = λ _. true in
      sym (ap length (those_all every R (λ r _. refl))) ∙ sym (count_same every K R w) ∙ ap length (those_all every K (λ r _. refl))

  told_counts : (f g : Option ℕ) → f ≡ g → a ≡ plain h (reply.Counted (record { records = length R; numbers = distinct R; floor = g })) → ToldCounts K f h a
  told_counts f g q e = (
    distinct R,
    different R K (λ _. Unit {0}) (λ r i. (back r i, tt)) (λ r i _. there r i),
    e ∙ ap (λ n. plain h (reply.Counted (record { records = n; numbers = distinct R; floor = g }))) length_same
        ∙ ap (λ (o : Option ℕ). plain h (reply.Counted (record { records = length K; numbers = distinct R; floor = o }))) (sym q),
  )

  -- Prune: below the start of a section, by section and by number.
  abbrev numbered_below : ℕ → Record → Bool
  numbered_below m r = ltb (number_of r) m

  decides_below : (m : ℕ) → Decided (numbered_below m) (NumberedBelow m)
  decides_below m r = (ltb-true (number_of r) m, lt-ltb (number_of r) m)

  below_same : (x : ℕ) → 0 < l → (r : Record) → Among r K → starts_below (section_of l x) r ≡ numbered_below (section_of l x) r
  below_same x p r k = by (cases_Bool (numbered_below (section_of l x) r))
    where
      by : (numbered_below (section_of l x) r ≡ true) ⊎ (numbered_below (section_of l x) r ≡ false) → starts_below (section_of l x) r ≡ numbered_below (section_of l x) r
      by (inl e) =
          lt-ltb r.start (section_of l x) (let d = at_most l (number_of r) in omega (arith, d, home r k, ltb-true (number_of r) (section_of l x) e)) ∙ sym e
      by (inr e) =
          le-ltb r.start (section_of l x) (let d = over l (number_of r) x p (ltb-false (number_of r) (section_of l x) e) in omega (arith, d, home r k)) ∙ sym e

  told_prune : (x : ℕ) (f g : Option ℕ) → 0 < l → f ≡ g → (reaches : Bool) → floor_reaches g (section_of l x) ≡ reaches
      → a ≡ answer (said reply.Pruned (cond reaches (Ok Unchanged) (Ok (Struck (distinct (those (starts_below (section_of l x)) R)) (length (those (starts_below (section_of l x)) R)))))) h.bytes h.places
      → ToldPrune (section_of l x) f K h a
  told_prune x f g p q true e k = inl (reached g q e, k)
    where
      reached : (g : Option ℕ) → f ≡ g → floor_reaches g (section_of l x) ≡ true → Reached f (section_of l x)
      reached None q e = absurd (both_ways false refl e)
      reached (Some n) q e = (n, q, leb-true (section_of l x) n e)
  told_prune x f g p q false e k =
      let m = section_of l x in
      let s = those_same (starts_below m) (numbered_below m) K (below_same x p) in
      let c : length (those (numbered_below m) K) ≡ length (those (starts_below m) R) = sym (ap length s) ∙ count_same (starts_below m) K R w in
      inr (
        unreached g q e,
        distinct (those (starts_below m) R),
        length (those (starts_below m) R),
        different (those (starts_below m) R) K (NumberedBelow m)
            (λ r i. let d = those_among (starts_below m) r R i in (back r d.0, ltb-true (number_of r) m (sym (below_same x p r (back r d.0)) ∙ d.1)))
            (λ r i b. among_those (starts_below m) r R (there r i) (below_same x p r i ∙ lt-ltb (number_of r) m b)),
        subst (Counted (NumberedBelow m) K) c (counted_those (numbered_below m) (NumberedBelow m) (decides_below m) K),
        k,
      )
    where
      unreached : (g : Option ℕ) → f ≡ g → floor_reaches g (section_of l x) ≡ false → Reached f (section_of l x) → ⊥
      unreached None q e r = let z : ◌≡◌ {A = ℕ} 0 1 = not_both f r.0 q r.1 in omega arith
        where
          not_both : (o : Option ℕ) (n : ℕ) → o ≡ None → o ≡ Some n → ◌≡◌ {A = ℕ} 0 1
          not_both o n p q = cc
      unreached (Some n) q e r = both_ways (leb (section_of l x) n) e (le-leb (section_of l x) n (let d = same f n r.0 q r.1 in omega (arith, d, r.2)))
        where
          same : (o : Option ℕ) (n m : ℕ) → o ≡ Some n → o ≡ Some m → n ≡ m
          same o n m p q = cc

  -- Put: its answer by the three tests in their order.
  told_put : (multi : Bool) (n s p q : ℕ) (f g : Option ℕ) → f ≡ g → p ≡ q → (low there : Bool) (o : Option JournalFault)
      → ltb n (or_zero g) ≡ low → (not multi && some_in (those (bears_number n) R)) ≡ there
      → a ≡ answer (said reply.Put (cond low (Ok BelowFloor) (cond there (Ok AlreadyThere) (stored_by s (or_fault o p))))) h.bytes h.places
      → ToldPut multi n s f K q h a
  told_put multi n s p q f g fg pq low is o lo th e = by low is o lo th e
    where
      floors : or_zero f ≡ or_zero g
      floors = ap or_zero fg

      borne : (not multi && some_in (those (bears_number n) R)) ≡ true → (multi ≡ false) × Borne (BearsNumber n) K
      borne k =
          let d = and_parts (not multi) (some_in (those (bears_number n) R)) k in
          let b = some_there (bears_number n) R d.1 in
          (not-true multi d.0, (b.0, back b.0 b.1, eqb-true (number_of b.0) n b.2))

      bears : multi ≡ false → Borne (BearsNumber n) K → (not multi && some_in (those (bears_number n) R)) ≡ true
      bears m b = and_from (not multi) _ (ap not m) (there_some (bears_number n) b.0 R (there b.0 b.1) (eq-eqb (number_of b.0) n b.2))

      by : (low is : Bool) (o : Option JournalFault) → ltb n (or_zero g) ≡ low → (not multi && some_in (those (bears_number n) R)) ≡ is
          → a ≡ answer (said reply.Put (cond low (Ok BelowFloor) (cond is (Ok AlreadyThere) (stored_by s (or_fault o p))))) h.bytes h.places
          → ToldPut multi n s f K q h a
      by true is o lo th e =
          let y : a.says ≡ Some (Ok (reply.Put BelowFloor)) = ap (λ x. x.says) e in
          let k = ltb-true n (or_zero g) lo in
          record {
            below = ((λ _. omega (arith, k, floors)), (λ _. y));
            there = ((λ z. no_zero (let v : ◌≡◌ {A = ℕ} 0 1 = cc in v)), (λ z. let v : ⊥ = omega (arith, k, floors, z.0) in absurd v));
            stored = λ t i z. no_zero (let v : ◌≡◌ {A = ℕ} 0 1 = cc in v);
            otherwise = λ hi free. let v : ⊥ = omega (arith, k, floors, hi) in absurd v;
            buffers = e ∙ ap (λ x. answer x h.bytes h.places) (sym y);
          }
      by false true o lo th e =
          let y : a.says ≡ Some (Ok (reply.Put AlreadyThere)) = ap (λ x. x.says) e in
          let k = ltb-false n (or_zero g) lo in
          let m = borne th in
          record {
            below = ((λ z. no_zero (let v : ◌≡◌ {A = ℕ} 0 1 = cc in v)), (λ z. let v : ⊥ = omega (arith, k, floors, z) in absurd v));
            there = ((λ _. (omega (arith, k, floors), m.0, m.1)), (λ _. y));
            stored = λ t i z. no_zero (let v : ◌≡◌ {A = ℕ} 0 1 = cc in v);
            otherwise = λ hi free. absurd (free m);
            buffers = e ∙ ap (λ x. answer x h.bytes h.places) (sym y);
          }
      by false false None lo th e =
          let y : a.says ≡ Some (Ok (reply.Put (Stored s p))) = ap (λ x. x.says) e in
          let k = ltb-false n (or_zero g) lo in
          record {
            below = ((λ z. no_zero (let v : ◌≡◌ {A = ℕ} 0 1 = cc in v)), (λ z. let v : ⊥ = omega (arith, k, floors, z) in absurd v));
            there = ((λ z. no_zero (let v : ◌≡◌ {A = ℕ} 0 1 = cc in v)), (λ z. absurd (both_ways (not multi && some_in (those (bears_number n) R)) th (bears z.1 z.2))));
            stored = λ t i z. (let u : t ≡ s = cc in u, (let u : i ≡ p = cc in u) ∙ pq);
            otherwise = λ hi free. inl (y ∙ ap (λ i. Some (Ok (reply.Put (Stored s i)))) pq);
            buffers = e ∙ ap (λ x. answer x h.bytes h.places) (sym y);
          }
      by false false (Some x) lo th e =
          let y : a.says ≡ Some (Err (Rattle.rules.specs.declared.fault.ArchiveFault.TheVariants.Journal x)) = ap (λ x. x.says) e in
          let k = ltb-false n (or_zero g) lo in
          record {
            below = ((λ z. no_zero (let v : ◌≡◌ {A = ℕ} 0 1 = cc in v)), (λ z. let v : ⊥ = omega (arith, k, floors, z) in absurd v));
            there = ((λ z. no_zero (let v : ◌≡◌ {A = ℕ} 0 1 = cc in v)), (λ z. absurd (both_ways (not multi && some_in (those (bears_number n) R)) th (bears z.1 z.2))));
            stored = λ t i z. no_zero (let v : ◌≡◌ {A = ℕ} 0 1 = cc in v);
            otherwise = λ hi free. inr (x, y);
            buffers = e ∙ ap (λ x. answer x h.bytes h.places) (sym y);
          }

-- By call.
filed_counted : (s p : ℕ) (rs : List Row) (more : List Record) (ys : List Row) → length more ≡ length ys → length (Rattle.rules.specs.State.filed s p rs ++ more) ≡ length (rs ++ ys)
filed_counted s p [] more ys e = e
filed_counted s p (r ∷ rs) more ys e = ap (λ n. suc n) (filed_counted s (p + 1) rs more ys e)

rows_counted : (xs : List Section) → length (records_of xs) ≡ length (rows_in xs)
rows_counted [] = refl
rows_counted (x ∷ xs) = filed_counted x.start 0 x.rows (records_of xs) (rows_in xs) (rows_counted xs)

module _ (kind : Kind) (m : Meaning) where
  told_new : (f : Option ℕ) (j : Meaning) (c : Change) (h : Handed) (a : Answer) → j ≡ m
      → SaysFirst kind (at None f j) c h.bytes h.places a → ToldFirst kind m c h a
  told_new f j (loads l) h a t w =
      subst (λ (q : Meaning). ToldLoad kind q l h a) t (told_load kind j l h a (length (records_of j.sections)) (rows_counted j.sections) w)
  told_new f j (puts multi label key) h a t w = w
  told_new f j (prunes x) h a t w = w
  told_new f j asks h a t w = w

  module _ (l : ℕ) (f : Option ℕ) (j : Meaning) (b : Book) (bs : List ℕ) (ps : List Place) (a : Answer) (t : Agrees l b (at (Some l) f j)) where
    abbrev K : List Record
    K = kept_in l b

    w : Same K (records_of j.sections)
    w = same_held l b.rows j.sections t.held

    home : Homed l K
    home = homed_arrived l [] b.rows

    pub a_put : (multi : Bool) (label : Label) (key : List ℕ) (h : Handed) → h.bytes ≡ bs → h.places ≡ ps
        → a ≡ answer (said reply.Put (put_at l (at (Some l) f j) multi label key bs)) bs ps
        → ToldPut multi label.number (section_of l label.number) b.floor K (position_after l b.rows (section_of l label.number)) h a
    a_put multi label key h hb hp e =
        told_put l K j.sections t.held.up w home h a multi label.number (section_of l label.number) (length (rows_of j.sections (section_of l label.number)))
        (position_after l b.rows (section_of l label.number)) b.floor f t.floor (sym (ap length (t.held.rows (section_of l label.number))))
        (is_below (at (Some l) f j) label.number) (is_there multi (at (Some l) f j) label.number) (append_fault j (section_of l label.number) key bs) refl refl
        (e ∙ ap (λ x. answer (said reply.Put (put_at l (at (Some l) f j) multi label key bs)) x ps) (sym hb) ∙ ap (λ x. answer (said reply.Put (put_at l (at (Some l) f j) multi label key bs)) h.bytes x) (sym hp))

    told_at : (c : Call (List ℕ)) → AnswersTo kind (at (Some l) f j) c bs ps a → ToldAt kind l b c (record { call = c; bytes = bs; places = ps }) a
    told_at (Load l') h = h
    told_at (Put label key) h = a_put false label key (record { call = Put label key; bytes = bs; places = ps }) refl refl h
    told_at (PutMulti label key) h = a_put true label key (record { call = PutMulti label key; bytes = bs; places = ps }) refl refl h
    told_at (Prune x) h =
        told_prune l K j.sections t.held.up w home (record { call = Prune x; bytes = bs; places = ps }) a x b.floor f t.held.some t.floor (floor_reaches f (section_of l x)) refl h
    told_at (GetNumber n) h =
        told_first l K j.sections t.held.up w home (record { call = GetNumber n; bytes = bs; places = ps }) a n (bears_number n) (BearsNumber n) (decides_number n) (λ r e. eqb-true (number_of r) n e) h
    told_at (GetKey key) h =
        told_some l K j.sections t.held.up w home (record { call = GetKey key; bytes = bs; places = ps }) a (bears_key key) (BearsKey key) (decides_key key) h.0 h.1 h.2 h.3
    told_at (GetPlace p) h =
        let H : Handed = record { call = GetPlace p; bytes = bs; places = ps } in
        told_some l K j.sections t.held.up w home H a (lies_at p) (LiesAt p) (decides_place p) _ _ (first_one l K j.sections t.held.up w home H a (those (lies_at p) (records_of j.sections))) h
    told_at (HasNumber n) h = told_has l K j.sections t.held.up w home (record { call = HasNumber n; bytes = bs; places = ps }) a (bears_number n) (BearsNumber n) (decides_number n) h
    told_at (HasKey key) h = told_has l K j.sections t.held.up w home (record { call = HasKey key; bytes = bs; places = ps }) a (bears_key key) (BearsKey key) (decides_key key) h
    told_at (HasBoth n key) h = told_has l K j.sections t.held.up w home (record { call = HasBoth n key; bytes = bs; places = ps }) a (bears_both n key) (BearsBoth n key) (decides_both n key) h
    told_at (ListNumber n) h =
        told_listing l K j.sections t.held.up w home (record { call = ListNumber n; bytes = bs; places = ps }) a (bears_number n) (BearsNumber n) (decides_number n) reply.ListedByNumber _ (λ c. reply.ListedByNumber c) refl h
    told_at (ListKey key) h =
        let R = records_of j.sections in
        let d : ℕ = length (those (is_candidate kind key) R) in (
          d,
          subst (Counted (SameTranslated kind key) K) (count_same (is_candidate kind key) K R w) (counted_those (is_candidate kind key) (SameTranslated kind key) (decides_candidate kind key) K),
          told_listing l K j.sections t.held.up w home (record { call = ListKey key; bytes = bs; places = ps }) a (bears_key key) (BearsKey key) (decides_key key) reply.ListedByKey _
              (λ c. reply.ListedByKey (record { count = c; candidates = d })) refl h,
        )
    told_at Counts h = told_counts l K j.sections t.held.up w home (record { call = Counts; bytes = bs; places = ps }) a b.floor f t.floor h

  tells_by : (o f : Option ℕ) (j : Meaning) (b : Book) (h : Handed) (a : Answer) → Ties m b (at o f j) → Answers kind (at o f j) h a → Told kind m b h a
  unfolding Answers
  tells_by None f j b h a t w =
      subst (λ (x : Book). ToldBy kind m x.size b h a) (sym t.0) (told_new f j (change_of h.call) h a t.1 (says_first kind f j h.call h.bytes h.places a w))
  tells_by (Some l) f j b h a t w = subst (λ (o : Option ℕ). ToldBy kind m o b h a) (sym t.size) (told_at l f j b h.bytes h.places a t h.call w)

  -- What the rules allow at a state is what its book requires.
  pub tells : (s : State) (b : Book) (h : Handed) (a : Answer) → Ties m b s → Answers kind s h a → Told kind m b h a
  tells s b h a t w = tells_by s.size s.floor s.journal b h a t w
