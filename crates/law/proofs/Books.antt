-- The book of a history fits the state that the rules lead to. Assumes nothing.
use Rattle.std.proofs.Common.{◌≡◌, ℕ, ◌+◌, ◌<◌, ◌≤◌, max, Bool, true, false, cond, not, ◌||◌, eqb, leb, ◌⊎◌, List, [], ◌∷◌, length, Some, None, Ok, Option, sym, refl, ap, ◌∙◌, subst, inl, inr, arith}
use Rattle.std.proofs.lemmas.Bool.{both_ways, eqb-true, ltb-false, leb-true, leb-false, le-leb, not-false, and_parts}
use Rattle.keys.specs.declared.fault.KeyFault.TheVariants.{StoredKey}
use Rattle.journal.specs.declared.row.Label.{Label}
use Rattle.journal.specs.declared.fault.JournalFault.{JournalFault}
use Rattle.journal.specs.Meaning as journal
use Rattle.journal.specs.Meaning.{Meaning, Section, Row}
use Rattle.journal.specs.Making.{between}
use Rattle.journal.specs.Calls.{or_fault, or_keep, append_fault, with_row, new_row, pruned}
use Rattle.rules.specs.declared.answer.Place.{Place}
use Rattle.rules.specs.declared.answer.Put.TheVariants.{BelowFloor, AlreadyThere}
use Rattle.rules.specs.declared.answer.Pruned.TheVariants.{Unchanged, Struck}
use Rattle.rules.specs.declared.answer.Reply.TheVariants as reply
use Rattle.rules.specs.declared.fault.ArchiveFault.{ArchiveFault}
use Rattle.rules.specs.declared.fault.ArchiveFault.TheVariants.{SectionSize, WrongSection, Key}
use Rattle.rules.specs.State.{Kind, State, section_of, or_zero, Record, number_of, filed, records_of}
use Rattle.rules.specs.Calls.{Among, is_key, load_check, row_fault, fresh_load_fault, loaded, stored_by, is_below, is_there, put_at, put_next, with_journal, floor_reaches}
use Rattle.rules.specs.Steps.{Handed, Answer, Event, said, Answers, Change, loads, puts, prunes, asks, change_of, changed, next, Follows}
use Rattle.rules.specs.History.{Book, blank, is_accepted, is_stored, rows_in, first_book, with_arrival, raised, from_number, struck_below, struck_by, noted_by, noted, book_after}
use Rattle.law.proofs.FirstLoads.{none_both}
use Rattle.law.proofs.Lists.{among_left, among_right, among_either, those_all, those_among}
use Rattle.law.proofs.Changes.{at, SaysChange, says_change, SaysFirst, says_first}
use Rattle.law.proofs.Arrivals.{Held, Home, held_loaded, held_put, held_pruned}
use Rattle.law.proofs.Same.{Homed}

pub record Agrees (l : ℕ) (b : Book) (s : State) : Type 0 where
  pub size : b.size ≡ Some l
  pub floor : b.floor ≡ s.floor
  pub held : Held l b.rows s.journal.sections
  pub numbers : (r : Row) → Among r b.rows → or_zero b.floor ≤ r.label.number

abbrev pub TiesBy : Option ℕ → Meaning → Book → State → Type 0
TiesBy None m b s = (b ≡ blank) × (s.journal ≡ m)
TiesBy (Some l) m b s = Agrees l b s

abbrev pub Ties : Meaning → Book → State → Type 0
Ties m b s = TiesBy s.size m b s

-- What an accepted load has seen.
first_none : {Y : Type 0} (b : Bool) (f : Y) (o : Option Y) → cond b (Some f) o ≡ None → (b ≡ false) × (o ≡ None)
first_none true f o e = let z : ◌≡◌ {A = ℕ} 0 1 = cc in let w : ⊥ = omega arith in absurd w
first_none false f o e = (refl, e)

module _ (kind : Kind) (l : ℕ) where
  rows_homed : (rs : List Record) → row_fault kind l rs ≡ None → Homed l rs
  rows_homed [] e r a = absurd a
  rows_homed (x ∷ rs) e r a = by a (λ k. rows_homed rs q.1 r k)
    where
      p : (not (is_key (kind.flaw x.row.key)) ≡ false) × (cond (not (eqb (section_of l (number_of x)) x.start)) (Some (WrongSection x.start x.position)) (row_fault kind l rs) ≡ None)
      p = first_none (not (is_key (kind.flaw x.row.key))) (Key (StoredKey x.start x.position)) _ e

      q : (not (eqb (section_of l (number_of x)) x.start) ≡ false) × (row_fault kind l rs ≡ None)
      q = first_none (not (eqb (section_of l (number_of x)) x.start)) (WrongSection x.start x.position) (row_fault kind l rs) p.1

      by : Among r (x ∷ rs) → (Among r rs → r.start ≡ section_of l (number_of r)) → r.start ≡ section_of l (number_of r)
      by (inl d) i = ap (λ y. y.start) d ∙ sym (eqb-true (section_of l (number_of x)) x.start (not-false (eqb (section_of l (number_of x)) x.start) q.0)) ∙ ap (λ (y : Record). section_of l (number_of y)) (sym d)
      by (inr k) i = i k

filed_row : (s p : ℕ) (rs : List Row) (r : Row) → Among r rs → (q : ℕ) × Among (record { start = s; position = q; row = r }) (filed s p rs)
filed_row s p [] r a = absurd a
filed_row s p (x ∷ rs) r (inl e) = (p, inl (ap (λ (y : Row). record { start = s; position = p; row = y }) e))
filed_row s p (x ∷ rs) r (inr a) = let k = filed_row s (p + 1) rs r a in (k.0, inr k.1)

home_of : (l : ℕ) (xs : List Section) → Homed l (records_of xs) → Home l xs
home_of l [] h = tt
home_of l (x ∷ xs) h = (
  λ r a. let k = filed_row x.start 0 x.rows r a in
      sym (h (record { start = x.start; position = k.0; row = r }) (among_left _ (filed x.start 0 x.rows) (records_of xs) k.1)),
  home_of l xs (λ r a. h r (among_right r (filed x.start 0 x.rows) (records_of xs) a)),
)

load_sees : (kind : Kind) (m : Meaning) (l : ℕ) → fresh_load_fault kind m l ≡ None → (0 < l) × Home l m.sections
load_sees kind m l e =
    let k = none_both (load_check l m.limits kind.width) (row_fault kind l (records_of m.sections)) e in
    let a = first_none (not (between 1 l 64)) SectionSize _ k.0 in
    (leb-true 1 l (and_parts (leb 1 l) (leb l 64) (not-false (between 1 l 64) a.0)).0, home_of l m.sections (rows_homed kind l (records_of m.sections) k.1))

-- The floor after a prune.
reaches_le : (f : Option ℕ) (m : ℕ) → floor_reaches f m ≡ true → (m ≤ or_zero f) × (Some (raised f m) ≡ f)
reaches_le None m e = absurd (both_ways false refl e)
reaches_le (Some f) m e = let k = leb-true m f e in let q : max f m ≡ f = omega arith in (k, ap Some q)

raised_to : (f : Option ℕ) (m : ℕ) → floor_reaches f m ≡ false → Some (raised f m) ≡ Some m
raised_to None m e = refl
raised_to (Some f) m e = let k = leb-false m f e in let q : max f m ≡ m = omega arith in ap Some q

module _ (kind : Kind) (m : Meaning) (up : journal.Rising 0 m.sections) where
  load_ties : (f : Option ℕ) (j : Meaning) (b : Book) (l : ℕ) → Ties m b (at None f j) → (x : Option ArchiveFault) → fresh_load_fault kind j l ≡ x
      → Ties m (cond (is_accepted (said reply.Loaded (or_fault x (length (records_of j.sections))))) (first_book m l) b) (or_keep x (loaded (at None f j) l) (at None f j))
  load_ties f j b l t None e =
      let k = load_sees kind j l e in
      record {
        size = refl;
        floor = refl;
        numbers = λ r a. omega arith;
        held = subst (λ (q : Meaning). Held l (rows_in m.sections) q.sections) (sym t.1)
            (held_loaded l m.sections k.0 up (subst (λ (q : Meaning). Home l q.sections) t.1 k.1));
      }
  load_ties f j b l t (Some x) e = t

  put_ties : (l : ℕ) (f : Option ℕ) (j : Meaning) (b : Book) (label : Label) (key value : List ℕ) → Agrees l b (at (Some l) f j) → (low there : Bool) (o : Option JournalFault)
      → (low ≡ false → or_zero f ≤ label.number) → (p : ℕ)
      → Ties m (cond (is_stored (said reply.Put (cond low (Ok BelowFloor) (cond there (Ok AlreadyThere) (stored_by (section_of l label.number) (or_fault o p)))))) (with_arrival b (new_row label key value)) b)
      (cond (low || there) (at (Some l) f j) (with_journal (at (Some l) f j) (or_keep o (with_row j (section_of l label.number) (new_row label key value)) j)))
  put_ties l f j b label key value t true there o low p = t
  put_ties l f j b label key value t false true o low p = t
  put_ties l f j b label key value t false false (Some x) low p = t
  put_ties l f j b label key value t false false None low p =
      record {
        size = t.size;
        floor = t.floor;
        held = held_put l b.rows j.sections (new_row label key value) t.held;
        numbers = λ r a. by r (among_either r b.rows (new_row label key value ∷ []) a);
      }
    where
      by : (r : Row) → Among r b.rows ⊎ Among r (new_row label key value ∷ []) → or_zero b.floor ≤ r.label.number
      by r (inl a) = t.numbers r a
      by r (inr (inl e)) = subst (λ (y : Row). or_zero b.floor ≤ y.label.number) (sym e) (subst (λ (y : Option ℕ). or_zero y ≤ label.number) (sym t.floor) (low refl))
      by r (inr (inr a)) = absurd a

  struck_agrees : (l : ℕ) (f : Option ℕ) (j : Meaning) (b : Book) (x : ℕ) → Agrees l b (at (Some l) f j) → (reaches : Bool) → floor_reaches f (section_of l x) ≡ reaches
      → Agrees l (struck_below b (section_of l x)) (cond reaches (at (Some l) f j) (record { size = Some l; floor = Some (section_of l x); journal = pruned j (section_of l x) }))
  struck_agrees l f j b x t true e =
      let k = reaches_le f (section_of l x) e in
      let g : or_zero b.floor ≡ or_zero f = ap or_zero t.floor in
      let w = those_all (from_number (section_of l x)) b.rows (λ r a. le-leb (section_of l x) r.label.number (omega (arith, k.0, g, t.numbers r a))) in
      let u : Some (raised b.floor (section_of l x)) ≡ f = ap (λ (y : Option ℕ). Some (raised y (section_of l x))) t.floor ∙ k.1 in
      record {
        size = t.size;
        floor = u;
        held = subst (λ ys. Held l ys j.sections) (sym w) t.held;
        numbers = λ r a. subst (λ (y : Option ℕ). or_zero y ≤ r.label.number) (t.floor ∙ sym u) (t.numbers r (those_among (from_number (section_of l x)) r b.rows a).0);
      }
  struck_agrees l f j b x t false e =
      let u : Some (raised b.floor (section_of l x)) ≡ Some (section_of l x) = ap (λ (y : Option ℕ). Some (raised y (section_of l x))) t.floor ∙ raised_to f (section_of l x) e in
      record {
        size = t.size;
        floor = u;
        held = held_pruned l x b.rows j.sections t.held;
        numbers = λ r a. subst (λ (y : Option ℕ). or_zero y ≤ r.label.number) (sym u) (leb-true (section_of l x) r.label.number (those_among (from_number (section_of l x)) r b.rows a).1);
      }

  prune_ties : (l : ℕ) (f : Option ℕ) (j : Meaning) (b : Book) (x : ℕ) → Agrees l b (at (Some l) f j) → (reaches : Bool) → floor_reaches f (section_of l x) ≡ reaches → (p q : ℕ)
      → Ties m (cond (is_accepted (said reply.Pruned (cond reaches (Ok Unchanged) (Ok (Struck p q))))) (struck_by b.size b x) b)
      (cond reaches (at (Some l) f j) (record { size = Some l; floor = Some (section_of l x); journal = pruned j (section_of l x) }))
  prune_ties l f j b x t true e p q = subst (λ (o : Option ℕ). Agrees l (struck_by o b x) (at (Some l) f j)) (sym t.size) (struck_agrees l f j b x t true e)
  prune_ties l f j b x t false e p q =
      subst (λ (o : Option ℕ). Agrees l (struck_by o b x) (record { size = Some l; floor = Some (section_of l x); journal = pruned j (section_of l x) })) (sym t.size) (struck_agrees l f j b x t false e)

  put_step : (l : ℕ) (f : Option ℕ) (j : Meaning) (b : Book) (multi : Bool) (label : Label) (key value : List ℕ) → Agrees l b (at (Some l) f j)
      → Ties m (cond (is_stored (said reply.Put (put_at l (at (Some l) f j) multi label key value))) (with_arrival b (new_row label key value)) b)
      (put_next l (at (Some l) f j) multi label key value)
  put_step l f j b multi label key value t =
      put_ties l f j b label key value t (is_below (at (Some l) f j) label.number) (is_there multi (at (Some l) f j) label.number)
      (append_fault j (section_of l label.number) key value) (λ e. ltb-false label.number (or_zero f) e) _

  ties_new : (f : Option ℕ) (j : Meaning) (b : Book) (c : Change) (bs : List ℕ) (ps : List Place) (a : Answer) → Ties m b (at None f j) → SaysFirst kind (at None f j) c bs ps a
      → Ties m (noted_by m b c bs a.says) (changed kind (at None f j) c bs)
  ties_new f j b (loads l) bs ps a t h =
      subst (λ (x : Answer). Ties m (noted_by m b (loads l) bs x.says) (changed kind (at None f j) (loads l) bs)) (sym h) (load_ties f j b l t (fresh_load_fault kind j l) refl)
  ties_new f j b (puts multi label key) bs ps a t h = subst (λ (x : Answer). Ties m (noted_by m b (puts multi label key) bs x.says) (at None f j)) (sym h) t
  ties_new f j b (prunes x) bs ps a t h = subst (λ (y : Answer). Ties m (noted_by m b (prunes x) bs y.says) (at None f j)) (sym h) t
  ties_new f j b asks bs ps a t h = t

  ties_at : (l : ℕ) (f : Option ℕ) (j : Meaning) (b : Book) (c : Change) (bs : List ℕ) (ps : List Place) (a : Answer) → Agrees l b (at (Some l) f j) → SaysChange kind (at (Some l) f j) c bs ps a
      → Ties m (noted_by m b c bs a.says) (changed kind (at (Some l) f j) c bs)
  ties_at l f j b (loads l') bs ps a t h = subst (λ (x : Answer). Ties m (noted_by m b (loads l') bs x.says) (at (Some l) f j)) (sym h) t
  ties_at l f j b (puts multi label key) bs ps a t h =
      subst (λ (x : Answer). Ties m (noted_by m b (puts multi label key) bs x.says) (changed kind (at (Some l) f j) (puts multi label key) bs)) (sym h) (put_step l f j b multi label key bs t)
  ties_at l f j b (prunes x) bs ps a t h =
      subst (λ (y : Answer). Ties m (noted_by m b (prunes x) bs y.says) (changed kind (at (Some l) f j) (prunes x) bs)) (sym h)
      (prune_ties l f j b x t (floor_reaches f (section_of l x)) refl _ _)
  ties_at l f j b asks bs ps a t h = t

  ties_by : (o f : Option ℕ) (j : Meaning) (b : Book) (h : Handed) (a : Answer) → Ties m b (at o f j) → Answers kind (at o f j) h a
      → Ties m (noted_by m b (change_of h.call) h.bytes a.says) (next kind (at o f j) h)
  unfolding Answers next
  ties_by None f j b h a t w = ties_new f j b (change_of h.call) h.bytes h.places a t (says_first kind f j h.call h.bytes h.places a w)
  ties_by (Some l) f j b h a t w = ties_at l f j b (change_of h.call) h.bytes h.places a t (says_change kind (at (Some l) f j) h.call h.bytes h.places a w)

  pub ties_step : (s : State) (b : Book) (e : Event) → Ties m b s → Answers kind s e.asked e.answer → Ties m (noted m b e) (next kind s e.asked)
  ties_step s b e t w = ties_by s.size s.floor s.journal b e.asked e.answer t w

  pub ties_along : (h : List Event) (s t : State) (b : Book) → Ties m b s → Follows kind s h t → Ties m (book_after m b h) t
  ties_along [] s t b k f = subst (Ties m b) f k
  ties_along (e ∷ h) s t b k f = ties_along h (next kind s e.asked) t (noted m b e) (ties_step s b e k f.0) f.1
