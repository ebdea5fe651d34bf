-- A number that a prune struck is absent ever after. Assumes nothing.
use Rattle.std.proofs.Common.{◌≡◌, ℕ, ◌<◌, ◌≤◌, Bool, true, false, cond, ◌⊎◌, List, [], ◌∷◌, ◌++◌, length, drop, Some, None, Ok, Option, sym, refl, ap, ◌∙◌, subst, inl, inr, arith}
use Rattle.std.proofs.lemmas.Bool.{cases_Bool}
use Rattle.std.specs.List.{AllByRecursion}
use Rattle.journal.specs.Meaning as journal
use Rattle.journal.specs.Meaning.{Meaning, Row}
use Rattle.rules.specs.declared.answer.Place.{Place}
use Rattle.rules.specs.declared.answer.Put.TheVariants.{BelowFloor}
use Rattle.rules.specs.declared.answer.Reply.TheVariants as reply
use Rattle.rules.specs.declared.call.Call.{Call}
use Rattle.rules.specs.declared.fault.ArchiveFault.TheVariants.{ShortListing}
use Rattle.rules.specs.State.{Kind, State, new, section_of, or_zero, Record, number_of}
use Rattle.rules.specs.Calls.{Among}
use Rattle.rules.specs.Steps.{Handed, Answer, answer, Event, Change, prunes, change_of, next, Follows}
use Rattle.rules.specs.History.{Book, is_accepted, raised, struck_below, struck_by, noted_by, noted, book_after, book, position_after, arrived, kept_in}
use Rattle.rules.specs.Told.{BearsNumber, BearsBoth, LiesAt, Borne, plain, refused, ToldAt, ToldBy, ToldListing, ToldEarliest, ToldSome, ToldHas, ToldPut}
use Rattle.rules.specs.Law.{row_put, Away, StaysAway}
use Rattle.law.proofs.Lists.{among_right}
use Rattle.law.proofs.Exchange.{ties_loaded}
use Rattle.law.proofs.Lasting.{lasting, told_row, parts}

arrived_row : (l : ℕ) (before rs : List Row) (r : Record) → Among r (arrived l before rs) → Among r.row rs
arrived_row l before [] r a = absurd a
arrived_row l before (x ∷ rs) r (inl e) = inl (ap (λ (y : Record). y.row) e)
arrived_row l before (x ∷ rs) r (inr a) = inr (arrived_row l (before ++ x ∷ []) rs r a)

raised_le : (f : Option ℕ) (m : ℕ) → (m ≤ raised f m) × (or_zero f ≤ raised f m)
raised_le None m = (omega arith, omega arith)
raised_le (Some f) m = (omega arith, omega arith)

-- No kept record bears the number n, which lies below the floor.
module _ (kind : Kind) (l n : ℕ) (b : Book) (h : Handed) (a : Answer) (low : n < or_zero b.floor) (numbers : (r : Row) → Among r b.rows → or_zero b.floor ≤ r.label.number) where
  none : (r : Record) → Among r (kept_in l b) → number_of r ≡ n → ⊥
  none r i e = let k = numbers r.row (arrived_row l [] b.rows r i) in omega (arith, k, e, low)

  unborne : Borne (BearsNumber n) (kept_in l b) → ⊥
  unborne k = none k.0 k.1 k.2

  has_away : (P : Record → Type 0) → ((r : Record) → P r → number_of r ≡ n) → ToldHas P (kept_in l b) h a → a ≡ plain h (reply.Has false)
  has_away P s k = k.1 ∙ ap (λ (x : Bool). plain h (reply.Has x)) (by (cases_Bool k.0))
    where
      by : (k.0 ≡ true) ⊎ (k.0 ≡ false) → k.0 ≡ false
      by (inl e) = let c = k.2.0 e in absurd (none c.0 c.1 (s c.0 c.2))
      by (inr e) = e

  get_away : ToldEarliest (BearsNumber n) (kept_in l b) h a → a ≡ plain h (reply.Found None)
  get_away (inl k) = k.1
  get_away (inr k) = absurd (unborne (k.0, subst (Among k.0) (sym k.1.here) (among_right k.0 k.1.before (k.0 ∷ k.1.after) (inl refl)), k.1.bears))

  place_away : (p : Place) → p.number ≡ n → ToldSome (LiesAt p) (kept_in l b) h a → a ≡ plain h (reply.Found None)
  place_away p e (inl k) = k.1
  place_away p e (inr k) = absurd (none k.0 k.1 (ap (λ (x : Place). x.number) k.2 ∙ e))

  list_away : ToldListing (BearsNumber n) (kept_in l b) (λ c. reply.ListedByNumber c) h a → a ≡ plain h (reply.ListedByNumber 0)
  list_away t = by t.answers
    where
      nothing : (ps : List Place) → ((p : Place) → Among p ps → ⊥) → ps ≡ []
      nothing [] k = refl
      nothing (p ∷ ps) k = absurd (k p (inl refl))

      unlisted : t.listed ≡ []
      unlisted = nothing t.listed (λ p i. let k = t.lists.only p i in unborne (k.0, k.1, k.2))

      zero_of : t.count ≡ 0
      zero_of = sym t.lists.long ∙ ap length unlisted

      by : ((length h.places < t.count) × (a ≡ refused h (ShortListing t.count)))
          ⊎ ((t.count ≤ length h.places) × (a ≡ answer (Some (Ok (reply.ListedByNumber t.count))) h.bytes (t.listed ++ drop t.count h.places))) → a ≡ plain h (reply.ListedByNumber 0)
      by (inl q) = let z : ⊥ = omega (arith, q.0, zero_of) in absurd z
      by (inr q) =
          q.1 ∙ ap (λ c. answer (Some (Ok (reply.ListedByNumber c))) h.bytes (t.listed ++ drop c h.places)) zero_of
          ∙ ap (λ (ps : List Place). answer (Some (Ok (reply.ListedByNumber 0))) h.bytes (ps ++ h.places)) unlisted

  put_away : (multi : Bool) (s p i : ℕ) → i ≡ n → ToldPut multi i s b.floor (kept_in l b) p h a → a ≡ plain h (reply.Put BelowFloor)
  put_away multi s p i e k = k.buffers ∙ ap (λ w. answer w h.bytes h.places) (k.below.1 (omega (arith, e, low)))

  away : (c : Call (List ℕ)) → ToldAt kind l b c h a
      → ((r : Row) → row_put h ≡ Some r → (multi : Bool) × ToldPut multi r.label.number (section_of l r.label.number) b.floor (kept_in l b) (position_after l b.rows (section_of l r.label.number)) h a)
      → Away n c h a
  away c t puts = record {
    got = λ e. get_away (subst (λ (x : Call (List ℕ)). ToldAt kind l b x h a) e t);
    got_at = λ p e. place_away (record { number = n; position = p }) refl (subst (λ (x : Call (List ℕ)). ToldAt kind l b x h a) e t);
    has = λ e. has_away (BearsNumber n) (λ r k. k) (subst (λ (x : Call (List ℕ)). ToldAt kind l b x h a) e t);
    has_both = λ key e. has_away (BearsBoth n key) (λ r k. k.0) (subst (λ (x : Call (List ℕ)). ToldAt kind l b x h a) e t);
    listed = λ e. list_away (subst (λ (x : Call (List ℕ)). ToldAt kind l b x h a) e t);
    put = λ r e q. put_away (puts r e).0 _ _ r.label.number q (puts r e).1;
  }

every_event : (h : List Event) → AllByRecursion (λ e. (min : ℕ) → change_of e.asked.call ≡ prunes min → is_accepted e.answer.says ≡ true → Unit {0}) h
every_event [] = tt
every_event (e ∷ h) = (λ min q w. tt, every_event h)

-- The floor that an accepted prune leaves.
pruned_floor : (m : Meaning) (l min : ℕ) (b : Book) (e : Event) → b.size ≡ Some l → change_of e.asked.call ≡ prunes min → is_accepted e.answer.says ≡ true
    → noted m b e ≡ struck_below b (section_of l min)
pruned_floor m l min b e z c w =
    ap (λ (x : Change). noted_by m b x e.asked.bytes e.answer.says) c
    ∙ ap (λ (x : Bool). cond x (struck_by b.size b min) b) w ∙ ap (λ (o : Option ℕ). struck_by o b min) z

pub stays_away : (kind : Kind) (m : Meaning) → journal.Rising 0 m.sections → (h : List Event) (t : State) → Follows kind (new m) h t → StaysAway m h
stays_away kind m up h t follows h₁ h₂ h₃ e f l min n eq z c w below =
    let q = parts kind m up h t follows h₁ h₂ h₃ e f l eq z in
    let b = book m h₁ in
    let d = pruned_floor m l min b e z c w in
    let y : (noted m b e).size ≡ Some l = ap (λ (x : Book). x.size) d ∙ z in
    let i : section_of l min ≤ or_zero (noted m b e).floor = subst (λ (x : Book). section_of l min ≤ or_zero x.floor) (sym d) (raised_le b.floor (section_of l min)).0 in
    let k = lasting kind m up l (λ (x : Book). section_of l min ≤ or_zero x.floor) (λ _. Unit {0}) (λ x r j. j) (λ x o u j. let g = (raised_le x.floor (section_of l o)).1 in omega (arith, g, j)) h₂ (next kind q.u e.asked) q.v (noted m b e) q.ties q.follows (every_event h₂) (y, i) in
    let bf = book_after m (noted m b e) h₂ in
    let a = ties_loaded m bf l q.v.size q.v.floor q.v.journal q.ties_f k.0 in
    away kind l n bf f.asked f.answer (let g = k.1 in omega (arith, g, below)) a.1.numbers f.asked.call
    (subst (λ (x : Option ℕ). ToldBy kind m x bf f.asked f.answer) k.0 q.told_f)
    (λ r o. told_row kind m l bf q.v a.0 a.1 f.asked f.answer r q.answers_f o)
