-- What lasts over a history: stored records stay listed until they are struck. Assumes nothing.
use Rattle.std.proofs.Common.{◌≡◌, ℕ, ◌+◌, ◌<◌, ◌≤◌, Bool, true, false, cond, ◌⊎◌, List, [], ◌∷◌, ◌++◌, length, drop, Some, Ok, Option, sym, refl, ap, ◌∙◌, subst, inl, inr, arith}
use Rattle.std.proofs.lemmas.Bool.{both_ways, eq-eqb}
use Rattle.std.specs.List.{AllByRecursion}
use Rattle.journal.specs.Meaning as journal
use Rattle.journal.specs.Meaning.{Meaning, Row}
use Rattle.journal.specs.Calls.{or_fault, new_row}
use Rattle.rules.specs.declared.answer.Place.{Place}
use Rattle.rules.specs.declared.answer.Put.TheVariants.{Stored}
use Rattle.rules.specs.declared.answer.Reply.{Reply}
use Rattle.rules.specs.declared.answer.Reply.TheVariants as reply
use Rattle.rules.specs.declared.call.Call.{Call}
use Rattle.rules.specs.declared.fault.ArchiveFault.TheVariants.{ShortListing}
use Rattle.rules.specs.State.{Kind, State, new, section_of, Record, place_of, filed, records_of, those}
use Rattle.rules.specs.Calls.{Among, load_fault_by, load_answer}
use Rattle.rules.specs.Steps.{Handed, Answer, answer, Says, said, Event, Answers, Change, loads, puts, prunes, asks, change_of, next, Follows}
use Rattle.rules.specs.History.{Book, blank, is_accepted, is_stored, first_book, with_arrival, struck_below, struck_by, noted_by, noted, book_after, book, in_section, position_after, kept_in}
use Rattle.rules.specs.Told.{BearsNumber, BearsKey, refused, ToldAt, ToldBy, Told, ToldListing, ToldPut}
use Rattle.rules.specs.Law.{put_by, row_put, ListsRow, StaysListed}
use Rattle.law.proofs.Lists.{among_left, those_yes, those-++, those_among}
use Rattle.law.proofs.Arrivals.{starts, over, starts_arrived, rows_spared}
use Rattle.law.proofs.Changes.{at, SaysChange, says_change}
use Rattle.law.proofs.Books.{Agrees, Ties, ties_step, ties_along}
use Rattle.law.proofs.Tells.{a_put, tells}
use Rattle.law.proofs.Repeats.{follows_split}
use Rattle.law.proofs.Exchange.{ties_loaded}

answers_change : (kind : Kind) (s : State) (h : Handed) (a : Answer) → Answers kind s h a → SaysChange kind s (change_of h.call) h.bytes h.places a
unfolding Answers
answers_change kind s h a w = says_change kind s h.call h.bytes h.places a w

-- What holds of a loaded book lasts, if an arrival keeps it, and a strike that the condition C allows.
module _ (kind : Kind) (m : Meaning) (up : journal.Rising 0 m.sections) (l : ℕ) (P : Book → Type 0) (C : ℕ → Type 0)
    (grows : (b : Book) (r : Row) → P b → P (with_arrival b r)) (strikes : (b : Book) (min : ℕ) → C min → P b → P (struck_below b (section_of l min))) where
  abbrev Lasts : Book → Type 0
  Lasts b = (b.size ≡ Some l) × P b

  put_lasts : (b : Book) (r : Row) (w : Bool) → Lasts b → Lasts (cond w (with_arrival b r) b)
  put_lasts b r true h = (h.0, grows b r h.1)
  put_lasts b r false h = h

  load_lasts : (b : Book) (size : ℕ) (s : State) (bs : List ℕ) (ps : List Place) (a : Answer) → s.size ≡ Some l → a ≡ answer (said reply.Loaded (load_answer kind s size)) bs ps → Lasts b
      → Lasts (cond (is_accepted a.says) (first_book m size) b)
  load_lasts b size s bs ps a z e k =
      let q = ap (λ (x : Answer). is_accepted x.says) e ∙ ap (λ (o : Option ℕ). is_accepted (said reply.Loaded (or_fault (load_fault_by kind o s.journal size) (length (records_of s.journal.sections))))) z in
      subst (λ (x : Bool). Lasts (cond x (first_book m size) b)) (sym q) k

  prune_lasts : (b : Book) (min : ℕ) (w : Bool) → (w ≡ true → C min) → Lasts b → Lasts (cond w (struck_by b.size b min) b)
  prune_lasts b min true c h = subst (λ (o : Option ℕ). Lasts (struck_by o b min)) (sym h.0) (h.0, strikes b min (c refl) h.1)
  prune_lasts b min false c h = h

  step : (b : Book) (s : State) (c : Change) (bs : List ℕ) (ps : List Place) (a : Answer) → s.size ≡ Some l → SaysChange kind s c bs ps a
      → ((min : ℕ) → c ≡ prunes min → is_accepted a.says ≡ true → C min) → Lasts b → Lasts (noted_by m b c bs a.says)
  step b s (loads size) bs ps a z w c k = load_lasts b size s bs ps a z w k
  step b s (puts multi label key) bs ps a z w c k = put_lasts b (new_row label key bs) (is_stored a.says) k
  step b s (prunes min) bs ps a z w c k = prune_lasts b min (is_accepted a.says) (c min refl) k
  step b s asks bs ps a z w c k = k

  pub lasting : (h : List Event) (s t : State) (b : Book) → Ties m b s → Follows kind s h t
      → AllByRecursion (λ e. (min : ℕ) → change_of e.asked.call ≡ prunes min → is_accepted e.answer.says ≡ true → C min) h → Lasts b → Lasts (book_after m b h)
  lasting [] s t b w f c k = k
  lasting (e ∷ h) s t b w f c k =
      let z = (ties_loaded m b l s.size s.floor s.journal w k.0).0 in
      lasting h (next kind s e.asked) t (noted m b e) (ties_step kind m up s b e w f.0) f.1 c.1
      (step b s (change_of e.asked.call) e.asked.bytes e.asked.places e.answer z (answers_change kind s e.asked e.answer f.0) c.0 k)

-- A record of the book, by the rows of its section.
abbrev record_at : ℕ → Row → ℕ → Record
record_at l r p = record { start = section_of l r.label.number; position = p; row = r }

abbrev InRows : ℕ → Row → ℕ → Book → Type 0
InRows l r p b = Among (record_at l r p) (filed (section_of l r.label.number) 0 (those (in_section l (section_of l r.label.number)) b.rows))

filed_more : (s q : ℕ) (xs ys : List Row) (r : Record) → Among r (filed s q xs) → Among r (filed s q (xs ++ ys))
filed_more s q [] ys r a = absurd a
filed_more s q (x ∷ xs) ys r (inl e) = inl e
filed_more s q (x ∷ xs) ys r (inr a) = inr (filed_more s (q + 1) xs ys r a)

filed_last : (s q : ℕ) (xs : List Row) (y : Row) → Among (record { start = s; position = q + length xs; row = y }) (filed s q (xs ++ y ∷ []))
filed_last s q [] y = let e : q + 0 ≡ q = omega arith in inl (ap (λ p. record { start = s; position = p; row = y }) e)
filed_last s q (x ∷ xs) y =
    let e : (q + 1) + length xs ≡ q + length (x ∷ xs) = omega arith in
    inr (subst (λ p. Among (record { start = s; position = p; row = y }) (filed s (q + 1) (xs ++ y ∷ []))) e (filed_last s (q + 1) xs y))

module _ (l : ℕ) (r : Row) (p : ℕ) where
  abbrev home : ℕ
  home = section_of l r.label.number

  in_grows : (b : Book) (x : Row) → InRows l r p b → InRows l r p (with_arrival b x)
  in_grows b x h =
      subst (λ ys. Among (record_at l r p) (filed home 0 ys)) (sym (those-++ (in_section l home) b.rows (x ∷ [])))
      (filed_more home 0 (those (in_section l home) b.rows) (those (in_section l home) (x ∷ [])) (record_at l r p) h)

  in_spared : 0 < l → (b : Book) (min : ℕ) → section_of l min ≤ r.label.number → InRows l r p b → InRows l r p (struck_below b (section_of l min))
  in_spared pos b min c h =
      subst (λ ys. Among (record_at l r p) (filed home 0 ys)) (sym (rows_spared l home (section_of l min) b.rows (over l r.label.number min pos c))) h

  in_kept : (b : Book) → InRows l r p b → Among (record_at l r p) (kept_in l b)
  in_kept b h = (those_among (starts home) (record_at l r p) (kept_in l b) (subst (Among (record_at l r p)) (sym (starts_arrived l home [] b.rows)) h)).0

in_new : (l : ℕ) (r : Row) (b : Book) → InRows l r (position_after l b.rows (section_of l r.label.number)) (with_arrival b r)
in_new l r b =
    let s = section_of l r.label.number in
    let z : 0 + length (those (in_section l s) b.rows) ≡ length (those (in_section l s) b.rows) = omega arith in
    subst (λ ys. Among (record_at l r (position_after l b.rows s)) (filed s 0 ys))
    (sym (those-++ (in_section l s) b.rows (r ∷ []) ∙ ap (λ ys. those (in_section l s) b.rows ++ ys) (those_yes (in_section l s) r [] (eq-eqb s s refl))))
    (subst (λ q. Among (record { start = s; position = q; row = r }) (filed s 0 (those (in_section l s) b.rows ++ r ∷ []))) z (filed_last s 0 (those (in_section l s) b.rows) r))

-- What a put of either kind is told, by the row that it hands in.
told_puts : (kind : Kind) (m : Meaning) (l : ℕ) (b : Book) (f : Option ℕ) (j : Meaning) → Agrees l b (at (Some l) f j) → (c : Change) (h : Handed) (a : Answer) (r : Row)
    → SaysChange kind (at (Some l) f j) c h.bytes h.places a → put_by c h.bytes ≡ Some r
    → (multi : Bool) × ToldPut multi r.label.number (section_of l r.label.number) b.floor (kept_in l b) (position_after l b.rows (section_of l r.label.number)) h a
told_puts kind m l b f j t (puts multi label key) h a r w e =
    let z : new_row label key h.bytes ≡ r = cc in (
      multi,
      subst (λ (x : Row). ToldPut multi x.label.number (section_of l x.label.number) b.floor (kept_in l b) (position_after l b.rows (section_of l x.label.number)) h a) z
          (a_put kind m l f j b h.bytes h.places a t multi label key h refl refl w),
    )
told_puts kind m l b f j t (loads i) h a r w e = let z : ◌≡◌ {A = ℕ} 0 1 = cc in let v : ⊥ = omega arith in absurd v
told_puts kind m l b f j t (prunes i) h a r w e = let z : ◌≡◌ {A = ℕ} 0 1 = cc in let v : ⊥ = omega arith in absurd v
told_puts kind m l b f j t asks h a r w e = let z : ◌≡◌ {A = ℕ} 0 1 = cc in let v : ⊥ = omega arith in absurd v

pub told_row : (kind : Kind) (m : Meaning) (l : ℕ) (b : Book) (s : State) → s.size ≡ Some l → Agrees l b s → (h : Handed) (a : Answer) (r : Row) → Answers kind s h a → row_put h ≡ Some r
    → (multi : Bool) × ToldPut multi r.label.number (section_of l r.label.number) b.floor (kept_in l b) (position_after l b.rows (section_of l r.label.number)) h a
told_row kind m l b s z t h a r w e =
    let q : s ≡ at (Some l) s.floor s.journal = ap (λ (o : Option ℕ). at o s.floor s.journal) z in
    told_puts kind m l b s.floor s.journal (subst (Agrees l b) q t) (change_of h.call) h a r
    (subst (λ (x : State). SaysChange kind x (change_of h.call) h.bytes h.places a) q (answers_change kind s h a w)) e

-- What a put answered "stored" leaves in the book.
noted_stored : (m : Meaning) (b : Book) (c : Change) (bs : List ℕ) (w : Says) (r : Row) (s p : ℕ) → put_by c bs ≡ Some r → w ≡ Some (Ok (reply.Put (Stored s p))) → noted_by m b c bs w ≡ with_arrival b r
noted_stored m b (puts multi label key) bs w r s p e q =
    let z : new_row label key bs ≡ r = cc in
    ap (λ (x : Says). cond (is_stored x) (with_arrival b (new_row label key bs)) b) q ∙ ap (with_arrival b) z
noted_stored m b (loads i) bs w r s p e q = let z : ◌≡◌ {A = ℕ} 0 1 = cc in let v : ⊥ = omega arith in absurd v
noted_stored m b (prunes i) bs w r s p e q = let z : ◌≡◌ {A = ℕ} 0 1 = cc in let v : ⊥ = omega arith in absurd v
noted_stored m b asks bs w r s p e q = let z : ◌≡◌ {A = ℕ} 0 1 = cc in let v : ⊥ = omega arith in absurd v

-- An accepted listing names every kept record that bears what was named.
listed_there : (P : Record → Type 0) (rs : List Record) (says : ℕ → Reply) (h : Handed) (a : Answer) (r : Record) → ToldListing P rs says h a → is_accepted a.says ≡ true → Among r rs → P r
    → Among (place_of r) a.places
listed_there P rs says h a r t e i q = by t.answers
  where
    by : ((length h.places < t.count) × (a ≡ refused h (ShortListing t.count)))
        ⊎ ((t.count ≤ length h.places) × (a ≡ answer (Some (Ok (says t.count))) h.bytes (t.listed ++ drop t.count h.places))) → Among (place_of r) a.places
    by (inl k) = absurd (both_ways false refl (ap (λ (x : Answer). is_accepted x.says) (sym k.1) ∙ e))
    by (inr k) = subst (λ (x : Answer). Among (place_of r) x.places) (sym k.1) (among_left (place_of r) t.listed (drop t.count h.places) (t.lists.every r i q))

module _ (kind : Kind) (m : Meaning) (up : journal.Rising 0 m.sections) where
  -- A history cut at an event of a loaded book, and at another behind it.
  pub record Parts (h₁ h₂ h₃ : List Event) (e f : Event) (l : ℕ) : Type 0 where
    pub u : State
    pub v : State
    pub ties_e : Agrees l (book m h₁) u
    pub size_e : u.size ≡ Some l
    pub answers_e : Answers kind u e.asked e.answer
    pub ties : Ties m (noted m (book m h₁) e) (next kind u e.asked)
    pub follows : Follows kind (next kind u e.asked) h₂ v
    pub ties_f : Ties m (book_after m (noted m (book m h₁) e) h₂) v
    pub answers_f : Answers kind v f.asked f.answer
    pub told_f : Told kind m (book_after m (noted m (book m h₁) e) h₂) f.asked f.answer

  pub parts : (h : List Event) (t : State) → Follows kind (new m) h t → (h₁ h₂ h₃ : List Event) (e f : Event) (l : ℕ) → h ≡ h₁ ++ e ∷ (h₂ ++ f ∷ h₃) → (book m h₁).size ≡ Some l → Parts h₁ h₂ h₃ e f l
  parts h t follows h₁ h₂ h₃ e f l eq z =
      let A = follows_split kind h₁ (e ∷ (h₂ ++ f ∷ h₃)) (new m) t (subst (λ x. Follows kind (new m) x t) eq follows) in
      let wu = ties_along kind m up h₁ (new m) A.0 blank (refl, refl) A.1 in
      let k = ties_loaded m (book m h₁) l A.0.size A.0.floor A.0.journal wu z in
      let w = ties_step kind m up A.0 (book m h₁) e wu A.2.0 in
      let B = follows_split kind h₂ (f ∷ h₃) (next kind A.0 e.asked) t A.2.1 in
      let wf = ties_along kind m up h₂ (next kind A.0 e.asked) B.0 (noted m (book m h₁) e) w B.1 in
      record {
        u = A.0;
        v = B.0;
        ties_e = k.1;
        size_e = k.0;
        answers_e = A.2.0;
        ties = w;
        follows = B.1;
        ties_f = wf;
        answers_f = B.2.0;
        told_f = tells kind m B.0 (book_after m (noted m (book m h₁) e) h₂) f.asked f.answer wf B.2.0;
      }

  -- The listing f, by the book before it, which keeps the row r at the position p.
  lists_row : (l : ℕ) (b : Book) (f : Event) (r : Row) (p : ℕ) → ToldAt kind l b f.asked.call f.asked f.answer → Among (record_at l r p) (kept_in l b) → ListsRow r p f
  lists_row l b f r p t i = record {
    by_number = λ c w. listed_there (BearsNumber r.label.number) (kept_in l b) (λ n. reply.ListedByNumber n) f.asked f.answer (record_at l r p)
        (subst (λ (x : Call (List ℕ)). ToldAt kind l b x f.asked f.answer) c t) w i refl;
    by_key = λ c w. (let k = subst (λ (x : Call (List ℕ)). ToldAt kind l b x f.asked f.answer) c t in
        listed_there (BearsKey r.key) (kept_in l b) (λ n. reply.ListedByKey (record { count = n; candidates = k.0 })) f.asked f.answer (record_at l r p) k.2 w i refl);
  }

  pub stays_listed : (h : List Event) (t : State) → Follows kind (new m) h t → StaysListed m h
  stays_listed h t follows h₁ h₂ h₃ e f l r s p eq z put says spares =
      let q = parts h t follows h₁ h₂ h₃ e f l eq z in
      let b = book m h₁ in
      let o = told_row kind m l b q.u q.size_e q.ties_e e.asked e.answer r q.answers_e put in
      let n = noted_stored m b (change_of e.asked.call) e.asked.bytes e.answer.says r s p put says in
      let i : InRows l r p (noted m b e) = subst (InRows l r p) (sym n) (subst (λ x. InRows l r x (with_arrival b r)) (sym (o.1.stored s p says).1) (in_new l r b)) in
      let y : (noted m b e).size ≡ Some l = ap (λ (x : Book). x.size) n ∙ z in
      let k = lasting kind m up l (InRows l r p) (λ min. section_of l min ≤ r.label.number) (in_grows l r p) (in_spared l r p q.ties_e.held.some) h₂ (next kind q.u e.asked) q.v (noted m b e) q.ties q.follows spares (y, i) in
      let bf = book_after m (noted m b e) h₂ in
      lists_row l bf f r p (subst (λ (x : Option ℕ). ToldBy kind m x bf f.asked f.answer) k.0 q.told_f) (in_kept l r p bf k.1)
