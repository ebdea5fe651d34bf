-- A refused call changes neither the state nor its buffers. Assumes nothing.
use Rattle.std.proofs.Common.{◌≡◌, ℕ, Bool, true, false, cond, ◌||◌, ltb, List, [], ◌∷◌, ◌++◌, length, drop, Some, None, Ok, Err, Option, Result, sym, refl, ap, ◌∙◌, subst}
use Rattle.std.proofs.lemmas.Bool.{both_ways}
use Rattle.journal.specs.declared.row.Label.{Label}
use Rattle.journal.specs.declared.fault.JournalFault.{JournalFault}
use Rattle.journal.specs.declared.fault.JournalFault.TheVariants.{Short}
use Rattle.journal.specs.Meaning as journal
use Rattle.journal.specs.Meaning.{Meaning, Content, sound, damaged}
use Rattle.journal.specs.Calls.{or_fault, or_keep, append_fault, with_row, new_row, content_answer, content_fill}
use Rattle.rules.specs.declared.answer.Place.{Place}
use Rattle.rules.specs.declared.answer.Put.TheVariants.{BelowFloor, AlreadyThere}
use Rattle.rules.specs.declared.answer.Found.{Found}
use Rattle.rules.specs.declared.answer.Pruned.TheVariants.{Unchanged, Struck}
use Rattle.rules.specs.declared.answer.Reply.{Reply}
use Rattle.rules.specs.declared.answer.Reply.TheVariants as reply
use Rattle.rules.specs.declared.call.Call.{Call}
use Rattle.rules.specs.declared.call.Call.TheVariants.{Load, Put, PutMulti, Prune, GetNumber, GetKey, GetPlace, HasNumber, HasKey, HasBoth, ListNumber, ListKey, Counts}
use Rattle.rules.specs.declared.fault.ArchiveFault.{ArchiveFault}
use Rattle.rules.specs.declared.fault.ArchiveFault.TheVariants.{ShortListing}
use Rattle.rules.specs.State.{Kind, State, new, section_of, Record, place_of, records_of, those, bears_number, bears_key, lies_at, by_number, places_of}
use Rattle.rules.specs.Calls.{GetsOne, found_by, first_answer, first_buffer, fitting, listing_places, stored_by, with_journal, loaded, is_below, is_there, floor_reaches, fresh_load_fault, put_at, put_next}
use Rattle.rules.specs.Steps.{Handed, Answer, Says, answer, said, Event, Answers, AnswersTo, Change, loads, puts, prunes, asks, change_of, changed, next, Follows}
use Rattle.rules.specs.Law.{is_refused, NoTrace}
use Rattle.law.proofs.Changes.{at, SaysFirst, says_first}
use Rattle.law.proofs.Repeats.{repeats, follows_split, follows_join}

not_refused : {X : Type 0} → ◌≡◌ {A = Bool} false true → X
not_refused e = absurd (both_ways false refl e)

-- Gets: where the answer is a refusal the buffer is as it was.
found_still : (p : Place) (c : Content) (s q : ℕ) (bs : List ℕ) → is_refused (said reply.Found (found_by p (content_answer c s q (length bs)))) ≡ true → content_fill c bs ≡ bs
found_still p (sound v) s q bs e = by (ltb (length bs) (length v)) e
  where
    by : (b : Bool) → is_refused (said reply.Found (found_by p (cond b (Err (Short s q (length v))) (Ok (length v))))) ≡ true → cond b bs (v ++ drop (length v) bs) ≡ bs
    by true e = refl
    by false e = not_refused e
found_still p (damaged n) s q bs e = refl

first_still : (ys : List Record) (bs : List ℕ) → is_refused (said reply.Found (first_answer ys (length bs))) ≡ true → first_buffer ys bs ≡ bs
first_still [] bs e = refl
first_still (r ∷ ys) bs e = found_still (place_of r) r.row.content r.start r.position bs e

one_still : (ys : List Record) (bs : List ℕ) (r : Result (Option Found) ArchiveFault) (after : List ℕ) → GetsOne ys bs r after → is_refused (said reply.Found r) ≡ true → after ≡ bs
one_still [] bs r after g e = g.1
one_still (y ∷ ys) bs r after g e =
    g.3 ∙ found_still (place_of g.0) g.0.row.content g.0.start g.0.position bs (subst (λ (x : Result (Option Found) ArchiveFault). is_refused (said reply.Found x) ≡ true) g.2 e)

-- Listings likewise.
list_still : {X : Type 0} (f : X → Reply) (x : X) (ys : List Record) (ps : List Place) → is_refused (said f (fitting (length ys) (length ps) x)) ≡ true → listing_places ys ps ≡ ps
list_still {X} f x ys ps e = by (ltb (length ps) (length ys)) e
  where
    by : (b : Bool) → is_refused (said f (cond b (Err (ShortListing (length ys))) (Ok x))) ≡ true → cond b ps (places_of (by_number ys) ++ drop (length ys) ps) ≡ ps
    by true e = refl
    by false e = not_refused e

-- Calls that change the state.
load_still : (s : State) (l n : ℕ) (x : Option ArchiveFault) → is_refused (said reply.Loaded (or_fault x n)) ≡ true → or_keep x (loaded s l) s ≡ s
load_still s l n None e = not_refused e
load_still s l n (Some f) e = refl

put_still : (l : ℕ) (s : State) (label : Label) (key value : List ℕ) (low there : Bool) (o : Option JournalFault) (p : ℕ)
    → is_refused (said reply.Put (cond low (Ok BelowFloor) (cond there (Ok AlreadyThere) (stored_by (section_of l label.number) (or_fault o p))))) ≡ true
    → cond (low || there) s (with_journal s (or_keep o (with_row s.journal (section_of l label.number) (new_row label key value)) s.journal)) ≡ s
put_still l s label key value true there o p e = refl
put_still l s label key value false true o p e = refl
put_still l s label key value false false None p e = not_refused e
put_still l s label key value false false (Some f) p e = refl

prune_still : (s : State) (x : ℕ) (reaches : Bool) (p q : ℕ) (t : State) → is_refused (said reply.Pruned (cond reaches (Ok Unchanged) (Ok (Struck p q)))) ≡ true → cond reaches s t ≡ s
prune_still s x true p q t e = refl
prune_still s x false p q t e = not_refused e

pub record Still (kind : Kind) (s : State) (c : Change) (bs : List ℕ) (ps : List Place) (a : Answer) : Type 0 where
  pub state : changed kind s c bs ≡ s
  pub bytes : a.bytes ≡ bs
  pub places : a.places ≡ ps

module _ (kind : Kind) where
  plain_still : (s : State) (c : Change) (bs : List ℕ) (ps : List Place) (a : Answer) (w : Says) → changed kind s c bs ≡ s → a ≡ answer w bs ps → Still kind s c bs ps a
  plain_still s c bs ps a w k h = record { state = k; bytes = ap (λ x. x.bytes) h; places = ap (λ x. x.places) h }

  refused_as : (a : Answer) (w : Says) (bs : List ℕ) (ps : List Place) → a ≡ answer w bs ps → is_refused a.says ≡ true → is_refused w ≡ true
  refused_as a w bs ps h e = ap (λ (x : Answer). is_refused x.says) (sym h) ∙ e

  still_new : (f : Option ℕ) (j : Meaning) (c : Change) (bs : List ℕ) (ps : List Place) (a : Answer) → SaysFirst kind (at None f j) c bs ps a → is_refused a.says ≡ true
      → Still kind (at None f j) c bs ps a
  still_new f j (loads l) bs ps a h e = plain_still (at None f j) (loads l) bs ps a _ (load_still (at None f j) l _ (fresh_load_fault kind j l) (refused_as a _ bs ps h e)) h
  still_new f j (puts multi label key) bs ps a h e = plain_still (at None f j) (puts multi label key) bs ps a _ refl h
  still_new f j (prunes x) bs ps a h e = plain_still (at None f j) (prunes x) bs ps a _ refl h
  still_new f j asks bs ps a h e = plain_still (at None f j) asks bs ps a _ refl h

  module _ (l : ℕ) (f : Option ℕ) (j : Meaning) (bs : List ℕ) (ps : List Place) (a : Answer) (e : is_refused a.says ≡ true) where
    abbrev S : State
    S = at (Some l) f j

    a_put_still : (multi : Bool) (label : Label) (key : List ℕ) → a ≡ answer (said reply.Put (put_at l S multi label key bs)) bs ps → put_next l S multi label key bs ≡ S
    a_put_still multi label key h =
        put_still l S label key bs (is_below S label.number) (is_there multi S label.number) (append_fault j (section_of l label.number) key bs) _ (refused_as a _ bs ps h e)

    still_at : (c : Call (List ℕ)) → AnswersTo kind S c bs ps a → Still kind S (change_of c) bs ps a
    still_at (Load l') h = plain_still S (loads l') bs ps a _ refl h
    still_at (Put label key) h = plain_still S (puts false label key) bs ps a _ (a_put_still false label key h) h
    still_at (PutMulti label key) h = plain_still S (puts true label key) bs ps a _ (a_put_still true label key h) h
    still_at (Prune x) h = plain_still S (prunes x) bs ps a _ (prune_still S x (floor_reaches f (section_of l x)) _ _ _ (refused_as a _ bs ps h e)) h
    still_at (GetNumber n) h =
        record { state = refl; bytes = ap (λ x. x.bytes) h ∙ first_still (those (bears_number n) (records_of j.sections)) bs (refused_as a _ _ ps h e); places = ap (λ x. x.places) h }
    still_at (GetKey key) h =
        record { state = refl; bytes = ap (λ x. x.bytes) h.3 ∙ one_still (those (bears_key key) (records_of j.sections)) bs h.0 h.1 h.2 (refused_as a _ _ ps h.3 e); places = ap (λ x. x.places) h.3 }
    still_at (GetPlace p) h =
        record { state = refl; bytes = ap (λ x. x.bytes) h ∙ first_still (those (lies_at p) (records_of j.sections)) bs (refused_as a _ _ ps h e); places = ap (λ x. x.places) h }
    still_at (HasNumber n) h = plain_still S asks bs ps a _ refl h
    still_at (HasKey key) h = plain_still S asks bs ps a _ refl h
    still_at (HasBoth n key) h = plain_still S asks bs ps a _ refl h
    still_at (ListNumber n) h =
        record { state = refl; bytes = ap (λ x. x.bytes) h; places = ap (λ x. x.places) h ∙ list_still reply.ListedByNumber _ (those (bears_number n) (records_of j.sections)) ps (refused_as a _ bs _ h e) }
    still_at (ListKey key) h =
        record { state = refl; bytes = ap (λ x. x.bytes) h; places = ap (λ x. x.places) h ∙ list_still reply.ListedByKey _ (those (bears_key key) (records_of j.sections)) ps (refused_as a _ bs _ h e) }
    still_at Counts h = plain_still S asks bs ps a _ refl h

  pub record Unmoved (s : State) (h : Handed) (a : Answer) : Type 0 where
    pub state : next kind s h ≡ s
    pub bytes : a.bytes ≡ h.bytes
    pub places : a.places ≡ h.places

  still_by : (o f : Option ℕ) (j : Meaning) (h : Handed) (a : Answer) → Answers kind (at o f j) h a → is_refused a.says ≡ true → Unmoved (at o f j) h a
  unfolding Answers next
  still_by None f j h a w e = let k = still_new f j (change_of h.call) h.bytes h.places a (says_first kind f j h.call h.bytes h.places a w) e in record { state = k.state; bytes = k.bytes; places = k.places }
  still_by (Some l) f j h a w e = let k = still_at l f j h.bytes h.places a e h.call w in record { state = k.state; bytes = k.bytes; places = k.places }

  pub no_trace : (m : Meaning) → journal.Rising 0 m.sections → (h : List Event) (t : State) → Follows kind (new m) h t → NoTrace kind m h t
  no_trace m up h t follows h₁ h₂ e eq refused =
      let A = follows_split kind h₁ (e ∷ h₂) (new m) t (subst (λ x. Follows kind (new m) x t) eq follows) in
      let k = still_by A.0.size A.0.floor A.0.journal e.asked e.answer A.2.0 refused in
      let g = follows_join kind h₁ h₂ (new m) A.0 t A.1 (subst (λ x. Follows kind x h₂ t) k.state A.2.1) in
      record { bytes = k.bytes; places = k.places; without = g; repeats = repeats kind m up (h₁ ++ h₂) t g }
