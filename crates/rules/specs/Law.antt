-- The law of whole runs, over every history that the rules allow.
--   Every m h P       P holds of each event of h and of the book before it
--   Open b h          a get by a key that several kept rows bear: the one call whose answer is left open
--   Alike m b h k     the histories h and k answer alike, call by call, save where a call is open; b is the book before h
--   row_put h         the row that a put of either kind hands in
--   Exchange          two neighbouring accepted puts into different sections may change places
--   NoTrace           a refused call leaves its buffers, and everything after it, as if it had not been made
--   StaysListed       what was stored is listed until a prune strikes it
--   StaysAway         a number that a prune struck is absent ever after
--   AddsUp            a listing by number has as many places as rows with the number came, less those struck
--   GoesOn            the run can go on with any call
--   Law               all of it
use Rattle.std.specs.Prelude.{◌≡◌, ℕ, ◌+◌, ◌<◌, ◌≤◌, Bool, true, false, cond, ◌⊎◌, List, [], ◌∷◌, ◌++◌, map, length, Some, None, Ok, Err, Option, ◌==◌, nat_lt}
use Rattle.std.specs.List.{AllByRecursion}
use Rattle.journal.specs.Meaning.{Meaning, Row}
use Rattle.journal.specs.Calls.{new_row}
use Rattle.rules.specs.declared.answer.Put.TheVariants.{BelowFloor, Stored}
use Rattle.rules.specs.declared.answer.Reply.TheVariants as reply
use Rattle.rules.specs.declared.call.Call.{Call}
use Rattle.rules.specs.declared.call.Call.TheVariants.{GetNumber, GetKey, GetPlace, HasNumber, HasBoth, ListNumber, ListKey}
use Rattle.rules.specs.State.{Kind, State, new, section_of, those}
use Rattle.rules.specs.Calls.{Among}
use Rattle.rules.specs.Steps.{Handed, Answer, Says, Change, loads, puts, prunes, asks, change_of, Answers, Event, Follows}
use Rattle.rules.specs.History.{Book, blank, is_accepted, is_stored, rows_in, noted, book}
use Rattle.rules.specs.Told.{Told, Counted, plain}

abbrev pub Every : Meaning → List Event → (Book → Event → Type 0) → Type 0
Every m h P = (h₁ h₂ : List Event) (e : Event) → h ≡ h₁ ++ e ∷ h₂ → P (book m h₁) e

abbrev pub asked_in : List Event → List Handed
asked_in h = map (λ e. e.asked) h

-- Two runs of the same calls.
abbrev pub Open : Book → Call (List ℕ) → Type 0
Open b c = (key : List ℕ) × (c ≡ GetKey key) × (n : ℕ) × Counted (λ (r : Row). r.key ≡ key) b.rows n × (2 ≤ n)

abbrev pub Alike : Meaning → Book → List Event → List Event → Type 0
Alike m b [] [] = Unit {0}
Alike m b [] (f ∷ fs) = ⊥
Alike m b (e ∷ es) [] = ⊥
Alike m b (e ∷ es) (f ∷ fs) = ((e.answer ≡ f.answer) ⊎ Open b e.asked.call) × Alike m (noted m b e) es fs

abbrev pub Repeats : Kind → Meaning → List Event → Type 0
Repeats kind m h = (k : List Event) (u : State) → Follows kind (new m) k u → asked_in k ≡ asked_in h → Alike m blank h k

-- Exchange.
abbrev pub put_by : Change → List ℕ → Option Row
put_by (puts multi label key) bs = Some (new_row label key bs)
put_by (loads size) bs = None
put_by (prunes min) bs = None
put_by asks bs = None

abbrev pub row_put : Handed → Option Row
row_put h = put_by (change_of h.call) h.bytes

-- Two puts into different sections, both accepted, after a history whose book is b.
pub record Exchangeable (b : Book) (e f : Event) : Type 0 where
  pub size : ℕ
  pub loaded : b.size ≡ Some size
  pub first : Row
  pub second : Row
  pub puts_first : row_put e.asked ≡ Some first
  pub puts_second : row_put f.asked ≡ Some second
  pub different : section_of size first.label.number ≡ section_of size second.label.number → ⊥
  pub accepted_first : is_accepted e.answer.says ≡ true
  pub accepted_second : is_accepted f.answer.says ≡ true

-- The run k, which makes the calls of h₁, f, e and h₂, against the one that made those of h₁, e, f and h₂.
pub record Exchanged (m : Meaning) (h₁ h₂ : List Event) (e f : Event) (k : List Event) : Type 0 where
  pub k₁ : List Event
  pub k₂ : List Event
  pub e' : Event
  pub f' : Event
  pub cut : k ≡ k₁ ++ f' ∷ (e' ∷ k₂)
  pub before : Alike m blank h₁ k₁
  pub first : e'.answer ≡ e.answer
  pub second : f'.answer ≡ f.answer
  pub accepted_first : is_accepted e'.answer.says ≡ true
  pub accepted_second : is_accepted f'.answer.says ≡ true
  pub after : Alike m (book m (h₁ ++ e ∷ (f ∷ []))) h₂ k₂

abbrev pub Exchange : Kind → Meaning → List Event → Type 0
Exchange kind m h =
    (h₁ h₂ : List Event) (e f : Event) → h ≡ h₁ ++ e ∷ (f ∷ h₂) → Exchangeable (book m h₁) e f
    → (k : List Event) (u : State) → Follows kind (new m) k u → asked_in k ≡ asked_in h₁ ++ f.asked ∷ (e.asked ∷ asked_in h₂)
    → Exchanged m h₁ h₂ e f k

-- Refusals.
abbrev pub is_refused : Says → Bool
is_refused None = false
is_refused (Some (Err fault)) = true
is_refused (Some (Ok r)) = false

pub record Traceless (kind : Kind) (m : Meaning) (h₁ h₂ : List Event) (e : Event) (t : State) : Type 0 where
  pub bytes : e.answer.bytes ≡ e.asked.bytes
  pub places : e.answer.places ≡ e.asked.places
  pub without : Follows kind (new m) (h₁ ++ h₂) t
  pub repeats : Repeats kind m (h₁ ++ h₂)

abbrev pub NoTrace : Kind → Meaning → List Event → State → Type 0
NoTrace kind m h t = (h₁ h₂ : List Event) (e : Event) → h ≡ h₁ ++ e ∷ h₂ → is_refused e.answer.says ≡ true → Traceless kind m h₁ h₂ e t

-- What was stored, what was struck.
abbrev pub Spares : ℕ → ℕ → Event → Type 0
Spares l n e = (min : ℕ) → change_of e.asked.call ≡ prunes min → is_accepted e.answer.says ≡ true → section_of l min ≤ n

pub record ListsRow (r : Row) (p : ℕ) (f : Event) : Type 0 where
  pub by_number : f.asked.call ≡ ListNumber r.label.number → is_accepted f.answer.says ≡ true → Among (record { number = r.label.number; position = p }) f.answer.places
  pub by_key : f.asked.call ≡ ListKey r.key → is_accepted f.answer.says ≡ true → Among (record { number = r.label.number; position = p }) f.answer.places

abbrev pub StaysListed : Meaning → List Event → Type 0
StaysListed m h =
    (h₁ h₂ h₃ : List Event) (e f : Event) (l : ℕ) (r : Row) (s p : ℕ) → h ≡ h₁ ++ e ∷ (h₂ ++ f ∷ h₃)
    → (book m h₁).size ≡ Some l → row_put e.asked ≡ Some r → e.answer.says ≡ Some (Ok (reply.Put (Stored s p)))
    → AllByRecursion (Spares l r.label.number) h₂ → ListsRow r p f

pub record Away (n : ℕ) (c : Call (List ℕ)) (h : Handed) (a : Answer) : Type 0 where
  pub got : c ≡ GetNumber n → a ≡ plain h (reply.Found None)
  pub got_at : (p : ℕ) → c ≡ GetPlace (record { number = n; position = p }) → a ≡ plain h (reply.Found None)
  pub has : c ≡ HasNumber n → a ≡ plain h (reply.Has false)
  pub has_both : (key : List ℕ) → c ≡ HasBoth n key → a ≡ plain h (reply.Has false)
  pub listed : c ≡ ListNumber n → a ≡ plain h (reply.ListedByNumber 0)
  pub put : (r : Row) → row_put h ≡ Some r → r.label.number ≡ n → a ≡ plain h (reply.Put BelowFloor)

abbrev pub StaysAway : Meaning → List Event → Type 0
StaysAway m h =
    (h₁ h₂ h₃ : List Event) (e f : Event) (l min n : ℕ) → h ≡ h₁ ++ e ∷ (h₂ ++ f ∷ h₃)
    → (book m h₁).size ≡ Some l → change_of e.asked.call ≡ prunes min → is_accepted e.answer.says ≡ true → n < section_of l min
    → Away n f.asked.call f.asked f.answer

-- How many rows with a number came, by load or put, and how many of them went; numbers alone, no list of rows.
pub record Flow : Type 0 where
  pub size : Option ℕ
  pub came : ℕ
  pub went : ℕ

abbrev pub number_is : ℕ → Row → Bool
number_is n r = r.label.number == n

abbrev pub flow_struck : Option ℕ → ℕ → ℕ → Flow → Flow
flow_struck None min n x = x
flow_struck (Some l) min n x = cond (nat_lt n (section_of l min)) (record { size = x.size; came = x.came; went = x.came }) x

abbrev pub flow_by : Meaning → ℕ → Change → List ℕ → Says → Flow → Flow
flow_by m n (loads l) bs w x = cond (is_accepted w) (record { size = Some l; came = length (those (number_is n) (rows_in m.sections)); went = 0 }) x
flow_by m n (puts multi label key) bs w x = cond (is_stored w) (cond (label.number == n) (record { size = x.size; came = x.came + 1; went = x.went }) x) x
flow_by m n (prunes min) bs w x = cond (is_accepted w) (flow_struck x.size min n x) x
flow_by m n asks bs w x = x

abbrev pub flow_after : Meaning → ℕ → Flow → List Event → Flow
flow_after m n x [] = x
flow_after m n x (e ∷ es) = flow_after m n (flow_by m n (change_of e.asked.call) e.asked.bytes e.answer.says x) es

abbrev pub flow : Meaning → ℕ → List Event → Flow
flow m n h = flow_after m n (record { size = None; came = 0; went = 0 }) h

abbrev pub AddsUp : Meaning → List Event → Type 0
AddsUp m h =
    (h₁ h₂ : List Event) (e : Event) (n c : ℕ) → h ≡ h₁ ++ e ∷ h₂ → e.asked.call ≡ ListNumber n → e.answer.says ≡ Some (Ok (reply.ListedByNumber c))
    → c + (flow m n h₁).went ≡ (flow m n h₁).came

-- The rules allow an answer to every call: no run is stuck.
abbrev pub GoesOn : Kind → State → Type 0
GoesOn kind t = (h : Handed) → (a : Answer) × Answers kind t h a

-- h is a history of an archive that was new over a journal of meaning m, and t the state that it leads to.
--   by_the_rules   each call is answered by the rules
--   told           each answer is what the kept records, by arrival, require: listings are exact, and so is every other question
--   repeats        whoever makes the same calls over a journal of that meaning, of whatever type, is answered alike
--   exchange       and so is whoever makes two puts the other way round
--   no_trace       a refusal leaves none
--   stays_listed, stays_away, adds_up, goes_on   what keeps the words above from being empty
pub record Law (kind : Kind) (m : Meaning) (h : List Event) (t : State) : Type 0 where
  pub by_the_rules : Follows kind (new m) h t
  pub told : Every m h (λ b e. Told kind m b e.asked e.answer)
  pub repeats : Repeats kind m h
  pub exchange : Exchange kind m h
  pub no_trace : NoTrace kind m h t
  pub stays_listed : StaysListed m h
  pub stays_away : StaysAway m h
  pub adds_up : AddsUp m h
  pub goes_on : GoesOn kind t
