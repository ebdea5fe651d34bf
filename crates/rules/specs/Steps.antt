-- One call of any kind, and one after another.
--   Handed             a call with what its buffers hold
--   Answer             what it says, None where it was not made, and what its buffers hold afterwards
--   Answers            whether the rules allow an answer: one to each call, save where a get by key has several bearers
--   Change             what a call may do to the state
--   next               the state after the call
--   Event              a call and its answer; a history is a list of events
--   Follows kind s h t the history h, each call answered by the rules, leads from the state s to t
--   history_of cs rs   the calls cs with the answers rs, one by one
use Rattle.std.specs.Prelude.{◌≡◌, ℕ, Bool, true, false, List, [], ◌∷◌, length, Some, Ok, Err, Option, Result}
use Rattle.journal.specs.declared.row.Label.{Label}
use Rattle.rules.specs.declared.answer.Place.{Place}
use Rattle.rules.specs.declared.answer.Found.{Found}
use Rattle.rules.specs.declared.answer.Reply.{Reply}
use Rattle.rules.specs.declared.answer.Reply.TheVariants as reply
use Rattle.rules.specs.declared.call.Call.{Call}
use Rattle.rules.specs.declared.call.Call.TheVariants.{Load, Put, PutMulti, Prune, GetNumber, GetKey, GetPlace, HasNumber, HasKey, HasBoth, ListNumber, ListKey, Counts}
use Rattle.rules.specs.declared.fault.ArchiveFault.{ArchiveFault}
use Rattle.rules.specs.State.{Kind, State, bears_number, bears_key, bears_both}
use Rattle.rules.specs.Calls.{load_answer, load_after, put_answer, put_after, prune_answer, prune_after, get_number_answer, get_number_buffer, get_place_answer, get_place_buffer, GetsKey, has_answer, list_places, list_number_answer, list_key_answer, counts_answer}

-- Keys stand here by their bytes.
pub record Handed : Type 0 where
  pub call : Call (List ℕ)
  pub bytes : List ℕ
  pub places : List Place

abbrev pub Says : Type 0
Says = Option (Result Reply ArchiveFault)

pub record Answer : Type 0 where
  pub says : Says
  pub bytes : List ℕ
  pub places : List Place

abbrev pub said : {X : Type 0} → (X → Reply) → Result X ArchiveFault → Says
said f (Ok x) = Some (Ok (f x))
said f (Err fault) = Some (Err fault)

abbrev pub answer : Says → List ℕ → List Place → Answer
answer w bytes places = record { says = w; bytes = bytes; places = places }

abbrev pub AnswersTo : Kind → State → Call (List ℕ) → List ℕ → List Place → Answer → Type 0
AnswersTo kind s (Load size) bs ps a = a ≡ answer (said reply.Loaded (load_answer kind s size)) bs ps
AnswersTo kind s (Put label key) bs ps a = a ≡ answer (said reply.Put (put_answer s false label key bs)) bs ps
AnswersTo kind s (PutMulti label key) bs ps a = a ≡ answer (said reply.Put (put_answer s true label key bs)) bs ps
AnswersTo kind s (Prune min) bs ps a = a ≡ answer (said reply.Pruned (prune_answer s min)) bs ps
AnswersTo kind s (GetNumber n) bs ps a = a ≡ answer (said reply.Found (get_number_answer s n (length bs))) (get_number_buffer s n bs) ps
AnswersTo kind s (GetKey key) bs ps a =
    (r : Result (Option Found) ArchiveFault) × (after : List ℕ) × GetsKey s key bs r after × (a ≡ answer (said reply.Found r) after ps)
AnswersTo kind s (GetPlace p) bs ps a = a ≡ answer (said reply.Found (get_place_answer s p (length bs))) (get_place_buffer s p bs) ps
AnswersTo kind s (HasNumber n) bs ps a = a ≡ answer (said reply.Has (has_answer s (bears_number n))) bs ps
AnswersTo kind s (HasKey key) bs ps a = a ≡ answer (said reply.Has (has_answer s (bears_key key))) bs ps
AnswersTo kind s (HasBoth n key) bs ps a = a ≡ answer (said reply.Has (has_answer s (bears_both n key))) bs ps
AnswersTo kind s (ListNumber n) bs ps a = a ≡ answer (said reply.ListedByNumber (list_number_answer s n (length ps))) bs (list_places s (bears_number n) ps)
AnswersTo kind s (ListKey key) bs ps a = a ≡ answer (said reply.ListedByKey (list_key_answer kind s key (length ps))) bs (list_places s (bears_key key) ps)
AnswersTo kind s Counts bs ps a = a ≡ answer (said reply.Counted (counts_answer s)) bs ps

-- What a call may do to the state; most only ask. A put is handed its label and key, and stores the bytes.
pub data Change : Type 0 where
  loads : ℕ → Change
  puts : Bool → Label → List ℕ → Change
  prunes : ℕ → Change
  asks : Change

abbrev pub change_of : Call (List ℕ) → Change
change_of (Load size) = loads size
change_of (Put label key) = puts false label key
change_of (PutMulti label key) = puts true label key
change_of (Prune min) = prunes min
change_of (GetNumber n) = asks
change_of (GetKey key) = asks
change_of (GetPlace p) = asks
change_of (HasNumber n) = asks
change_of (HasKey key) = asks
change_of (HasBoth n key) = asks
change_of (ListNumber n) = asks
change_of (ListKey key) = asks
change_of Counts = asks

abbrev pub changed : Kind → State → Change → List ℕ → State
changed kind s (loads size) bs = load_after kind s size
changed kind s (puts multi label key) bs = put_after s multi label key bs
changed kind s (prunes min) bs = prune_after s min
changed kind s asks bs = s

unfoldable pub Answers : Kind → State → Handed → Answer → Type 0
Answers kind s h a = AnswersTo kind s h.call h.bytes h.places a

unfoldable pub next : Kind → State → Handed → State
next kind s h = changed kind s (change_of h.call) h.bytes

pub record Event : Type 0 where
  pub asked : Handed
  pub answer : Answer

abbrev pub Follows : Kind → State → List Event → State → Type 0
Follows kind s [] t = s ≡ t
Follows kind s (e ∷ es) t = Answers kind s e.asked e.answer × Follows kind (next kind s e.asked) es t

abbrev pub history_of : List Handed → List Answer → List Event
history_of [] rest = []
history_of (h ∷ hs) [] = []
history_of (h ∷ hs) (a ∷ rest) = record { asked = h; answer = a } ∷ history_of hs rest
