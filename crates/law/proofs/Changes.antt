-- What the rules say of a call by what it may do to the state. Assumes nothing.
use Rattle.std.proofs.Common.{◌≡◌, ℕ, List, Some, None, Err, Option, ap, ◌∙◌}
use Rattle.journal.specs.Meaning.{Meaning}
use Rattle.rules.specs.declared.answer.Place.{Place}
use Rattle.rules.specs.declared.answer.Reply.TheVariants as reply
use Rattle.rules.specs.declared.call.Call.{Call}
use Rattle.rules.specs.declared.call.Call.TheVariants.{Load, Put, PutMulti, Prune, GetNumber, GetKey, GetPlace, HasNumber, HasKey, HasBoth, ListNumber, ListKey, Counts}
use Rattle.rules.specs.declared.fault.ArchiveFault.TheVariants.{NotLoaded}
use Rattle.rules.specs.State.{Kind, State}
use Rattle.rules.specs.Calls.{load_answer, put_answer, prune_answer}
use Rattle.rules.specs.Steps.{Answer, answer, said, AnswersTo, Change, loads, puts, prunes, asks, change_of}

abbrev pub at : Option ℕ → Option ℕ → Meaning → State
at o f j = record { size = o; floor = f; journal = j }

-- The answer of a call that may change the state; of another it says nothing.
abbrev pub SaysChange : Kind → State → Change → List ℕ → List Place → Answer → Type 0
SaysChange kind s (loads size) bs ps a = a ≡ answer (said reply.Loaded (load_answer kind s size)) bs ps
SaysChange kind s (puts multi label key) bs ps a = a ≡ answer (said reply.Put (put_answer s multi label key bs)) bs ps
SaysChange kind s (prunes min) bs ps a = a ≡ answer (said reply.Pruned (prune_answer s min)) bs ps
SaysChange kind s asks bs ps a = Unit {0}

pub says_change : (kind : Kind) (s : State) (c : Call (List ℕ)) (bs : List ℕ) (ps : List Place) (a : Answer) → AnswersTo kind s c bs ps a → SaysChange kind s (change_of c) bs ps a
says_change kind s (Load size) bs ps a h = h
says_change kind s (Put label key) bs ps a h = h
says_change kind s (PutMulti label key) bs ps a h = h
says_change kind s (Prune min) bs ps a h = h
says_change kind s (GetNumber n) bs ps a h = tt
says_change kind s (GetKey key) bs ps a h = tt
says_change kind s (GetPlace p) bs ps a h = tt
says_change kind s (HasNumber n) bs ps a h = tt
says_change kind s (HasKey key) bs ps a h = tt
says_change kind s (HasBoth n key) bs ps a h = tt
says_change kind s (ListNumber n) bs ps a h = tt
says_change kind s (ListKey key) bs ps a h = tt
says_change kind s Counts bs ps a h = tt

-- Before any load every call but a load is refused.
abbrev pub SaysFirst : Kind → State → Change → List ℕ → List Place → Answer → Type 0
SaysFirst kind s (loads size) bs ps a = a ≡ answer (said reply.Loaded (load_answer kind s size)) bs ps
SaysFirst kind s (puts multi label key) bs ps a = a ≡ answer (Some (Err NotLoaded)) bs ps
SaysFirst kind s (prunes min) bs ps a = a ≡ answer (Some (Err NotLoaded)) bs ps
SaysFirst kind s asks bs ps a = a ≡ answer (Some (Err NotLoaded)) bs ps

pub says_first : (kind : Kind) (f : Option ℕ) (j : Meaning) (c : Call (List ℕ)) (bs : List ℕ) (ps : List Place) (a : Answer) → AnswersTo kind (at None f j) c bs ps a
    → SaysFirst kind (at None f j) (change_of c) bs ps a
says_first kind f j (Load size) bs ps a h = h
says_first kind f j (Put label key) bs ps a h = h
says_first kind f j (PutMulti label key) bs ps a h = h
says_first kind f j (Prune min) bs ps a h = h
says_first kind f j (GetNumber n) bs ps a h = h
says_first kind f j (GetKey key) bs ps a h = h.3 ∙ ap (λ x. answer (said reply.Found x) h.1 ps) h.2.0 ∙ ap (λ x. answer (Some (Err NotLoaded)) x ps) h.2.1
says_first kind f j (GetPlace p) bs ps a h = h
says_first kind f j (HasNumber n) bs ps a h = h
says_first kind f j (HasKey key) bs ps a h = h
says_first kind f j (HasBoth n key) bs ps a h = h
says_first kind f j (ListNumber n) bs ps a h = h
says_first kind f j (ListKey key) bs ps a h = h
says_first kind f j Counts bs ps a h = h
