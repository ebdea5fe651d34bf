-- The rules allow an answer to every call at every state. Assumes nothing.
use Rattle.std.proofs.Common.{ℕ, List, [], ◌∷◌, length, Some, None, Ok, Err, Option, Result, refl, inl}
use Rattle.rules.specs.declared.answer.Place.{Place}
use Rattle.rules.specs.declared.answer.Found.{Found}
use Rattle.rules.specs.declared.answer.Reply.TheVariants as reply
use Rattle.rules.specs.declared.call.Call.{Call}
use Rattle.rules.specs.declared.call.Call.TheVariants.{Load, Put, PutMulti, Prune, GetNumber, GetKey, GetPlace, HasNumber, HasKey, HasBoth, ListNumber, ListKey, Counts}
use Rattle.rules.specs.declared.fault.ArchiveFault.{ArchiveFault}
use Rattle.rules.specs.declared.fault.ArchiveFault.TheVariants.{NotLoaded}
use Rattle.rules.specs.State.{Kind, State, Record, kept, those, bears_key}
use Rattle.rules.specs.Calls.{found_answer, found_buffer, GetsOne, GetsKeyBy}
use Rattle.rules.specs.Steps.{Answer, answer, said, Answers, AnswersTo}
use Rattle.rules.specs.Law.{GoesOn}

some_bearer : (rs : List Record) (bs : List ℕ) → (r : Result (Option Found) ArchiveFault) × (after : List ℕ) × GetsOne rs bs r after
some_bearer [] bs = (Ok None, bs, (refl, refl))
some_bearer (r ∷ rs) bs = (found_answer r (length bs), found_buffer r bs, (r, inl refl, refl, refl))

some_get : (o : Option ℕ) (rs : List Record) (bs : List ℕ) → (r : Result (Option Found) ArchiveFault) × (after : List ℕ) × GetsKeyBy o rs bs r after
some_get None rs bs = (Err NotLoaded, bs, (refl, refl))
some_get (Some l) rs bs = some_bearer rs bs

some_answer : (kind : Kind) (s : State) (c : Call (List ℕ)) (bs : List ℕ) (ps : List Place) → (a : Answer) × AnswersTo kind s c bs ps a
some_answer kind s (Load size) bs ps = (_, refl)
some_answer kind s (Put label key) bs ps = (_, refl)
some_answer kind s (PutMulti label key) bs ps = (_, refl)
some_answer kind s (Prune min) bs ps = (_, refl)
some_answer kind s (GetNumber n) bs ps = (_, refl)
some_answer kind s (GetKey key) bs ps =
    let k = some_get s.size (those (bears_key key) (kept s)) bs in
    (answer (said reply.Found k.0) k.1 ps, (k.0, k.1, k.2, refl))
some_answer kind s (GetPlace p) bs ps = (_, refl)
some_answer kind s (HasNumber n) bs ps = (_, refl)
some_answer kind s (HasKey key) bs ps = (_, refl)
some_answer kind s (HasBoth n key) bs ps = (_, refl)
some_answer kind s (ListNumber n) bs ps = (_, refl)
some_answer kind s (ListKey key) bs ps = (_, refl)
some_answer kind s Counts bs ps = (_, refl)

pub goes_on : (kind : Kind) (t : State) → GoesOn kind t
unfolding Answers
goes_on kind t h = some_answer kind t h.call h.bytes h.places
