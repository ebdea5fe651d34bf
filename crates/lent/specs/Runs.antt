-- Whole runs of turns in lent buffers.
--   handed u c         the call c with what the buffers of the turn u hold
--   asked_all f us     what those of the turns us hand in that ask for a call, in their order; f tells the flaws of a key
--   misread u e        the turn u, which asks for no call, with what is told of that
--   answered u a       the turn u with the answer a, and its buffers as that leaves them
--   written f us rs    the turns us with the answers rs, one to each that asks for a call
--   Takes kind s u v   the turn u, taken in the state s, may end as v
--   after kind s u     the state after it
--   Serves kind m us vs t   the turns us, taken over a journal of meaning m, end as vs, obey the law, and leave the state t
--   ServesTo .. m'     the same, and m' is what the journal then means
--   save_fault l b c   the refusal of the pages b, or that what is saved into is of another length
--   Keeps l es vs m    the bytes es and vs are accepted as pages with the limits l, and mean m with floor 0
--   ServesIf o ..      what a run from slices and limits promises, by the refusal o: where there is one, it is the answer, and the
--                      turns are as they were; else the law, and of what the journal then means holds what saved says
use Rattle.std.specs.Prelude.{◌≡◌, ℕ, Bool, cond, ◌&&◌, List, [], ◌∷◌, length, Some, None, Ok, Err, Option, Result, ◌==◌}
use Rattle.journal.specs.Meaning.{Meaning}
use Rattle.journal.specs.declared.limits.Limits.{Limits}
use Rattle.journal.specs.declared.fault.JournalFault.{JournalFault}
use Rattle.journal.specs.declared.fault.JournalFault.TheVariants.{WrongSizes}
use Rattle.format.specs.Mount.{mount_fault}
use Rattle.format.specs.State.{decoded, unfloored}
use Rattle.rules.specs.declared.call.Call.{Call}
use Rattle.rules.specs.State.{Kind, State}
use Rattle.rules.specs.Steps.{Handed, Answer, Answers, next, history_of}
use Rattle.rules.specs.Law.{Law}
use Rattle.lent.specs.declared.asking.Misread.{Misread}
use Rattle.lent.specs.Asked.{asked, told_misread}
use Rattle.lent.specs.Seen.{Seen}
use Rattle.lent.specs.Told.{told}

abbrev pub handed : Seen → Call (List ℕ) → Handed
handed u c = record { call = c; bytes = u.bytes; places = u.places }

abbrev pub more : Result (Call (List ℕ)) Misread → Seen → List Handed → List Handed
more (Ok c) u hs = handed u c ∷ hs
more (Err e) u hs = hs

abbrev pub asked_all : (List ℕ → Option ℕ) → List Seen → List Handed
asked_all flaw [] = []
asked_all flaw (u ∷ us) = more (asked flaw u) u (asked_all flaw us)

abbrev pub misread : Seen → Misread → Seen
misread u e = record u { answer = told_misread e }

abbrev pub answered : Seen → Answer → Seen
answered u a = record u { bytes = a.bytes; places = a.places; answer = told a.says }

abbrev pub write : Result (Call (List ℕ)) Misread → Seen → List Answer → (List Answer → List Seen) → List Seen
write (Err e) u rs rest = misread u e ∷ rest rs
write (Ok c) u [] rest = u ∷ rest []
write (Ok c) u (a ∷ rs) rest = answered u a ∷ rest rs

abbrev pub written : (List ℕ → Option ℕ) → List Seen → List Answer → List Seen
written flaw [] rs = []
written flaw (u ∷ us) rs = write (asked flaw u) u rs (written flaw us)

abbrev pub TakesAs : Kind → State → Result (Call (List ℕ)) Misread → Seen → Seen → Type 0
TakesAs kind s (Ok c) u v = (a : Answer) × Answers kind s (handed u c) a × (v ≡ answered u a)
TakesAs kind s (Err e) u v = v ≡ misread u e

abbrev pub Takes : Kind → State → Seen → Seen → Type 0
Takes kind s u v = TakesAs kind s (asked kind.flaw u) u v

abbrev pub after_as : Kind → State → Result (Call (List ℕ)) Misread → Seen → State
after_as kind s (Ok c) u = next kind s (handed u c)
after_as kind s (Err e) u = s

abbrev pub after : Kind → State → Seen → State
after kind s u = after_as kind s (asked kind.flaw u) u

pub record Serves (kind : Kind) (m : Meaning) (us vs : List Seen) (t : State) : Type 0 where
  pub answers : List Answer
  pub even : length answers ≡ length (asked_all kind.flaw us)
  pub law : Law kind m (history_of (asked_all kind.flaw us) answers) t
  pub turns : vs ≡ written kind.flaw us answers

abbrev pub ServesTo : Kind → Meaning → List Seen → List Seen → Meaning → Type 0
ServesTo kind m us vs m' = (t : State) × Serves kind m us vs t × (m' ≡ t.journal)

-- What lies in two slices.
pub record Bytes : Type 0 where
  pub entries : List ℕ
  pub values : List ℕ

abbrev pub both : List ℕ → List ℕ → Bytes
both es vs = record { entries = es; values = vs }

abbrev pub as_long : Bytes → Bytes → Bool
as_long a b = length a.entries == length b.entries && length a.values == length b.values

abbrev pub save_fault : Limits → Bytes → Bytes → Option JournalFault
save_fault l b saved = cond (as_long saved b) (mount_fault l b.entries b.values) (Some WrongSizes)

-- Who keeps the bytes es and vs keeps a journal that means m, with floor 0.
abbrev pub Keeps : Limits → List ℕ → List ℕ → Meaning → Type 0
Keeps l es vs m = (mount_fault l es vs ≡ None) × (decoded l es vs ≡ unfloored m)

abbrev pub ServesIf : Option JournalFault → Kind → Meaning → List Seen → List Seen → (Meaning → Type 0) → Result Unit JournalFault → Type 0
ServesIf (Some f) kind m us vs saved r = (r ≡ Err f) × (vs ≡ us)
ServesIf None kind m us vs saved r = (r ≡ Ok tt) × (t : State) × Serves kind m us vs t × saved t.journal
