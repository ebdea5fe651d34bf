-- Runs on real journals.
--   Sails kind m us vs m'   the turns us, answered as vs over a journal of meaning m that means m' afterwards, obey the law
--   SailsIf o ..            what a run from slices and limits promises, by the refusal o of the journal's check: where there is one,
--                           it is the answer, and the turns are as they were; else the turns were taken over a journal of meaning m,
--                           and obey the law
use Rattle.std.specs.Prelude.{◌≡◌, ℕ, List, Some, None, Ok, Err, Option, Result}
use Rattle.journal.specs.Meaning.{Meaning}
use Rattle.journal.specs.declared.fault.JournalFault.{JournalFault}
use Rattle.rules.specs.declared.turn.Turn.{Turn}
use Rattle.rules.specs.State.{Kind, State}
use Rattle.rules.specs.Law.{Law}
use Rattle.archive.specs.Runs.{history, SameCalls}

pub record Sails {K : Type 0} (kind : Kind) (m : Meaning) (bytes : K → List ℕ) (us vs : List (Turn K)) (m' : Meaning) : Type 0 where
  pub calls : SameCalls us vs
  pub state : State
  pub law : Law kind m (history bytes us vs) state
  pub journal : m' ≡ state.journal

abbrev pub SailsIf : {K : Type 0} → Option JournalFault → Kind → Meaning → (K → List ℕ) → List (Turn K) → List (Turn K) → Result Unit JournalFault → Type 0
SailsIf (Some f) kind m bytes us vs r = (r ≡ Err f) × (vs ≡ us)
SailsIf None kind m bytes us vs r = (r ≡ Ok tt) × SameCalls us vs × (t : State) × Law kind m (history bytes us vs) t
