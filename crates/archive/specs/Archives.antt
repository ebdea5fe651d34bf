-- What an archive stands for, and what each of its calls promises.
--   state_of    the state of the rules: section size, floor, and the meaning of the journal
--   Fits        what has to hold beside the state: the journal's own condition, a lawful meaning, and an index that is that of
--               the journal's rows, section by section, and of nothing else; o is any past of the journal
--   Does        a call: what fitted still fits, the answer is one that says allows at the state before, the state after is
--               the one that next gives, and the translator is the same
--   Tells       a call that changes nothing at all
--   With        the answer is the first, and the buffer afterwards the second
--   home_of     where a number that is to be stored has its section, by section size and floor
-- An answer is a result together with the buffer afterwards, where there is one.
use Rattle.std.specs.Prelude.{◌≡◌, ℕ, cond, List, Some, None, Ok, Err, Option, Result, nat_lt}
use Rattle.journal.specs.Meaning.{Meaning, Lawful}
use Rattle.rules.specs.declared.fault.ArchiveFault.{ArchiveFault}
use Rattle.rules.specs.declared.fault.ArchiveFault.TheVariants.{NotLoaded}
use Rattle.rules.specs.State.{State, section_of, or_zero}
use Rattle.index.specs.Slots.{views}
use Rattle.archive_layout.specs.Fit.{FitBy}
use Rattle.archive.specs.Parts.{coding_of}
use Rattle.archive.specs.declared.archive.Archive.{Archive}

abbrev pub state_of : {J T K : Type 0} → (J → Meaning) → Archive J T K → State
state_of meaning a = record { size = a.size; floor = a.floor; journal = meaning a.journal }

pub record Fits {O J T K : Type 0} (fits : O → J → Type 0) (meaning : J → Meaning) (translated : T → List ℕ → ℕ) (hashed : T → ℕ → ℕ) (width : ℕ) (o : O) (a : Archive J T K) : Type 0 where
  pub journal : fits o a.journal
  pub lawful : Lawful (meaning a.journal)
  pub index : FitBy (coding_of translated hashed a.translator) width a.size (meaning a.journal) (views a.index)

pub record Does {O J T K X : Type 0} (fits : O → J → Type 0) (meaning : J → Meaning) (translated : T → List ℕ → ℕ) (hashed : T → ℕ → ℕ) (width : ℕ)
    (a a' : Archive J T K) (says : State → X → Type 0) (next : State → State) (r : X) : Type 0 where
  pub fit : (o : O) → Fits fits meaning translated hashed width o a → Fits fits meaning translated hashed width o a'
  pub answer : (o : O) → Fits fits meaning translated hashed width o a → says (state_of meaning a) r
  pub after : (o : O) → Fits fits meaning translated hashed width o a → state_of meaning a' ≡ next (state_of meaning a)
  pub same : a'.translator ≡ a.translator

abbrev pub Tells : {O J T K X : Type 0} → (O → J → Type 0) → (J → Meaning) → (T → List ℕ → ℕ) → (T → ℕ → ℕ) → ℕ → Archive J T K → (State → X → Type 0) → X → Type 0
Tells {O} fits meaning translated hashed width a says r = (o : O) → Fits fits meaning translated hashed width o a → says (state_of meaning a) r

abbrev pub With : {X Y : Type 0} → X → Y → X × Y → Type 0
With a b x = (x.0 ≡ a) × (x.1 ≡ b)

abbrev pub home_of : Option ℕ → Option ℕ → ℕ → Result (Option ℕ) ArchiveFault
home_of None floor n = Err NotLoaded
home_of (Some l) floor n = Ok (cond (nat_lt n (or_zero floor)) None (Some (section_of l n)))
