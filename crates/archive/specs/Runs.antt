-- Whole runs.
--   history bytes us vs   the history that the turns us, answered as vs, stand for; keys by their bytes
--   SameCalls us vs       the turns vs make the calls of us, one by one, with the same keys
--   RunsAlike m h k       what ties a second history k to the history h, both over journals of meaning m: where it asks the same,
--                         it is answered alike, gets by a key with several bearers aside; and where it asks two neighbouring
--                         puts into different sections, both accepted in h, the other way round, so are all the others
use Rattle.std.specs.Prelude.{◌≡◌, ℕ, List, ◌∷◌, ◌++◌, map}
use Rattle.journal.specs.Meaning.{Meaning}
use Rattle.rules.specs.declared.turn.Turn.{Turn}
use Rattle.rules.specs.Steps.{Event, history_of}
use Rattle.rules.specs.Turns.{handed, answered}
use Rattle.rules.specs.History.{blank, book}
use Rattle.rules.specs.Law.{asked_in, Alike, Exchangeable, Exchanged}

abbrev pub history : {K : Type 0} → (K → List ℕ) → List (Turn K) → List (Turn K) → List Event
history bytes us vs = history_of (map (handed bytes) us) (map answered vs)

abbrev pub SameCalls : {K : Type 0} → List (Turn K) → List (Turn K) → Type 0
SameCalls us vs = map (λ u. u.call) vs ≡ map (λ u. u.call) us

pub record RunsAlike (m : Meaning) (h k : List Event) : Type 0 where
  pub same : asked_in k ≡ asked_in h → Alike m blank h k
  pub exchanged :
      (h₁ h₂ : List Event) (e f : Event) → h ≡ h₁ ++ e ∷ (f ∷ h₂) → Exchangeable (book m h₁) e f
      → asked_in k ≡ asked_in h₁ ++ f.asked ∷ (e.asked ∷ asked_in h₂) → Exchanged m h₁ h₂ e f k
