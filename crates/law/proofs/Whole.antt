-- The law of whole runs, from the rules alone. Assumes nothing.
use Rattle.std.proofs.Common.{List, ◌∷◌, refl, subst}
use Rattle.journal.specs.Meaning as journal
use Rattle.journal.specs.Meaning.{Meaning, Lawful}
use Rattle.rules.specs.State.{Kind, State, new}
use Rattle.rules.specs.Steps.{Event, Follows}
use Rattle.rules.specs.History.{blank, book}
use Rattle.rules.specs.Told.{Told}
use Rattle.rules.specs.Law.{Every, Law}
use Rattle.law.proofs.Arrivals.{rising_zero}
use Rattle.law.proofs.Books.{ties_along}
use Rattle.law.proofs.Tells.{tells}
use Rattle.law.proofs.Repeats.{repeats, follows_split}
use Rattle.law.proofs.Refusals.{no_trace}
use Rattle.law.proofs.Exchange.{exchange}
use Rattle.law.proofs.Flows.{adds_up}
use Rattle.law.proofs.Lasting.{stays_listed}
use Rattle.law.proofs.Away.{stays_away}
use Rattle.law.proofs.Answerable.{goes_on}

told : (kind : Kind) (m : Meaning) → journal.Rising 0 m.sections → (h : List Event) (t : State) → Follows kind (new m) h t → Every m h (λ b e. Told kind m b e.asked e.answer)
told kind m up h t follows h₁ h₂ e eq =
    let A = follows_split kind h₁ (e ∷ h₂) (new m) t (subst (λ x. Follows kind (new m) x t) eq follows) in
    tells kind m A.0 (book m h₁) e.asked e.answer (ties_along kind m up h₁ (new m) A.0 blank (refl, refl) A.1) A.2.0

pub runs_obey : (kind : Kind) (m : Meaning) (h : List Event) (t : State) → Lawful m → Follows kind (new m) h t → Law kind m h t
runs_obey kind m h t lawful follows =
    let up = rising_zero m.floor m.sections lawful.rising in
    let o = told kind m up h t follows in
    record {
      by_the_rules = follows;
      told = o;
      repeats = repeats kind m up h t follows;
      exchange = exchange kind m up h t follows;
      no_trace = no_trace kind m up h t follows;
      stays_listed = stays_listed kind m up h t follows;
      stays_away = stays_away kind m up h t follows;
      adds_up = adds_up kind m h o;
      goes_on = goes_on kind t;
    }
