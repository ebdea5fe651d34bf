-- A call of any kind, as a turn of a run. Assumes nothing.
use Rattle.std.proofs.Common.{◌≡◌, ℕ, List, sym, subst}
use Rattle.journal.specs.Meaning.{Meaning}
use Rattle.rules.specs.declared.answer.Place.{Place}
use Rattle.rules.specs.State.{Kind}
use Rattle.rules.specs.Steps.{Handed, Says, answer, AnswersTo, change_of, changed, Answers, next}
use Rattle.archive.specs.Archives.{Does}
use Rattle.archive.specs.declared.archive.Archive.{Archive}

module _ {O J T K : Type 0} {fits : O → J → Type 0} {meaning : J → Meaning} {translated : T → List ℕ → ℕ} {hashed : T → ℕ → ℕ} {width : ℕ} {a a' : Archive J T K} (kind : Kind) where
  -- What a call answers and does is what a run tells of its turn, once the buffers are back in their place.
  pub turned : (h : Handed) (w : Says) (bs bs' : List ℕ) (ps ps' : List Place)
      → Does fits meaning translated hashed width a a' (λ s x. AnswersTo kind s h.call h.bytes h.places x) (λ s. changed kind s (change_of h.call) h.bytes) (answer w bs ps)
      → bs' ≡ bs → ps' ≡ ps → Does fits meaning translated hashed width a a' (λ s. Answers kind s h) (λ s. next kind s h) (answer w bs' ps')
  unfolding Answers next
  turned h w bs bs' ps ps' d eb ep =
      subst (λ x. Does fits meaning translated hashed width a a' (λ s. AnswersTo kind s h.call h.bytes h.places) (λ s. changed kind s (change_of h.call) h.bytes) (answer w x ps')) (sym eb)
      (subst (λ x. Does fits meaning translated hashed width a a' (λ s. AnswersTo kind s h.call h.bytes h.places) (λ s. changed kind s (change_of h.call) h.bytes) (answer w bs x)) (sym ep) d)
