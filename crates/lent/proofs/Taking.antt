-- One turn. Assumes nothing.
use Rattle.std.proofs.Common.{◌≡◌, ℕ, List, Ok, Err, Result, refl, subst}
use Rattle.journal.specs.Meaning.{Meaning}
use Rattle.rules.specs.declared.call.Call.{Call}
use Rattle.rules.specs.State.{Kind}
use Rattle.rules.specs.Steps.{Says, answer, AnswersTo, change_of, changed, Answers, next}
use Rattle.archive.specs.Archives.{Does}
use Rattle.archive.specs.declared.archive.Archive.{Archive}
use Rattle.lent.specs.declared.asking.Misread.{Misread}
use Rattle.lent.specs.Asked.{asked}
use Rattle.lent.specs.Seen.{Seen}
use Rattle.lent.specs.Runs.{TakesAs, Takes, after_as, after, answered, misread}

module _ {O J T K : Type 0} {fits : O → J → Type 0} {meaning : J → Meaning} {translated : T → List ℕ → ℕ} {hashed : T → ℕ → ℕ} {width : ℕ} (kind : Kind) where
  -- What a call answers over a turn's buffers is what the turn shows.
  pub made : {a a' : Archive J T K} (u : Seen) (c : Call (List ℕ)) (w : Says) (bs : List ℕ) (ps : List _)
      → Does fits meaning translated hashed width a a' (λ s x. AnswersTo kind s c u.bytes u.places x) (λ s. changed kind s (change_of c) u.bytes) (answer w bs ps)
      → Does fits meaning translated hashed width a a' (λ s. TakesAs kind s (Ok c) u) (λ s. after_as kind s (Ok c) u) (answered u (answer w bs ps))
  unfolding Answers next
  made u c w bs ps d = record { fit = d.fit; answer = λ o f. (answer w bs ps, d.answer o f, refl); after = d.after; same = d.same }

  -- A turn that asks for no call leaves the archive as it was.
  pub left : (a : Archive J T K) (u : Seen) (e : Misread)
      → Does fits meaning translated hashed width a a (λ s. TakesAs kind s (Err e) u) (λ s. after_as kind s (Err e) u) (misread u e)
  left a u e = record { fit = λ o f. f; answer = λ o f. refl; after = λ o f. refl; same = refl }

  pub taken : {a a' : Archive J T K} (u v : Seen) (r : Result (Call (List ℕ)) Misread) → r ≡ asked kind.flaw u
      → Does fits meaning translated hashed width a a' (λ s. TakesAs kind s r u) (λ s. after_as kind s r u) v
      → Does fits meaning translated hashed width a a' (λ s. Takes kind s u) (λ s. after kind s u) v
  taken {a} {a'} u v r e d = subst (λ z. Does fits meaning translated hashed width a a' (λ s. TakesAs kind s z u) (λ s. after_as kind s z u) v) e d
