-- A run of lent turns so far, and one turn more. Assumes nothing.
use Rattle.std.proofs.Common.{◌≡◌, ℕ, ◌+◌, ◌<◌, List, [], ◌∷◌, ◌++◌, map, length, get_or, take, drop, set, Ok, Err, Option, Result, sym, refl, ap, ◌∙◌, subst, add-zero, arith}
use Rattle.std.proofs.lemmas.List.{take_more_set, map_more, map_push, get_or-drop, append-nil}
use Rattle.journal.specs.Meaning.{Meaning, Lawful}
use Rattle.rules.specs.declared.call.Call.{Call}
use Rattle.rules.specs.State.{Kind, State, new}
use Rattle.rules.specs.Steps.{Handed, Answer}
use Rattle.law.proofs.Runs.{Sofar, sofar_none, sofar_more, sofar_at, whole}
use Rattle.lent.specs.declared.asking.Misread.{Misread}
use Rattle.lent.specs.declared.turn.Turn.{Turn}
use Rattle.lent.specs.Asked.{asked}
use Rattle.lent.specs.Seen.{Seen, seen}
use Rattle.lent.specs.Told.{tells}
use Rattle.lent.specs.Runs.{more, asked_all, write, written, handed, answered, misread, TakesAs, Takes, after_as, after, Serves}

-- What a turn beyond the last would be.
abbrev pub blank : Turn
blank = record { call = 0; number = 0; position = 0; key = record { ref_ptr = (0, 0); now = [] }; bytes = record { ref_ptr = (0, 0); ghost_name = 0; now = [] }; places = record { ref_ptr = (0, 0); ghost_name = 0; now = [] }; answer = tells 0 0 0 0 0 }

-- The turns us ended as vs, with these answers, and the state went from s to t.
pub record Going (kind : Kind) (s : State) (us vs : List Seen) (t : State) : Type 0 where
  pub answers : List Answer
  pub sofar : Sofar kind s (asked_all kind.flaw us) answers t
  pub turns : vs ≡ written kind.flaw us answers

more_append : (r : Result (Call (List ℕ)) Misread) (x : Seen) (hs zs : List Handed) → more r x (hs ++ zs) ≡ more r x hs ++ zs
more_append (Ok c) x hs zs = refl
more_append (Err e) x hs zs = refl

write_append : (r : Result (Call (List ℕ)) Misread) (x : Seen) (hs : List Handed) (rs end : List Answer) (f g : List Answer → List Seen) (y : Seen) → length rs ≡ length (more r x hs)
    → ((qs : List Answer) → length qs ≡ length hs → f (qs ++ end) ≡ g qs ++ y ∷ []) → write r x (rs ++ end) f ≡ write r x rs g ++ y ∷ []
write_append (Err e) x hs rs end f g y n k = ap (λ z. misread x e ∷ z) (k rs n)
write_append (Ok c) x hs [] end f g y n k = let z : ⊥ = omega arith in absurd z
write_append (Ok c) x hs (a ∷ rs) end f g y n k = ap (λ z. answered x a ∷ z) (k rs (omega arith))

module _ (flaw : List ℕ → Option ℕ) where
  asked_more : (us : List Seen) (u : Seen) → asked_all flaw (us ++ u ∷ []) ≡ asked_all flaw us ++ more (asked flaw u) u []
  asked_more [] u = refl
  asked_more (x ∷ us) u = ap (more (asked flaw x) x) (asked_more us u) ∙ more_append (asked flaw x) x (asked_all flaw us) (more (asked flaw u) u [])

  written_more : (us : List Seen) (rs end : List Answer) (u y : Seen) → length rs ≡ length (asked_all flaw us)
      → write (asked flaw u) u end (written flaw []) ≡ y ∷ [] → written flaw (us ++ u ∷ []) (rs ++ end) ≡ written flaw us rs ++ y ∷ []
  written_more [] [] end u y n w = w
  written_more [] (a ∷ rs) end u y n w = let z : ⊥ = omega arith in absurd z
  written_more (x ∷ us) rs end u y n w = write_append (asked flaw x) x (asked_all flaw us) rs end (written flaw (us ++ u ∷ [])) (written flaw us) y n (λ qs m. written_more us qs end u y m w)

module _ (kind : Kind) where
  pub going_none : (s : State) → Going kind s [] [] s
  going_none s = record { answers = []; sofar = sofar_none kind s; turns = refl }

  going_as : (s : State) (us vs : List Seen) (t : State) (u v : Seen) (w : State) (r : Result (Call (List ℕ)) Misread) → r ≡ asked kind.flaw u
      → Going kind s us vs t → TakesAs kind t r u v → w ≡ after_as kind t r u → Going kind s (us ++ u ∷ []) (vs ++ v ∷ []) w
  going_as s us vs t u v w (Ok c) e g k n =
      let a = k.0 in
      record {
        answers = g.answers ++ a ∷ [];
        sofar = sofar_at kind w refl (sym (asked_more kind.flaw us u ∙ ap (λ z. asked_all kind.flaw us ++ more z u []) (sym e))) refl (sofar_more kind s (asked_all kind.flaw us) g.answers t (handed u c) a w g.sofar k.1 n);
        turns = ap (λ z. z ++ v ∷ []) g.turns ∙ sym (written_more kind.flaw us g.answers (a ∷ []) u v g.sofar.even (subst (λ z. write z u (a ∷ []) (written kind.flaw []) ≡ v ∷ []) e (ap (λ z. z ∷ []) (sym k.2))));
      }
  going_as s us vs t u v w (Err m) e g k n =
      record {
        answers = g.answers;
        sofar = sofar_at kind w refl (sym (asked_more kind.flaw us u ∙ ap (λ z. asked_all kind.flaw us ++ more z u []) (sym e) ∙ append-nil (asked_all kind.flaw us))) refl (subst (λ z. Sofar kind s (asked_all kind.flaw us) g.answers z) (sym n) g.sofar);
        turns = ap (λ z. z ++ v ∷ []) g.turns ∙ sym (ap (written kind.flaw (us ++ u ∷ [])) (sym (append-nil g.answers)) ∙ written_more kind.flaw us g.answers [] u v g.sofar.even (subst (λ z. write z u [] (written kind.flaw []) ≡ v ∷ []) e (ap (λ z. z ∷ []) (sym k))));
      }

  going_more : (s : State) (us vs : List Seen) (t : State) (u v : Seen) (w : State) → Going kind s us vs t → Takes kind t u v → w ≡ after kind t u → Going kind s (us ++ u ∷ []) (vs ++ v ∷ []) w
  going_more s us vs t u v w g k n = going_as s us vs t u v w (asked kind.flaw u) refl g k n

  -- The turns ys began as xs, those below i are answered, and y is the turn i once it was.
  pub going_turn : (s : State) (xs ys : List Turn) (i : ℕ) (d y : Turn) (t w : State) → i < length xs → length ys ≡ length xs → drop i ys ≡ drop i xs
      → Going kind s (map seen (take i xs)) (map seen (take i ys)) t → Takes kind t (seen (get_or ys i d)) (seen y) → w ≡ after kind t (seen (get_or ys i d))
      → Going kind s (map seen (take (i + 1) xs)) (map seen (take (i + 1) (set ys i y))) w
  going_turn s xs ys i d y t w lt len rest g k n =
      let lt' : i < length ys = omega arith in
      let at_front : (zs : List Turn) → get_or (drop i zs) 0 d ≡ get_or zs i d = λ zs. get_or-drop i zs 0 d ∙ ap (λ j. get_or zs j d) (add-zero i) in
      let same : get_or ys i d ≡ get_or xs i d = sym (at_front ys) ∙ ap (λ zs. get_or zs 0 d) rest ∙ at_front xs in
      subst (λ us. Going kind s us (map seen (take (i + 1) (set ys i y))) w) (sym (map_more seen xs i d lt ∙ ap (λ z. map seen (take i xs) ++ seen z ∷ []) (sym same)))
      (subst (λ vs. Going kind s (map seen (take i xs) ++ seen (get_or ys i d) ∷ []) vs w) (sym (ap (map seen) (take_more_set ys i y lt') ∙ map_push seen (take i ys) y))
      (going_more s (map seen (take i xs)) (map seen (take i ys)) t (seen (get_or ys i d)) (seen y) w g k n))

-- A whole run from new.
pub served : (kind : Kind) (m : Meaning) (s : State) (us vs : List Seen) (t : State) → s ≡ new m → Lawful m → Going kind s us vs t → Serves kind m us vs t
served kind m s us vs t e lawful g = record { answers = g.answers; even = g.sofar.even; law = whole kind m s (asked_all kind.flaw us) g.answers t e lawful g.sofar; turns = g.turns }
