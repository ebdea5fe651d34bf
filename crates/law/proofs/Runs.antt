-- A run so far, for loops over turns that are answered where they lie. Assumes nothing.
use Rattle.std.proofs.Common.{◌≡◌, ℕ, ◌+◌, ◌<◌, List, [], ◌∷◌, ◌++◌, map, length, get_or, take, drop, set, sym, refl, ap, ◌∙◌, subst, add-zero, arith, length-append}
use Rattle.std.proofs.lemmas.List.{take_more_set, map_more, map_push, get_or-drop}
use Rattle.journal.specs.Meaning.{Meaning, Lawful}
use Rattle.rules.specs.State.{Kind, State, new}
use Rattle.rules.specs.Steps.{Handed, Answer, Answers, next, Follows, history_of}
use Rattle.rules.specs.Law.{Law}
use Rattle.law.proofs.Whole.{runs_obey}

-- As many answers as calls, each by the rules.
pub record Sofar (kind : Kind) (s : State) (hs : List Handed) (rs : List Answer) (t : State) : Type 0 where
  pub even : length rs ≡ length hs
  pub follows : Follows kind s (history_of hs rs) t

module _ (kind : Kind) where
  follows_more : (s : State) (hs : List Handed) (rs : List Answer) (t : State) (h : Handed) (a : Answer) (u : State) → length rs ≡ length hs
      → Follows kind s (history_of hs rs) t → Answers kind t h a → u ≡ next kind t h → Follows kind s (history_of (hs ++ h ∷ []) (rs ++ a ∷ [])) u
  follows_more s [] [] t h a u e f k n = (rw f k, rw f (sym n))
  follows_more s [] (b ∷ rs) t h a u e f k n = let z : ⊥ = omega arith in absurd z
  follows_more s (d ∷ hs) [] t h a u e f k n = let z : ⊥ = omega arith in absurd z
  follows_more s (d ∷ hs) (b ∷ rs) t h a u e f k n = (f.0, follows_more (next kind s d) hs rs t h a u (omega arith) f.1 k n)

  pub sofar_none : (s : State) → Sofar kind s [] [] s
  sofar_none s = record { even = refl; follows = refl }

  pub sofar_more : (s : State) (hs : List Handed) (rs : List Answer) (t : State) (h : Handed) (a : Answer) (u : State)
      → Sofar kind s hs rs t → Answers kind t h a → u ≡ next kind t h → Sofar kind s (hs ++ h ∷ []) (rs ++ a ∷ []) u
  sofar_more s hs rs t h a u f k n =
      record { even = length-append rs (a ∷ []) ∙ ap (λ x. x + 1) f.even ∙ sym (length-append hs (h ∷ [])); follows = follows_more s hs rs t h a u f.even f.follows k n }

  pub sofar_at : {s s' : State} {hs hs' : List Handed} {rs rs' : List Answer} (t : State) → s ≡ s' → hs ≡ hs' → rs ≡ rs' → Sofar kind s hs rs t → Sofar kind s' hs' rs' t
  sofar_at {s} {s'} {hs} {hs'} {rs} {rs'} t e f g k =
      subst (λ x. Sofar kind x hs' rs' t) e (subst (λ x. Sofar kind s x rs' t) f (subst (λ x. Sofar kind s hs x t) g k))

  -- One turn more: the turns ys began as xs, those below i are answered, and y is the turn i once it was.
  module _ {X : Type 0} (asks : X → Handed) (told : X → Answer) where
    pub sofar_turn : (s : State) (xs ys : List X) (i : ℕ) (d y : X) (t u : State) → i < length xs → length ys ≡ length xs → drop i ys ≡ drop i xs
        → Sofar kind s (map asks (take i xs)) (map told (take i ys)) t → Answers kind t (asks (get_or ys i d)) (told y) → u ≡ next kind t (asks (get_or ys i d))
        → Sofar kind s (map asks (take (i + 1) xs)) (map told (take (i + 1) (set ys i y))) u
    sofar_turn s xs ys i d y t u lt len rest f k n =
        let lt' : i < length ys = omega arith in
        let at_front : (zs : List X) → get_or (drop i zs) 0 d ≡ get_or zs i d = λ zs. get_or-drop i zs 0 d ∙ ap (λ j. get_or zs j d) (add-zero i) in
        let same : get_or ys i d ≡ get_or xs i d = sym (at_front ys) ∙ ap (λ zs. get_or zs 0 d) rest ∙ at_front xs in
        subst (λ hs. Sofar kind s hs (map told (take (i + 1) (set ys i y))) u) (sym (map_more asks xs i d lt ∙ ap (λ z. map asks (take i xs) ++ asks z ∷ []) (sym same)))
        (subst (λ rs. Sofar kind s (map asks (take i xs) ++ asks (get_or ys i d) ∷ []) rs u) (sym (ap (map told) (take_more_set ys i y lt') ∙ map_push told (take i ys) y))
        (sofar_more s (map asks (take i xs)) (map told (take i ys)) t (asks (get_or ys i d)) (told y) u f k n))

-- A whole run from new obeys the law.
pub whole : (kind : Kind) (m : Meaning) (s : State) (hs : List Handed) (rs : List Answer) (t : State) → s ≡ new m → Lawful m → Sofar kind s hs rs t → Law kind m (history_of hs rs) t
whole kind m s hs rs t e lawful f = runs_obey kind m (history_of hs rs) t lawful (subst (λ x. Follows kind x (history_of hs rs) t) e f.follows)
