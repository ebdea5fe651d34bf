-- Two runs of the same calls from one state answer alike, save where a get by key is open. Assumes nothing.
use Rattle.std.proofs.Common.{◌≡◌, ℕ, suc, ◌≤◌, Bool, true, false, cond, ◌⊎◌, List, [], ◌∷◌, ◌++◌, length, Some, None, Option, Result, sym, refl, ap, ◌∙◌, subst, inl, inr, arith}
use Rattle.journal.specs.Meaning as journal
use Rattle.journal.specs.Meaning.{Meaning, Row}
use Rattle.rules.specs.declared.answer.Place.{Place}
use Rattle.rules.specs.declared.answer.Found.{Found}
use Rattle.rules.specs.declared.answer.Reply.TheVariants as reply
use Rattle.rules.specs.declared.call.Call.{Call}
use Rattle.rules.specs.declared.call.Call.TheVariants.{Load, Put, PutMulti, Prune, GetNumber, GetKey, GetPlace, HasNumber, HasKey, HasBoth, ListNumber, ListKey, Counts}
use Rattle.rules.specs.declared.fault.ArchiveFault.{ArchiveFault}
use Rattle.rules.specs.State.{Kind, State, new, Record, records_of, those, bears_key}
use Rattle.rules.specs.Calls.{Among, GetsOne, found_answer, found_buffer}
use Rattle.rules.specs.Steps.{Handed, Answer, answer, said, Event, Answers, AnswersTo, Change, loads, puts, prunes, asks, change_of, next, Follows}
use Rattle.rules.specs.History.{Book, blank, noted, book_after, arrived, arrival}
use Rattle.rules.specs.Law.{asked_in, Open, Alike, Repeats}
use Rattle.law.proofs.Lists.{counted_those}
use Rattle.law.proofs.Tests.{key_is, decides_row_key}
use Rattle.law.proofs.Same.{count_same, same_held}
use Rattle.law.proofs.Changes.{at, SaysFirst, says_first}
use Rattle.law.proofs.Books.{Agrees, Ties, ties_step}

-- A test of the rows alone, over the book's rows and over its records.
pub rows_passing : (p : Row → Bool) (l : ℕ) (before rs : List Row) → length (those (λ (r : Record). p r.row) (arrived l before rs)) ≡ length (those p rs)
rows_passing p l before [] = refl
rows_passing p l before (r ∷ rs) = by (p r) (rows_passing p l (before ++ r ∷ []) rs)
  where
    by : (b : Bool) → length (those (λ (x : Record). p x.row) (arrived l (before ++ r ∷ []) rs)) ≡ length (those p rs)
        → length (cond b (arrival l before r ∷ those (λ (x : Record). p x.row) (arrived l (before ++ r ∷ []) rs)) (those (λ (x : Record). p x.row) (arrived l (before ++ r ∷ []) rs)))
        ≡ length (cond b (r ∷ those p rs) (those p rs))
    by true i = ap (λ n. suc n) i
    by false i = i

-- Some bearer's answer is the only one where there is one bearer, or none.
got_one : (ys : List Record) (bs : List ℕ) (r r' : Result (Option Found) ArchiveFault) (after after' : List ℕ) → GetsOne ys bs r after → GetsOne ys bs r' after'
    → ((r ≡ r') × (after ≡ after')) ⊎ (2 ≤ length ys)
got_one [] bs r r' after after' g h = inl (g.0 ∙ sym h.0, g.1 ∙ sym h.1)
got_one (y ∷ []) bs r r' after after' g h =
    inl (
      g.2 ∙ ap (λ (x : Record). found_answer x (length bs)) (sole g.0 g.1 ∙ sym (sole h.0 h.1)) ∙ sym h.2,
      g.3 ∙ ap (λ (x : Record). found_buffer x bs) (sole g.0 g.1 ∙ sym (sole h.0 h.1)) ∙ sym h.3,
    )
  where
    sole : (x : Record) → Among x (y ∷ []) → x ≡ y
    sole x (inl e) = e
    sole x (inr a) = absurd a
got_one (y ∷ (z ∷ ys)) bs r r' after after' g h = inr (omega arith)

module _ (kind : Kind) (m : Meaning) where
  one_new : (f : Option ℕ) (j : Meaning) (c : Change) (bs : List ℕ) (ps : List Place) (a a' : Answer)
      → SaysFirst kind (at None f j) c bs ps a → SaysFirst kind (at None f j) c bs ps a' → a ≡ a'
  one_new f j (loads l) bs ps a a' h h' = h ∙ sym h'
  one_new f j (puts multi label key) bs ps a a' h h' = h ∙ sym h'
  one_new f j (prunes x) bs ps a a' h h' = h ∙ sym h'
  one_new f j asks bs ps a a' h h' = h ∙ sym h'

  one_at : (l : ℕ) (f : Option ℕ) (j : Meaning) (b : Book) (c : Call (List ℕ)) (bs : List ℕ) (ps : List Place) (a a' : Answer) → Agrees l b (at (Some l) f j)
      → AnswersTo kind (at (Some l) f j) c bs ps a → AnswersTo kind (at (Some l) f j) c bs ps a' → (a ≡ a') ⊎ Open b c
  one_at l f j b (Load l') bs ps a a' t h h' = inl (h ∙ sym h')
  one_at l f j b (Put label key) bs ps a a' t h h' = inl (h ∙ sym h')
  one_at l f j b (PutMulti label key) bs ps a a' t h h' = inl (h ∙ sym h')
  one_at l f j b (Prune x) bs ps a a' t h h' = inl (h ∙ sym h')
  one_at l f j b (GetNumber n) bs ps a a' t h h' = inl (h ∙ sym h')
  one_at l f j b (GetKey key) bs ps a a' t h h' = by (got_one (those (bears_key key) (records_of j.sections)) bs h.0 h'.0 h.1 h'.1 h.2 h'.2)
    where
      by : ((h.0 ≡ h'.0) × (h.1 ≡ h'.1)) ⊎ (2 ≤ length (those (bears_key key) (records_of j.sections))) → (a ≡ a') ⊎ Open b (GetKey key)
      by (inl e) = inl (h.3 ∙ ap (λ x. answer (said reply.Found x) h.1 ps) e.0 ∙ ap (λ x. answer (said reply.Found h'.0) x ps) e.1 ∙ sym h'.3)
      by (inr e) = inr (key, refl, length (those (key_is key) b.rows), counted_those (key_is key) (λ (r : Row). r.key ≡ key) (decides_row_key key) b.rows, omega (arith, e, count_same (bears_key key) (arrived l [] b.rows) (records_of j.sections) (same_held l b.rows j.sections t.held), rows_passing (key_is key) l [] b.rows))
  one_at l f j b (GetPlace p) bs ps a a' t h h' = inl (h ∙ sym h')
  one_at l f j b (HasNumber n) bs ps a a' t h h' = inl (h ∙ sym h')
  one_at l f j b (HasKey key) bs ps a a' t h h' = inl (h ∙ sym h')
  one_at l f j b (HasBoth n key) bs ps a a' t h h' = inl (h ∙ sym h')
  one_at l f j b (ListNumber n) bs ps a a' t h h' = inl (h ∙ sym h')
  one_at l f j b (ListKey key) bs ps a a' t h h' = inl (h ∙ sym h')
  one_at l f j b Counts bs ps a a' t h h' = inl (h ∙ sym h')

  one_by : (o f : Option ℕ) (j : Meaning) (b : Book) (h : Handed) (a a' : Answer) → Ties m b (at o f j) → Answers kind (at o f j) h a → Answers kind (at o f j) h a' → (a ≡ a') ⊎ Open b h.call
  unfolding Answers
  one_by None f j b h a a' t w w' =
      inl (one_new f j (change_of h.call) h.bytes h.places a a' (says_first kind f j h.call h.bytes h.places a w) (says_first kind f j h.call h.bytes h.places a' w'))
  one_by (Some l) f j b h a a' t w w' = one_at l f j b h.call h.bytes h.places a a' t w w'

  module _ (up : journal.Rising 0 m.sections) where
    pub alike_along : (h k : List Event) (s t t' : State) (b : Book) → Ties m b s → asked_in k ≡ asked_in h → Follows kind s h t → Follows kind s k t' → Alike m b h k × (t ≡ t')
    alike_along [] [] s t t' b w c f g = (tt, sym f ∙ g)
    alike_along [] (y ∷ k) s t t' b w c f g = let z : ◌≡◌ {A = ℕ} 0 1 = cc in let v : ⊥ = omega arith in absurd v
    alike_along (x ∷ h) [] s t t' b w c f g = let z : ◌≡◌ {A = ℕ} 0 1 = cc in let v : ⊥ = omega arith in absurd v
    alike_along (x ∷ h) (y ∷ k) s t t' b w c f g =
        let d : y.asked ≡ x.asked = cc in
        let e : asked_in k ≡ asked_in h = cc in
        let a = subst (λ q. Answers kind s q y.answer) d g.0 in
        let r = subst (λ q. Follows kind (next kind s q) k t') d g.1 in
        let i = alike_along h k (next kind s x.asked) t t' (noted m b x) (ties_step kind m up s b x w f.0) e f.1 r in
        ((one_by s.size s.floor s.journal b x.asked x.answer y.answer w f.0 a, i.0), i.1)

    pub repeats : (h : List Event) (t : State) → Follows kind (new m) h t → Repeats kind m h
    repeats h t f k u g c = (alike_along h k (new m) t u blank (refl, refl) c f g).0

-- Histories, cut and joined.
module _ (kind : Kind) where
  pub follows_split : (h k : List Event) (s t : State) → Follows kind s (h ++ k) t → (u : State) × Follows kind s h u × Follows kind u k t
  follows_split [] k s t f = (s, refl, f)
  follows_split (e ∷ h) k s t f = let r = follows_split h k (next kind s e.asked) t f.1 in (r.0, (f.0, r.1), r.2)

  pub follows_join : (h k : List Event) (s u t : State) → Follows kind s h u → Follows kind u k t → Follows kind s (h ++ k) t
  follows_join [] k s u t f g = subst (λ x. Follows kind x k t) (sym f) g
  follows_join (e ∷ h) k s u t f g = (f.0, follows_join h k (next kind s e.asked) u t f.1 g)

pub book_after-++ : (m : Meaning) (b : Book) (xs ys : List Event) → book_after m b (xs ++ ys) ≡ book_after m (book_after m b xs) ys
book_after-++ m b [] ys = refl
book_after-++ m b (e ∷ xs) ys = book_after-++ m (noted m b e) xs ys
