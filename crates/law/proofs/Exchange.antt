-- Neighbouring accepted puts into different sections may change places, over whole histories. Assumes nothing.
use Rattle.std.proofs.Common.{◌≡◌, ℕ, Bool, true, List, [], ◌∷◌, ◌++◌, Some, None, Option, Result, sym, refl, ap, ◌∙◌, subst, arith}
use Rattle.journal.specs.declared.row.Label.{Label}
use Rattle.journal.specs.Meaning as journal
use Rattle.journal.specs.Meaning.{Meaning, Row}
use Rattle.journal.specs.Calls.{new_row}
use Rattle.rules.specs.declared.answer.Place.{Place}
use Rattle.rules.specs.declared.answer.Put as answers
use Rattle.rules.specs.declared.answer.Reply.TheVariants as reply
use Rattle.rules.specs.declared.fault.ArchiveFault.{ArchiveFault}
use Rattle.rules.specs.State.{Kind, State, new, section_of}
use Rattle.rules.specs.Calls.{if_loaded, changed_if_loaded, put_at, put_next}
use Rattle.rules.specs.Steps.{Handed, Answer, answer, said, Event, Answers, Change, loads, puts, prunes, asks, change_of, changed, next, Follows}
use Rattle.rules.specs.History.{Book, blank, is_accepted, book_after, book}
use Rattle.rules.specs.Law.{asked_in, Alike, put_by, Exchangeable, Exchange}
use Rattle.law.proofs.Changes.{at, SaysChange, says_change}
use Rattle.law.proofs.Books.{Agrees, Ties, ties_along}
use Rattle.law.proofs.Repeats.{alike_along, follows_split, book_after-++}
use Rattle.law.proofs.Swaps.{Deposit, row_of, home_of, says, after, after_size, swaps}

no_such : {X : Type 0} → ◌≡◌ {A = ℕ} 0 1 → X
no_such e = let z : ⊥ = omega arith in absurd z

not_none : (r : Row) → ◌≡◌ {A = Option Row} None (Some r) → ◌≡◌ {A = ℕ} 0 1
not_none r e = cc

-- A put of either kind, by what it hands in.
pub record IsPut (kind : Kind) (c : Change) (bs : List ℕ) (r : Row) : Type 0 where
  pub deposit : Deposit
  pub row : row_of deposit ≡ r
  pub answers : (s : State) (ps : List Place) (a : Answer) (l : ℕ) → s.size ≡ Some l → SaysChange kind s c bs ps a → a ≡ answer (said reply.Put (says l s deposit)) bs ps
  pub nexts : (s : State) (l : ℕ) → s.size ≡ Some l → changed kind s c bs ≡ after l s deposit

module _ (kind : Kind) where
  one_put : (multi : Bool) (label : Label) (key bs : List ℕ) → IsPut kind (puts multi label key) bs (new_row label key bs)
  one_put multi label key bs = record {
    deposit = record { multi = multi; label = label; key = key; value = bs };
    row = refl;
    answers = λ s ps a l e h. h ∙ ap (λ (o : Option ℕ). answer (said reply.Put (if_loaded o (λ l. put_at l s multi label key bs))) bs ps) e;
    nexts = λ s l e. ap (λ (o : Option ℕ). changed_if_loaded o (λ l. put_next l s multi label key bs) s) e;
  }

  is_put : (c : Change) (bs : List ℕ) (r : Row) → put_by c bs ≡ Some r → IsPut kind c bs r
  is_put (puts multi label key) bs r e = let z : new_row label key bs ≡ r = cc in subst (IsPut kind (puts multi label key) bs) z (one_put multi label key bs)
  is_put (loads l) bs r e = no_such (not_none r e)
  is_put (prunes x) bs r e = no_such (not_none r e)
  is_put asks bs r e = no_such (not_none r e)

  put_answers : (s : State) (h : Handed) (a : Answer) (r : Row) (p : IsPut kind (change_of h.call) h.bytes r) (l : ℕ) → s.size ≡ Some l → Answers kind s h a
      → a ≡ answer (said reply.Put (says l s p.deposit)) h.bytes h.places
  unfolding Answers
  put_answers s h a r p l e w = p.answers s h.places a l e (says_change kind s h.call h.bytes h.places a w)

  put_nexts : (s : State) (h : Handed) (r : Row) (p : IsPut kind (change_of h.call) h.bytes r) (l : ℕ) → s.size ≡ Some l → next kind s h ≡ after l s p.deposit
  unfolding next
  put_nexts s h r p l e = p.nexts s l e

-- Where the book is loaded, so is the state.
pub ties_loaded : (m : Meaning) (b : Book) (l : ℕ) (o f : Option ℕ) (j : Meaning) → Ties m b (at o f j) → b.size ≡ Some l → (o ≡ Some l) × Agrees l b (at o f j)
ties_loaded m b l None f j t e = no_such (not_both b.size l (ap (λ (x : Book). x.size) t.0) e)
  where
    not_both : (o : Option ℕ) (n : ℕ) → o ≡ None → o ≡ Some n → ◌≡◌ {A = ℕ} 0 1
    not_both o n p q = cc
ties_loaded m b l (Some i) f j t e = let z = same b.size i l t.size e in (ap Some z, subst (λ x. Agrees x b (at (Some i) f j)) z t)
  where
    same : (o : Option ℕ) (m n : ℕ) → o ≡ Some m → o ≡ Some n → m ≡ n
    same o m n p q = cc

-- A run with the calls of the exchange, cut there.
pub record Cut (k : List Event) (hs : List Handed) (x y : Handed) (zs : List Handed) : Type 0 where
  pub front : List Event
  pub one : Event
  pub two : Event
  pub back : List Event
  pub whole : k ≡ front ++ one ∷ (two ∷ back)
  pub asked_front : asked_in front ≡ hs
  pub asked_one : one.asked ≡ x
  pub asked_two : two.asked ≡ y
  pub asked_back : asked_in back ≡ zs

cut_more : (a : Event) (h : Handed) (k : List Event) (hs : List Handed) (x y : Handed) (zs : List Handed) → a.asked ≡ h → Cut k hs x y zs → Cut (a ∷ k) (h ∷ hs) x y zs
cut_more a h k hs x y zs d c =
    record {
      front = a ∷ c.front;
      one = c.one;
      two = c.two;
      back = c.back;
      whole = ap (λ ys. a ∷ ys) c.whole;
      asked_front = ap (λ g. g ∷ asked_in c.front) d ∙ ap (λ gs. h ∷ gs) c.asked_front;
      asked_one = c.asked_one;
      asked_two = c.asked_two;
      asked_back = c.asked_back;
    }

cut : (k : List Event) (hs : List Handed) (x y : Handed) (zs : List Handed) → asked_in k ≡ hs ++ x ∷ (y ∷ zs) → Cut k hs x y zs
cut [] [] x y zs e = no_such (let z : ◌≡◌ {A = ℕ} 0 1 = cc in z)
cut [] (h ∷ hs) x y zs e = no_such (let z : ◌≡◌ {A = ℕ} 0 1 = cc in z)
cut (a ∷ []) [] x y zs e = no_such (let z : ◌≡◌ {A = ℕ} 0 1 = cc in z)
cut (a ∷ (b ∷ k)) [] x y zs e =
    record { front = []; one = a; two = b; back = k; whole = refl; asked_front = refl; asked_one = (let z : a.asked ≡ x = cc in z); asked_two = (let z : b.asked ≡ y = cc in z); asked_back = (let z : asked_in k ≡ zs = cc in z) }
cut (a ∷ k) (h ∷ hs) x y zs e = let d : a.asked ≡ h = cc in let q : asked_in k ≡ hs ++ x ∷ (y ∷ zs) = cc in cut_more a h k hs x y zs d (cut k hs x y zs q)

module _ (kind : Kind) (m : Meaning) (up : journal.Rising 0 m.sections) where
  pub record Both (u : State) (e f : Event) (x y : Answer) : Type 0 where
    pub first : x ≡ e.answer
    pub second : y ≡ f.answer
    pub meet : next kind (next kind u e.asked) f.asked ≡ next kind (next kind u f.asked) e.asked

  -- The two puts at the state before them: x and y are the answers where they stand the other way round.
  both : (b : Book) (u : State) (e f : Event) (x y : Answer) → Ties m b u → Exchangeable b e f
      → Answers kind u e.asked e.answer → Answers kind (next kind u e.asked) f.asked f.answer
      → Answers kind u f.asked y → Answers kind (next kind u f.asked) e.asked x → Both u e f x y
  both b u e f x y t d ha hb hb' ha' =
      let l = d.size in
      let k = ties_loaded m b l u.size u.floor u.journal t d.loaded in
      let z = k.0 in
      let p = is_put kind (change_of e.asked.call) e.asked.bytes d.first d.puts_first in
      let q = is_put kind (change_of f.asked.call) f.asked.bytes d.second d.puts_second in
      let P = p.deposit in
      let Q = q.deposit in
      let n1 = put_nexts kind u e.asked d.first p l z in
      let n2 = put_nexts kind u f.asked d.second q l z in
      let z1 = after_size l u P ∙ z in
      let z2 = after_size l u Q ∙ z in
      let ea = put_answers kind u e.asked e.answer d.first p l z ha in
      let eb = put_answers kind (after l u P) f.asked f.answer d.second q l z1 (subst (λ (s : State). Answers kind s f.asked f.answer) n1 hb) in
      let eb' = put_answers kind u f.asked y d.second q l z hb' in
      let ea' = put_answers kind (after l u Q) e.asked x d.first p l z2 (subst (λ (s : State). Answers kind s e.asked x) n2 ha') in
      let ne : home_of l P ≡ home_of l Q → ⊥ =
      λ v. d.different (ap (λ (r : Row). section_of l r.label.number) (sym p.row) ∙ v ∙ ap (λ (r : Row). section_of l r.label.number) q.row) in
      let sw = swaps l u b.rows k.1.held P Q ne
      (subst (λ (a : Answer). is_accepted a.says ≡ true) ea d.accepted_first) (subst (λ (a : Answer). is_accepted a.says ≡ true) eb d.accepted_second) in
      let T : Result answers.Put ArchiveFault → Handed → Answer = λ w h. answer (said reply.Put w) h.bytes h.places in
      record {
        first = ea' ∙ ap (λ w. T w e.asked) sw.first ∙ sym ea;
        second = eb' ∙ ap (λ w. T w f.asked) sw.second ∙ sym eb;
        meet = ap (λ (s : State). next kind s f.asked) n1 ∙ put_nexts kind (after l u P) f.asked d.second q l z1 ∙ sw.meet
            ∙ sym (ap (λ (s : State). next kind s e.asked) n2 ∙ put_nexts kind (after l u Q) e.asked d.first p l z2);
      }

  pub exchange : (h : List Event) (t : State) → Follows kind (new m) h t → Exchange kind m h
  exchange h t follows h₁ h₂ e f eq d k t' follows' asked =
      let c = cut k (asked_in h₁) f.asked e.asked (asked_in h₂) asked in
      let e' = c.two in
      let f' = c.one in
      let A = follows_split kind h₁ (e ∷ (f ∷ h₂)) (new m) t (subst (λ x. Follows kind (new m) x t) eq follows) in
      let B = follows_split kind c.front (f' ∷ (e' ∷ c.back)) (new m) t' (subst (λ x. Follows kind (new m) x t') c.whole follows') in
      let u : State = A.0 in
      let w : Ties m blank (new m) = (refl, refl) in
      let I = alike_along kind m up h₁ c.front (new m) u B.0 blank w c.asked_front A.1 B.1 in
      let wu = ties_along kind m up h₁ (new m) u blank w A.1 in
      let R = subst (λ x. Follows kind x (f' ∷ (e' ∷ c.back)) t') (sym I.1) B.2 in
      let g1 = subst (λ x. Answers kind u x f'.answer) c.asked_one R.0 in
      let g2 = subst (λ x. Answers kind (next kind u x) e.asked e'.answer) c.asked_one (subst (λ x. Answers kind (next kind u f'.asked) x e'.answer) c.asked_two R.1.0) in
      let bo = both (book m h₁) u e f e'.answer f'.answer wu d A.2.0 A.2.1.0 g1 g2 in
      let q : next kind (next kind u f'.asked) e'.asked ≡ next kind (next kind u e.asked) f.asked =
      ap (λ x. next kind (next kind u x) e'.asked) c.asked_one ∙ ap (λ x. next kind (next kind u f.asked) x) c.asked_two ∙ sym bo.meet in
      let S = subst (λ x. Follows kind x c.back t') q R.1.1 in
      let w2 = ties_along kind m up (e ∷ (f ∷ [])) u (next kind (next kind u e.asked) f.asked) (book m h₁) wu (A.2.0, (A.2.1.0, refl)) in
      let J = alike_along kind m up h₂ c.back (next kind (next kind u e.asked) f.asked) t t' (book_after m (book m h₁) (e ∷ (f ∷ []))) w2 c.asked_back A.2.1.1 S in
      record {
        k₁ = c.front;
        k₂ = c.back;
        e' = e';
        f' = f';
        cut = c.whole;
        before = I.0;
        first = bo.first;
        second = bo.second;
        accepted_first = ap (λ (a : Answer). is_accepted a.says) bo.first ∙ d.accepted_first;
        accepted_second = ap (λ (a : Answer). is_accepted a.says) bo.second ∙ d.accepted_second;
        after = subst (λ (x : Book). Alike m x h₂ c.back) (sym (book_after-++ m blank h₁ (e ∷ (f ∷ [])))) J.0;
      }
