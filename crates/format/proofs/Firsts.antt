-- The first that answers, the first that passes, and how far all pass. Assumes nothing.
use Rattle.std.proofs.Common.{◌≡◌, ℕ, zero, suc, ◌+◌, ◌<◌, ◌≤◌, Bool, true, false, cond, not, ◌&&◌, ◌==◌, eqb, fold, List, [], ◌∷◌, ◌++◌, is_some, Some, None, Ok, Err, Option, MatchOption, IfSome, sym, refl, ap, ◌∙◌, ⊎_elim, eq-or-lt_of_le, add-one, arith}
use Rattle.std.proofs.lemmas.Bool.{cond-true, cond-false, cond_both, eqb-true, eq-eqb, ne_eqb, true≢false}
use Rattle.std.proofs.lemmas.Option.{cond_some, none-some, same_Some}
use Rattle.std.proofs.lemmas.List.Sums.{fold-append}
use Rattle.std.specs.List.{range_with_len, list_all}
use Rattle.journal.specs.declared.fault.JournalFault.{JournalFault}
use Rattle.journal.specs.Making.{checked}
use Rattle.format.specs.Decode.{zeros}
use Rattle.format.specs.Mount.{or_else, is_none, earliest, found, passing}

pub is_none_true : {X : Type 0} (o : Option X) → is_none o ≡ true → o ≡ None
is_none_true None h = refl
is_none_true (Some x) h = absurd (true≢false (sym h))

pub none_by : {X : Type 0} (o : Option X) (b : Bool) → is_some o ≡ not b → b ≡ is_none o
none_by None true h = refl
none_by None false h = absurd (true≢false (sym h))
none_by (Some x) true h = absurd (true≢false h)
none_by (Some x) false h = refl

pub if_none : (b : Bool) (s : ℕ) → cond b (Some s) None ≡ None → b ≡ false
if_none true s h = absurd (none-some s (sym h))
if_none false s h = refl

-- What a check says of the fault found.
pub checked_ok : (o : Option JournalFault) → Ok tt ≡ checked o → o ≡ None
checked_ok None h = refl
checked_ok (Some f) h = cc

pub checked_err : (o : Option JournalFault) (f : JournalFault) → Err f ≡ checked o → o ≡ Some f
checked_err None f h = cc
checked_err (Some g) f h = cc

-- Bytes that are all zero.
pub zeros_are : (bs : List ℕ) → list_all (λ b. b == 0) bs ≡ zeros bs
zeros_are [] = refl
zeros_are (b ∷ bs) = cond_both (b == 0) (zeros bs) false (λ z. (b == 0 && list_all (λ x. x == 0) bs) ≡ z) (λ e. ap (λ t. t && list_all (λ x. x == 0) bs) e ∙ zeros_are bs) (λ e. ap (λ t. t && list_all (λ x. x == 0) bs) e)

-- A fold over the numbers below n, one more of them at a time.
range_more : (a n j : ℕ) → a + n ≡ j → range_with_len a (suc n) ≡ range_with_len a n ++ j ∷ []
range_more a zero j e = ap (λ k. k ∷ []) (omega arith)
range_more a (suc n) j e = ap (λ (ks : List ℕ). a ∷ ks) (range_more (a + 1) n j (omega arith))

pub fold_range : {B : Type 0} (h : B → ℕ → B) (a : B) (n : ℕ) → fold h a (range_with_len 0 (suc n)) ≡ h (fold h a (range_with_len 0 n)) n
fold_range h a n = ap (fold h a) (range_more 0 n n (omega arith)) ∙ fold-append h a (range_with_len 0 n) (n ∷ [])

module _ {X : Type 0} (f : ℕ → Option X) where
  or_none : (a b : Option X) → or_else a b ≡ None → (a ≡ None) × (b ≡ None)
  or_none None b h = (refl, h)
  or_none (Some x) b h = cc

  pub earliest_more : (i : ℕ) → earliest f i ≡ None → earliest f (i + 1) ≡ f i
  earliest_more i h = ap (earliest f) (add-one i) ∙ ap (λ o. or_else o (f i)) h

  pub earliest_at : (i n : ℕ) (x : X) → i < n → earliest f i ≡ None → f i ≡ Some x → earliest f n ≡ Some x
  earliest_at i zero x l h e = absurd (omega arith)
  earliest_at i (suc n) x l h e =
      ⊎_elim (λ q. ap (λ o. or_else o (f n)) (ap (earliest f) (sym q) ∙ h) ∙ (ap f (sym q) ∙ e))
      (λ q. ap (λ o. or_else o (f n)) (earliest_at i n x q h e))
      (eq-or-lt_of_le {n = i} {m = n} (omega arith))

  pub earliest_none : (n : ℕ) → earliest f n ≡ None → (i : ℕ) → i < n → f i ≡ None
  earliest_none zero h i l = absurd (omega arith)
  earliest_none (suc n) h i l =
      let p = or_none (earliest f n) (f n) h in
      ⊎_elim (λ q. ap f q ∙ p.1) (λ q. earliest_none n p.0 i q) (eq-or-lt_of_le {n = i} {m = n} (omega arith))

  pub none_earliest : (n : ℕ) → ((i : ℕ) → i < n → f i ≡ None) → earliest f n ≡ None
  none_earliest zero h = refl
  none_earliest (suc n) h = ap (λ o. or_else o (f n)) (none_earliest n (λ i l. h i (omega arith))) ∙ h n (omega arith)

  by_some : (n : ℕ) (x : X) (o : Option X) → earliest f n ≡ o → or_else (earliest f n) (f n) ≡ Some x → (earliest f n ≡ Some x → (i : ℕ) × (i < n) × (f i ≡ Some x)) → (i : ℕ) × (i < suc n) × (f i ≡ Some x)
  by_some n x None e h again = (n, omega arith, sym (ap (λ y. or_else y (f n)) e) ∙ h)
  by_some n x (Some y) e h again =
      let q : y ≡ x = same_Some y x (sym (ap (λ z. or_else z (f n)) e) ∙ h) in
      let r = again (e ∙ ap Some q) in (r.0, omega (arith, r.1), r.2)

  pub earliest_some : (n : ℕ) (x : X) → earliest f n ≡ Some x → (i : ℕ) × (i < n) × (f i ≡ Some x)
  earliest_some zero x h = absurd (none-some x h)
  earliest_some (suc n) x h = by_some n x (earliest f n) refl h (λ e. earliest_some n x e)

module _ (p : ℕ → Bool) where
  abbrev F : ℕ → Option ℕ
  F s = cond (p s) (Some s) None

  pub found_more : (i : ℕ) → found p i ≡ None → p i ≡ false → found p (i + 1) ≡ None
  found_more i h e = earliest_more F i h ∙ cond-false (p i) (Some i) None e

  pub found_at : (i n : ℕ) → i < n → found p i ≡ None → p i ≡ true → found p n ≡ Some i
  found_at i n l h e = earliest_at F i n i l h (cond-true (p i) (Some i) None e)

  pub found_some : (n t : ℕ) → found p n ≡ Some t → (t < n) × (p t ≡ true)
  found_some n t h =
      let r = earliest_some F n t h in
      let q = cond_some (p r.0) r.0 t r.2 in
      (omega (arith, r.1, q.1), sym (ap p q.1) ∙ q.0)

  pub found_none : (n : ℕ) → found p n ≡ None → (i : ℕ) → i < n → p i ≡ false
  found_none n h i l = if_none (p i) i (earliest_none F n h i l)

  pub none_found : (n : ℕ) → ((i : ℕ) → i < n → p i ≡ false) → found p n ≡ None
  none_found n h = none_earliest F n (λ i l. cond-false (p i) (Some i) None (h i l))

  -- What a search of the numbers below n says.
  pub found_is : (n : ℕ) (r : Option ℕ) → MatchOption r ((k : ℕ) → 0 ≤ k → k < n → p k ≡ false) (λ i. (0 ≤ i) × (i < n) × (p i ≡ true) × ((k : ℕ) → 0 ≤ k → k < i → p k ≡ false)) → r ≡ found p n
  found_is n None h = sym (none_found n (λ k l. h k (omega arith) l))
  found_is n (Some i) h = sym (found_at i n h.1 (none_found i (λ k l. h.3 k (omega arith) l)) h.2)

  pub found_within : (n : ℕ) (r : Option ℕ) → r ≡ found p n → IfSome r (λ i. i < n)
  found_within n None e = tt
  found_within n (Some i) e = (found_some n i (sym e)).0

  -- How far all pass: to the end exactly where each one does, and else to the first that does not.
  pub passing_le : (n : ℕ) → passing p n ≤ n
  passing_le zero = omega arith
  passing_le (suc n) =
      let i = passing_le n in
      cond_both (eqb (passing p n) n) _ _ (λ m. m ≤ suc n)
      (λ e. cond_both (p n) _ _ (λ m. m ≤ suc n) (λ q. omega arith) (λ q. omega arith)) (λ e. omega arith)

  pub passing_more : (i : ℕ) → passing p i ≡ i → p i ≡ true → passing p (i + 1) ≡ i + 1
  passing_more i h e = ap (passing p) (add-one i) ∙ (cond-true _ _ _ (eq-eqb _ _ h) ∙ cond-true _ _ _ e) ∙ sym (add-one i)

  pub passing_stops : (n i : ℕ) → i < n → passing p i ≡ i → p i ≡ false → passing p n ≡ i
  passing_stops zero i l h e = absurd (omega arith)
  passing_stops (suc n) i l h e =
      ⊎_elim
      (λ q. let h' : passing p n ≡ n = ap (passing p) (sym q) ∙ (h ∙ q) in
      let e' : p n ≡ false = ap p (sym q) ∙ e in
      (cond-true _ _ _ (eq-eqb _ _ h') ∙ cond-false _ _ _ e') ∙ sym q)
      (λ q. let k = passing_stops n i q h e in cond-false _ _ _ (ne_eqb (passing p n) n (λ (z : passing p n ≡ n). omega arith)) ∙ k)
      (eq-or-lt_of_le {n = i} {m = n} (omega arith))

  pub all_pass : (n : ℕ) → ((i : ℕ) → i < n → p i ≡ true) → passing p n ≡ n
  all_pass zero h = refl
  all_pass (suc n) h = cond-true _ _ _ (eq-eqb _ _ (all_pass n (λ i l. h i (omega arith)))) ∙ cond-true _ _ _ (h n (omega arith))

  last_passes : (n : ℕ) → passing p (suc n) ≡ suc n → (passing p n ≡ n) × (p n ≡ true)
  last_passes n h = by (eqb (passing p n) n) refl (p n) refl (passing_le n) h
    where
      by : (a : Bool) → eqb (passing p n) n ≡ a → (b : Bool) → p n ≡ b → passing p n ≤ n → cond a (cond b (suc n) n) (passing p n) ≡ suc n → (passing p n ≡ n) × (p n ≡ true)
      by true x true y l k = (eqb-true _ _ x, y)
      by true x false y l k = absurd (omega arith)
      by false x b y l k = absurd (omega arith)

  pub each_passes : (n : ℕ) → passing p n ≡ n → (i : ℕ) → i < n → p i ≡ true
  each_passes zero h i l = absurd (omega arith)
  each_passes (suc n) h i l =
      let q = last_passes n h in
      ⊎_elim (λ e. ap p e ∙ q.1) (λ e. each_passes n q.0 i e) (eq-or-lt_of_le {n = i} {m = n} (omega arith))
