-- How many different numbers a list of records bears. Assumes nothing.
use Rattle.std.proofs.Common.{◌≡◌, ℕ, Bool, true, false, cond, eqb, ◌⊎◌, List, [], ◌∷◌, map, sym, refl, ap, ◌∙◌, subst, inl, inr}
use Rattle.std.proofs.lemmas.Bool.{cases_Bool, both_ways, eq-eqb, eqb-true, eqb-false, cond-true, cond-false}
use Rattle.rules.specs.State.{Record, number_of, is_in, first_met, distinct}
use Rattle.rules.specs.Calls.{Among}
use Rattle.rules.specs.Told.{BearsNumber, Apart, Different}

is_in_here : (n x : ℕ) (xs : List ℕ) → n ≡ x → is_in n (x ∷ xs) ≡ true
is_in_here n x xs e = cond-true (eqb n x) true (is_in n xs) (eq-eqb n x e)

-- What was not seen before, and only that.
met_new : (n : ℕ) (seen ns : List ℕ) → Among n (first_met seen ns) → is_in n seen ≡ false
met_new n seen [] a = absurd a
met_new n seen (x ∷ ns) a = by (cases_Bool (is_in x seen)) (λ k. met_new n seen ns k) (λ k. met_new n (x ∷ seen) ns k)
  where
    less : (eqb n x ≡ true) ⊎ (eqb n x ≡ false) → is_in n (x ∷ seen) ≡ false → is_in n seen ≡ false
    less (inl e) k = absurd (both_ways (is_in n (x ∷ seen)) k (cond-true (eqb n x) true (is_in n seen) e))
    less (inr e) k = sym (cond-false (eqb n x) true (is_in n seen) e) ∙ k

    one : is_in x seen ≡ false → Among n (x ∷ first_met (x ∷ seen) ns) → (Among n (first_met (x ∷ seen) ns) → is_in n (x ∷ seen) ≡ false) → is_in n seen ≡ false
    one e (inl d) j = ap (λ y. is_in y seen) d ∙ e
    one e (inr k) j = less (cases_Bool (eqb n x)) (j k)

    by : (is_in x seen ≡ true) ⊎ (is_in x seen ≡ false) → (Among n (first_met seen ns) → is_in n seen ≡ false) → (Among n (first_met (x ∷ seen) ns) → is_in n (x ∷ seen) ≡ false)
        → is_in n seen ≡ false
    by (inl e) i j = i (subst (Among n) (cond-true (is_in x seen) _ _ e) a)
    by (inr e) i j = one e (subst (Among n) (cond-false (is_in x seen) _ _ e) a) j

met_old : (n : ℕ) (seen ns : List ℕ) → Among n (first_met seen ns) → Among n ns
met_old n seen [] a = a
met_old n seen (x ∷ ns) a = by (is_in x seen) a (λ k. met_old n seen ns k) (λ k. met_old n (x ∷ seen) ns k)
  where
    by : (b : Bool) → Among n (cond b (first_met seen ns) (x ∷ first_met (x ∷ seen) ns)) → (Among n (first_met seen ns) → Among n ns) → (Among n (first_met (x ∷ seen) ns) → Among n ns)
        → Among n (x ∷ ns)
    by true k i j = inr (i k)
    by false (inl e) i j = inl e
    by false (inr k) i j = inr (j k)

met_all : (n : ℕ) (seen ns : List ℕ) → Among n ns → is_in n seen ≡ false → Among n (first_met seen ns)
met_all n seen [] a k = absurd a
met_all n seen (x ∷ ns) a k = by (cases_Bool (is_in x seen)) (cases_Bool (eqb n x)) a (λ q. met_all n seen ns q k) (λ q r. met_all n (x ∷ seen) ns q r)
  where
    by : (is_in x seen ≡ true) ⊎ (is_in x seen ≡ false) → (eqb n x ≡ true) ⊎ (eqb n x ≡ false) → Among n (x ∷ ns)
        → (Among n ns → Among n (first_met seen ns)) → (Among n ns → is_in n (x ∷ seen) ≡ false → Among n (first_met (x ∷ seen) ns)) → Among n (first_met seen (x ∷ ns))
    by (inl e) c (inl d) i j = absurd (both_ways (is_in n seen) k (ap (λ y. is_in y seen) d ∙ e))
    by (inl e) c (inr q) i j = subst (Among n) (sym (cond-true (is_in x seen) _ _ e)) (i q)
    by (inr e) (inl c) q i j = subst (Among n) (sym (cond-false (is_in x seen) _ _ e)) (inl (eqb-true n x c))
    by (inr e) (inr c) (inl d) i j = absurd (eqb-false n x c d)
    by (inr e) (inr c) (inr q) i j = subst (Among n) (sym (cond-false (is_in x seen) _ _ e)) (inr (j q (cond-false (eqb n x) true (is_in n seen) c ∙ k)))

met_apart : (seen ns : List ℕ) → Apart (first_met seen ns)
met_apart seen [] = tt
met_apart seen (x ∷ ns) = by (is_in x seen) (met_apart seen ns) (met_apart (x ∷ seen) ns)
  where
    by : (b : Bool) → Apart (first_met seen ns) → Apart (first_met (x ∷ seen) ns) → Apart (cond b (first_met seen ns) (x ∷ first_met (x ∷ seen) ns))
    by true i j = i
    by false i j = (λ a. both_ways (is_in x (x ∷ seen)) (met_new x (x ∷ seen) ns a) (is_in_here x x seen refl), j)

-- Numbers and their bearers.
bearer : (n : ℕ) (rs : List Record) → Among n (map number_of rs) → (r : Record) × Among r rs × BearsNumber n r
bearer n [] a = absurd a
bearer n (r ∷ rs) (inl e) = (r, inl refl, sym e)
bearer n (r ∷ rs) (inr a) = let b = bearer n rs a in (b.0, inr b.1, b.2)

borne : (n : ℕ) (rs : List Record) (r : Record) → Among r rs → BearsNumber n r → Among n (map number_of rs)
borne n [] r a e = absurd a
borne n (x ∷ rs) r (inl d) e = inl (sym e ∙ ap number_of d)
borne n (x ∷ rs) r (inr a) e = inr (borne n rs r a e)

-- The records rs are the ones of ys that are P.
pub different : (rs ys : List Record) (P : Record → Type 0) → ((r : Record) → Among r rs → Among r ys × P r) → ((r : Record) → Among r ys → P r → Among r rs) → Different (distinct rs) P ys
different rs ys P there back = record {
  numbers = first_met [] (map number_of rs);
  apart = met_apart [] (map number_of rs);
  long = refl;
  borne = λ n. (
    (λ a. let b = bearer n rs (met_old n [] (map number_of rs) a) in let k = there b.0 b.1 in (b.0, k.0, (k.1, b.2))),
    (λ b. met_all n [] (map number_of rs) (borne n rs b.0 (back b.0 b.1 b.2.0) b.2.1) refl),
  );
}
