-- The first record in the order of a listing. Assumes nothing.
use Rattle.std.proofs.Common.{◌≡◌, ℕ, ◌≤◌, Bool, true, false, cond, leb, List, [], ◌∷◌, ◌++◌, Some, None, Option, sym, refl, ap, ◌∙◌, inl, inr, arith}
use Rattle.std.proofs.lemmas.Bool.{cond-true, cond-false, le-leb}
use Rattle.rules.specs.State.{Record, number_of, place_of, put_by_number, by_number}
use Rattle.rules.specs.Calls.{Among}
use Rattle.archive_layout.specs.Keys.{front, least, place_in, lower}

abbrev pub lower_record : Record → Option Record → Record
lower_record r None = r
lower_record r (Some x) = cond (leb (number_of r) (number_of x)) r x

abbrev pub or_else : {X : Type 0} → Option X → Option X → Option X
or_else None b = b
or_else (Some x) b = Some x

front_put : (r : Record) (xs : List Record) → front (put_by_number r xs) ≡ Some (lower_record r (front xs))
front_put r [] = refl
front_put r (x ∷ xs) = by (leb (number_of r) (number_of x))
  where
    by : (b : Bool) → front (cond b (r ∷ x ∷ xs) (x ∷ put_by_number r xs)) ≡ Some (cond b r x)
    by true = refl
    by false = refl

pub least_more : (r : Record) (rs : List Record) → least (r ∷ rs) ≡ Some (lower_record r (least rs))
least_more r rs = front_put r (by_number rs)

pub lower_place : (r : Record) (o : Option Record) → place_of (lower_record r o) ≡ lower (place_of r) (place_in o)
lower_place r None = refl
lower_place r (Some x) = by (leb (number_of r) (number_of x))
  where
    by : (b : Bool) → place_of (cond b r x) ≡ cond b (place_of r) (place_of x)
    by true = refl
    by false = refl

-- The first of several is one of them.
pub least_among : (rs : List Record) (y : Record) → least rs ≡ Some y → Among y rs
least_among [] y h = let z : ◌≡◌ {A = ℕ} 0 1 = cc in absurd (omega arith)
least_among (r ∷ rs) y h = by (least rs) refl (λ x e. least_among rs x e)
  where
    is : ◌≡◌ {A = Option Record} (Some (lower_record r (least rs))) (Some y)
    is = sym (least_more r rs) ∙ h

    by : (o : Option Record) → least rs ≡ o → ((x : Record) → least rs ≡ Some x → Among x rs) → Among y (r ∷ rs)
    by None e again = let k : ◌≡◌ {A = Option Record} (Some r) (Some y) = ap (λ o. Some (lower_record r o)) (sym e) ∙ is in let q : r ≡ y = cc in inl (sym q)
    by (Some x) e again = on (leb (number_of r) (number_of x)) refl
      where
        k : ◌≡◌ {A = Option Record} (Some (cond (leb (number_of r) (number_of x)) r x)) (Some y)
        k = ap (λ o. Some (lower_record r o)) (sym e) ∙ is

        on : (b : Bool) → leb (number_of r) (number_of x) ≡ b → Among y (r ∷ rs)
        on true t = let w : ◌≡◌ {A = Option Record} (Some r) (Some y) = ap (λ z. Some z) (sym (cond-true _ r x t)) ∙ k in let q : r ≡ y = cc in inl (sym q)
        on false t = let w : ◌≡◌ {A = Option Record} (Some x) (Some y) = ap (λ z. Some z) (sym (cond-false _ r x t)) ∙ k in let q : x ≡ y = cc in inr (again y (e ∙ ap (λ z. Some z) q))

pub least_none : (rs : List Record) → least rs ≡ None → rs ≡ []
least_none [] h = refl
least_none (r ∷ rs) h = let k : ◌≡◌ {A = Option Record} (Some (lower_record r (least rs))) None = sym (least_more r rs) ∙ h in let z : ◌≡◌ {A = ℕ} 0 1 = cc in absurd (omega arith)

-- Records of lower numbers come first, whatever follows.
pub least_append : (xs ys : List Record) → ((x y : Record) → Among x xs → Among y ys → number_of x ≤ number_of y) → least (xs ++ ys) ≡ or_else (least xs) (least ys)
least_append [] ys h = refl
least_append (x ∷ xs) ys h = least_more x (xs ++ ys) ∙ by (least xs) refl (least_append xs ys (λ a b p q. h a b (inr p) q)) ∙ ap (λ o. or_else o (least ys)) (sym (least_more x xs))
  where
    ahead : (o : Option Record) → least ys ≡ o → lower_record x o ≡ x
    ahead None e = refl
    ahead (Some y) e = cond-true _ _ _ (le-leb _ _ (h x y (inl refl) (least_among ys y e)))

    by : (o : Option Record) → least xs ≡ o → least (xs ++ ys) ≡ or_else (least xs) (least ys) → Some (lower_record x (least (xs ++ ys))) ≡ Some (lower_record x (least xs))
    by None e again = ap (λ o. Some (lower_record x o)) (again ∙ ap (λ o. or_else o (least ys)) e) ∙ ap (λ r. Some r) (ahead (least ys) refl) ∙ ap (λ o. Some (lower_record x o)) (sym e)
    by (Some z) e again = ap (λ o. Some (lower_record x o)) (again ∙ ap (λ o. or_else o (least ys)) e ∙ sym e)
