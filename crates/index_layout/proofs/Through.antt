-- A list of structs by what each stands for: f gives the view of one. Assumes nothing.
--   at_view      one of them, by its view; d is whatever default the goal has
--   put_view     one of them replaced
--   add_views    one of them grown, or left; apart_add and apart_open: the starts stay apart
--   gone_weight   what a strike hands out of a slot counts
use Rattle.std.proofs.Common.{◌≡◌, ℕ, ◌<◌, Bool, true, false, cond, ◌&&◌, ltb, List, map, length, get_or, set, sym, refl, ap, ◌∙◌, subst, arith}
use Rattle.std.proofs.lemmas.List.{length-map, map-set, get_or-map, set-get_or}
use Rattle.std.proofs.lemmas.Bool.{cond-true, and_parts}
use Rattle.index_layout.specs.Views.{View, free_view, open_view, grown, goes, view_at, Holds, Apart}
use Rattle.index_layout.specs.Held.{weight, under}
use Rattle.index_layout.proofs.Apart.{apart_opened, apart_same}

pub length_views : {A : Type 0} (f : A → View) (xs : List A) (n : ℕ) → length xs ≡ n → length (map f xs) ≡ n
length_views f xs n e = length-map xs f ∙ e

pub at_view : {A : Type 0} (f : A → View) (xs : List A) (i : ℕ) (d : A) → i < length xs → view_at (map f xs) i ≡ f (get_or xs i d)
at_view f xs i d h = get_or-map f xs i d free_view h

pub put_view : {A : Type 0} (f : A → View) (xs : List A) (i : ℕ) (y : A) (w : View) → f y ≡ w → map f (set xs i y) ≡ set (map f xs) i w
put_view f xs i y w e = map-set f xs i y ∙ ap (λ v. set (map f xs) i v) e

-- A slot grown, or left as it was.
pub add_views : {A : Type 0} (f : A → View) (xs : List A) (i o c b : ℕ) (r : Bool) (d y : A) → i < length xs
    → f y ≡ cond r (grown (f (get_or xs i d)) o c b) (f (get_or xs i d))
    → map f (set xs i y) ≡ cond r (set (map f xs) i (grown (view_at (map f xs) i) o c b)) (map f xs)
add_views f xs i o c b true d y h e =
    put_view f xs i y _ (e ∙ ap (λ v. grown v o c b) (sym (at_view f xs i d h)))
add_views f xs i o c b false d y h e =
    put_view f xs i y _ (e ∙ sym (at_view f xs i d h)) ∙ set-get_or (map f xs) i free_view

pub apart_add : {A : Type 0} (f : A → View) (xs : List A) (i o c b : ℕ) (r : Bool) (d y : A) → i < length xs
    → f y ≡ cond r (grown (f (get_or xs i d)) o c b) (f (get_or xs i d))
    → Apart (map f xs) → Apart (map f (set xs i y))
apart_add f xs i o c b r d y h e apart =
    let n : length (map f xs) ≡ length xs = length-map xs f in
    let at = at_view f xs i d h in
    subst Apart (sym (map-set f xs i y))
    (apart_same (map f xs) i (f y) (omega arith)
    (ap (λ v. v.used) e ∙ used r (f (get_or xs i d)) ∙ sym (ap (λ v. v.used) at))
    (ap (λ v. v.start) e ∙ start r (f (get_or xs i d)) ∙ sym (ap (λ v. v.start) at))
    apart)
  where
    used : (r : Bool) (v : View) → (cond r (grown v o c b) v).used ≡ v.used
    used true v = refl
    used false v = refl

    start : (r : Bool) (v : View) → (cond r (grown v o c b) v).start ≡ v.start
    start true v = refl
    start false v = refl

-- A slot taken, or freed.
pub apart_open : {A : Type 0} (f : A → View) (xs : List A) (i s : ℕ) (y : A) → i < length xs → f y ≡ open_view s
    → ((k : ℕ) → k < length xs → Holds (map f xs) k s → ⊥) → Apart (map f xs) → Apart (map f (set xs i y))
apart_open f xs i s y h e none apart =
    let n : length (map f xs) ≡ length xs = length-map xs f in
    subst Apart (sym (put_view f xs i y _ e)) (apart_opened (map f xs) i s (omega arith) (λ k l. none k (omega arith)) apart)

-- What a strike by a minimum makes of a slot, and what it counts there.
pub weighs : (m : ℕ) (h : View → ℕ) (v : View) → weight (under m h) v ≡ cond (goes m v) (h v) 0
weighs m h v = by v.used (ltb v.start m)
  where
    by : (a b : Bool) → cond a (cond b (h v) 0) 0 ≡ cond (a && b) (h v) 0
    by true b = refl
    by false b = refl

-- And what it hands out counts as much.
pub gone_weight : (m : ℕ) (h : View → ℕ) (v : View) → weight h (cond (goes m v) v free_view) ≡ weight (under m h) v
gone_weight m h v = by (goes m v) refl ∙ sym (weighs m h v)
  where
    by : (b : Bool) → goes m v ≡ b → weight h (cond b v free_view) ≡ cond b (h v) 0
    by true e = cond-true v.used (h v) 0 (and_parts v.used (ltb v.start m) e).0
    by false e = refl
