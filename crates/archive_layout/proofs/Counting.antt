-- The counts of the index are the counts of the rules. Assumes nothing.
use Rattle.std.proofs.Common.{◌≡◌, ℕ, zero, suc, ◌+◌, ◌-◌, ◌≤◌, Bool, true, false, cond, not, eqb, ltb, ◌⊎◌, List, [], ◌∷◌, ◌++◌, map, length, get_or, drop, Some, None, Option, sym, refl, ap, ◌∙◌, subst, inl, inr, arith, length-append}
use Rattle.std.specs.List.{AllByRecursion}
use Rattle.std.proofs.lemmas.Bool.Decides.{nat_tests}
use Rattle.std.proofs.lemmas.List.{length-map}
use Rattle.std.proofs.lemmas.Bool.{cond-true, cond-false, cond_both, cases_Bool, cases_eq, eqb-true, eq-eqb, ne_eqb, both_ways}
use Rattle.journal.specs.Meaning.{Meaning, Section, Row, Rising, Lawful}
use Rattle.rules.specs.State.{Record, section_of, number_of, filed, records_of, those, is_in, first_met, distinct}
use Rattle.rules.specs.Calls.{starts_below}
use Rattle.law.proofs.Lists.{those-++}
use Rattle.index_layout.specs.Links.{earliest, fresh}
use Rattle.index_layout.specs.Views.{View, Apart}
use Rattle.index_layout.specs.Held.{total, under, records, numbers}
use Rattle.archive_layout.specs.Fit.{Coding, offset_of, Homed, Fit, full_view}
use Rattle.archive_layout.proofs.Sums.{totals, sums}
use Rattle.archive_layout.proofs.Fits.{some_rows}
use Rattle.archive_layout.proofs.Numbers.{at_least}

-- How many of a list are met for the first time, after others.
abbrev news : List ℕ → List ℕ → ℕ
news ds xs = length (first_met ds xs)

news_more : (x : ℕ) (ds xs : List ℕ) → news ds (x ∷ xs) ≡ cond (is_in x ds) (news ds xs) (suc (news (x ∷ ds) xs))
news_more x ds xs = by (is_in x ds)
  where
    by : (b : Bool) → length (cond b (first_met ds xs) (x ∷ first_met (x ∷ ds) xs)) ≡ cond b (news ds xs) (suc (news (x ∷ ds) xs))
    by true = refl
    by false = refl

abbrev numbers_of : List Record → List ℕ
numbers_of rs = map number_of rs

-- Sections that begin below a minimum, or all.
abbrev pub under_by : Option ℕ → (View → ℕ) → View → ℕ
under_by None h = h
under_by (Some n) h = under n h

abbrev pub older_in : Option ℕ → List Section → List Section
older_in None xs = xs
older_in (Some n) [] = []
older_in (Some n) (x ∷ xs) = cond (ltb x.start n) (x ∷ older_in (Some n) xs) (older_in (Some n) xs)

pub rising_weaker : (low low' : ℕ) (xs : List Section) → low' ≤ low → Rising low xs → Rising low' xs
rising_weaker low low' [] h up = tt
rising_weaker low low' (x ∷ xs) h up = (omega (arith, up.0), up.1)

pub rising_older : (o : Option ℕ) (low : ℕ) (xs : List Section) → Rising low xs → Rising low (older_in o xs)
rising_older None low xs up = up
rising_older (Some n) low [] up = tt
rising_older (Some n) low (x ∷ xs) up =
    cond_both (ltb x.start n) _ _ (Rising low)
    (λ e. (up.0, rising_older (Some n) (x.start + 1) xs up.1))
    (λ e. rising_weaker (x.start + 1) low (older_in (Some n) xs) (omega (arith, up.0)) (rising_older (Some n) (x.start + 1) xs up.1))

pub all_older : (P : Section → Type 0) (o : Option ℕ) (xs : List Section) → AllByRecursion P xs → AllByRecursion P (older_in o xs)
all_older P None xs h = h
all_older P (Some n) [] h = tt
all_older P (Some n) (x ∷ xs) h = cond_both (ltb x.start n) _ _ (AllByRecursion P) (λ e. (h.0, all_older P (Some n) xs h.1)) (λ e. all_older P (Some n) xs h.1)

pub totals_older : (k : Coding) (o : Option ℕ) (h : View → ℕ) (xs : List Section) → totals k (under_by o h) xs ≡ totals k h (older_in o xs)
totals_older k None h xs = refl
totals_older k (Some n) h [] = refl
totals_older k (Some n) h (x ∷ xs) = by (ltb x.start n) (totals_older k (Some n) h xs)
  where
    by : (b : Bool) → totals k (under n h) xs ≡ totals k h (older_in (Some n) xs)
        → cond b (h (full_view k x.start x.rows)) 0 + totals k (under n h) xs ≡ totals k h (cond b (x ∷ older_in (Some n) xs) (older_in (Some n) xs))
    by true e = omega arith
    by false e = omega arith

all_old : (n s p : ℕ) (rs : List Row) → ltb s n ≡ true → those (starts_below n) (filed s p rs) ≡ filed s p rs
all_old n s p [] e = refl
all_old n s p (r ∷ rs) e = cond-true _ _ _ e ∙ ap (λ fs. record { start = s; position = p; row = r } ∷ fs) (all_old n s (p + 1) rs e)

none_old : (n s p : ℕ) (rs : List Row) → ltb s n ≡ false → those (starts_below n) (filed s p rs) ≡ []
none_old n s p [] e = refl
none_old n s p (r ∷ rs) e = cond-false _ _ _ e ∙ none_old n s (p + 1) rs e

pub those_old : (n : ℕ) (xs : List Section) → those (starts_below n) (records_of xs) ≡ records_of (older_in (Some n) xs)
those_old n [] = refl
those_old n (x ∷ xs) = those-++ (starts_below n) (filed x.start 0 x.rows) (records_of xs) ∙ by (cases_Bool (ltb x.start n)) (those_old n xs)
  where
    by : (ltb x.start n ≡ true) ⊎ (ltb x.start n ≡ false) → those (starts_below n) (records_of xs) ≡ records_of (older_in (Some n) xs)
        → those (starts_below n) (filed x.start 0 x.rows) ++ those (starts_below n) (records_of xs) ≡ records_of (older_in (Some n) (x ∷ xs))
    by (inl e) again =
        ap (λ fs. fs ++ those (starts_below n) (records_of xs)) (all_old n x.start 0 x.rows e) ∙ ap (λ fs. filed x.start 0 x.rows ++ fs) again
        ∙ ap records_of (sym (cond-true _ (x ∷ older_in (Some n) xs) (older_in (Some n) xs) e))
    by (inr e) again =
        ap (λ fs. fs ++ those (starts_below n) (records_of xs)) (none_old n x.start 0 x.rows e) ∙ again
        ∙ ap records_of (sym (cond-false _ (x ∷ older_in (Some n) xs) (older_in (Some n) xs) e))

-- Records
pub length_filed : (s p : ℕ) (rs : List Row) → length (filed s p rs) ≡ length rs
length_filed s p [] = refl
length_filed s p (r ∷ rs) = ap (λ n. suc n) (length_filed s (p + 1) rs)

pub records_are : (k : Coding) (xs : List Section) → totals k records xs ≡ length (records_of xs)
records_are k [] = refl
records_are k (x ∷ xs) =
    let a = length-map x.rows (offset_of x.start) in
    let b = length_filed x.start 0 x.rows in
    let c = length-append (filed x.start 0 x.rows) (records_of xs) in
    let again = records_are k xs in
    omega arith

-- Numbers: what is new in a list.
eqb_turn : (x y : ℕ) → eqb x y ≡ eqb y x
eqb_turn x y = by (cases_eq x y)
  where
    by : (x ≡ y) ⊎ (x ≡ y → ⊥) → eqb x y ≡ eqb y x
    by (inl e) = eq-eqb x y e ∙ sym (eq-eqb y x (sym e))
    by (inr e) = ne_eqb x y e ∙ sym (ne_eqb y x (λ q. e (sym q)))

among_append : (y : ℕ) (xs ys : List ℕ) → is_in y (xs ++ ys) ≡ cond (is_in y xs) true (is_in y ys)
among_append y [] ys = refl
among_append y (x ∷ xs) ys = by (eqb y x) (among_append y xs ys)
  where
    by : (b : Bool) → is_in y (xs ++ ys) ≡ cond (is_in y xs) true (is_in y ys) → cond b true (is_in y (xs ++ ys)) ≡ cond (cond b true (is_in y xs)) true (is_in y ys)
    by true e = refl
    by false e = e

news_agree : (xs ds es : List ℕ) → ((y : ℕ) → is_in y xs ≡ true → is_in y ds ≡ is_in y es) → news ds xs ≡ news es xs
news_agree [] ds es h = refl
news_agree (x ∷ xs) ds es h =
    let e = h x (cond-true _ _ _ (eq-eqb x x refl)) in
    let a = news_agree xs ds es (λ y m. h y (later y m)) in
    let b = news_agree xs (x ∷ ds) (x ∷ es) (λ y m. ap (λ q. cond (eqb y x) true q) (h y (later y m))) in
    news_more x ds xs ∙ ap (λ q. cond q (news ds xs) (suc (news (x ∷ ds) xs))) e ∙ ap (λ q. cond (is_in x es) q (suc (news (x ∷ ds) xs))) a ∙ ap (λ q. cond (is_in x es) (news es xs) (suc q)) b ∙ sym (news_more x es xs)
  where
    later : (y : ℕ) → is_in y xs ≡ true → is_in y (x ∷ xs) ≡ true
    later y m = cond_both (eqb y x) true (is_in y xs) (λ q. q ≡ true) (λ _. refl) (λ _. m)

-- what has been seen after a list
abbrev seen : List ℕ → List ℕ → List ℕ
seen ds [] = ds
seen ds (x ∷ xs) = cond (is_in x ds) (seen ds xs) (seen (x ∷ ds) xs)

news_append : (xs ys ds : List ℕ) → news ds (xs ++ ys) ≡ news ds xs + news (seen ds xs) ys
news_append [] ys ds = omega arith
news_append (x ∷ xs) ys ds = news_more x ds (xs ++ ys) ∙ by (is_in x ds) (news_append xs ys ds) (news_append xs ys (x ∷ ds)) ∙ ap (λ n. n + news (seen ds (x ∷ xs)) ys) (sym (news_more x ds xs))
  where
    by : (b : Bool) → news ds (xs ++ ys) ≡ news ds xs + news (seen ds xs) ys → news (x ∷ ds) (xs ++ ys) ≡ news (x ∷ ds) xs + news (seen (x ∷ ds) xs) ys
        → cond b (news ds (xs ++ ys)) (suc (news (x ∷ ds) (xs ++ ys))) ≡ cond b (news ds xs) (suc (news (x ∷ ds) xs)) + news (cond b (seen ds xs) (seen (x ∷ ds) xs)) ys
    by true e f = e
    by false e f = omega arith

seen_not : (y : ℕ) (xs ds : List ℕ) → is_in y xs ≡ false → is_in y (seen ds xs) ≡ is_in y ds
seen_not y [] ds h = refl
seen_not y (x ∷ xs) ds h = by (cases_Bool (eqb y x))
    (λ m. seen_not y xs ds m) (λ m. seen_not y xs (x ∷ ds) m)
  where
    by : (eqb y x ≡ true) ⊎ (eqb y x ≡ false) → (is_in y xs ≡ false → is_in y (seen ds xs) ≡ is_in y ds) → (is_in y xs ≡ false → is_in y (seen (x ∷ ds) xs) ≡ is_in y (x ∷ ds))
        → is_in y (seen ds (x ∷ xs)) ≡ is_in y ds
    by (inl e) f g = absurd (both_ways _ h (cond-true _ _ _ e))
    by (inr e) f g =
        let m = sym (cond-false (eqb y x) true (is_in y xs) e) ∙ h in
        cond_both (is_in x ds) (seen ds xs) (seen (x ∷ ds) xs) (λ q. is_in y q ≡ is_in y ds) (λ _. f m) (λ _. g m ∙ cond-false _ _ _ e)

news_apart : (xs ys : List ℕ) → ((y : ℕ) → is_in y ys ≡ true → is_in y xs ≡ false) → news [] (xs ++ ys) ≡ news [] xs + news [] ys
news_apart xs ys h =
    let a = news_append xs ys [] in
    let b = news_agree ys (seen [] xs) [] (λ y m. seen_not y xs [] (h y m)) in
    omega arith

-- Numbers of different sections
numbers_append : (fs gs : List Record) → numbers_of (fs ++ gs) ≡ numbers_of fs ++ numbers_of gs
numbers_append [] gs = refl
numbers_append (f ∷ fs) gs = ap (λ ns. f.row.label.number ∷ ns) (numbers_append fs gs)

in_rows : (l s p y : ℕ) (rs : List Row) → AllByRecursion (λ r. section_of l r.label.number ≡ s) rs → is_in y (numbers_of (filed s p rs)) ≡ true → section_of l y ≡ s
in_rows l s p y [] h m = absurd (both_ways _ refl m)
in_rows l s p y (r ∷ rs) h m = by (cases_Bool (eqb y r.label.number)) (λ q. in_rows l s (p + 1) y rs h.1 q)
  where
    by : (eqb y r.label.number ≡ true) ⊎ (eqb y r.label.number ≡ false) → (is_in y (numbers_of (filed s (p + 1) rs)) ≡ true → section_of l y ≡ s) → section_of l y ≡ s
    by (inl e) again = ap (section_of l) (eqb-true _ _ e) ∙ h.0
    by (inr e) again = again (sym (cond-false _ _ _ e) ∙ m)

in_records : (l low y : ℕ) (xs : List Section) → Rising low xs → AllByRecursion (Homed l) xs → is_in y (numbers_of (records_of xs)) ≡ true → low ≤ section_of l y
in_records l low y [] up h m = absurd (both_ways _ refl m)
in_records l low y (x ∷ xs) up h m =
    by (cases_Bool (is_in y (numbers_of (filed x.start 0 x.rows)))) (λ q. in_records l (x.start + 1) y xs up.1 h.1 q)
  where
    split : cond (is_in y (numbers_of (filed x.start 0 x.rows))) true (is_in y (numbers_of (records_of xs))) ≡ true
    split = sym (ap (is_in y) (numbers_append (filed x.start 0 x.rows) (records_of xs)) ∙ among_append y (numbers_of (filed x.start 0 x.rows)) (numbers_of (records_of xs))) ∙ m

    by : (is_in y (numbers_of (filed x.start 0 x.rows)) ≡ true) ⊎ (is_in y (numbers_of (filed x.start 0 x.rows)) ≡ false)
        → (is_in y (numbers_of (records_of xs)) ≡ true → x.start + 1 ≤ section_of l y) → low ≤ section_of l y
    by (inl e) again = let q = in_rows l x.start 0 y x.rows h.0 e in let u = up.0 in subst (λ t. low ≤ t) (sym q) u
    by (inr e) again = let q = again (sym (cond-false _ _ _ e) ∙ split) in let u = up.0 in omega arith

-- The numbers of one section
drop_head : (zs : List ℕ) (n x : ℕ) (xs : List ℕ) → drop n zs ≡ x ∷ xs → (get_or zs n 0 ≡ x) × (drop (suc n) zs ≡ xs)
drop_head [] zero x xs e = let z : ◌≡◌ {A = ℕ} 0 1 = cc in absurd (omega arith)
drop_head [] (suc n) x xs e = let z : ◌≡◌ {A = ℕ} 0 1 = cc in absurd (omega arith)
drop_head (z ∷ zs) zero x xs e = let a : z ≡ x = cc in let b : zs ≡ xs = cc in (a, b)
drop_head (z ∷ zs) (suc n) x xs e = drop_head zs n x xs e

-- a value's first place is not none: it is is_in those seen
abbrev Seen : List ℕ → ℕ → List ℕ → Type 0
Seen zs n ds = (y : ℕ) → is_in y ds ≡ not (eqb (earliest zs y n) 0)

fresh_news : (xs zs : List ℕ) (n : ℕ) (ds : List ℕ) → drop n zs ≡ xs → Seen zs n ds → fresh zs (length xs + n) ≡ fresh zs n + news ds xs
fresh_news [] zs n ds e h = let z : 0 + n ≡ n = omega arith in ap (fresh zs) z ∙ omega arith
fresh_news (x ∷ xs) zs n ds e h =
    let d = drop_head zs n x xs e in
    let z : suc (length xs) + n ≡ length xs + suc n = omega arith in
    ap (fresh zs) z ∙ by d.0 (is_in x ds) refl (λ es q. fresh_news xs zs (suc n) es d.1 q) ∙ ap (λ w. fresh zs n + w) (sym (news_more x ds xs))
  where
    more : (es : List ℕ) → get_or zs n 0 ≡ x → ((y : ℕ) → is_in y es ≡ cond (eqb y x) true (is_in y ds)) → Seen zs (suc n) es
    more es g q y = q y ∙ step (eqb y x) (earliest zs y n) (ap (λ v. eqb v y) g ∙ eqb_turn x y) (h y)
      where
        step : (b : Bool) (m : ℕ) → eqb (get_or zs n 0) y ≡ b → is_in y ds ≡ not (eqb m 0) → cond b true (is_in y ds) ≡ not (eqb (cond (eqb m 0) (cond (eqb (get_or zs n 0) y) (suc n) 0) m) 0)
        step true zero p r = rw p (sym (ap not (ne_eqb (suc n) 0 (λ e. omega arith))))
        step true (suc m) p r =
            let z : eqb (suc m) 0 ≡ false = ne_eqb (suc m) 0 (λ e. omega arith) in
            sym (ap (λ w. not (eqb w 0)) (cond-false (eqb (suc m) 0) (cond (eqb (get_or zs n 0) y) (suc n) 0) (suc m) z) ∙ ap not z)
        step false zero p r = rw p r
        step false (suc m) p r =
            let z : eqb (suc m) 0 ≡ false = ne_eqb (suc m) 0 (λ e. omega arith) in
            r ∙ sym (ap (λ w. not (eqb w 0)) (cond-false (eqb (suc m) 0) (cond (eqb (get_or zs n 0) y) (suc n) 0) (suc m) z))

    by : get_or zs n 0 ≡ x → (b : Bool) → is_in x ds ≡ b → ((es : List ℕ) → Seen zs (suc n) es → fresh zs (length xs + suc n) ≡ fresh zs (suc n) + news es xs)
        → fresh zs (length xs + suc n) ≡ fresh zs n + cond (is_in x ds) (news ds xs) (suc (news (x ∷ ds) xs))
    by g true a again =
        let t : eqb (earliest zs (get_or zs n 0) n) 0 ≡ false = not_of (eqb (earliest zs (get_or zs n 0) n) 0) (sym (h (get_or zs n 0)) ∙ ap (λ v. is_in v ds) g ∙ a) in
        let f : fresh zs (suc n) ≡ fresh zs n = cond-false _ _ _ t in
        let w = again ds (more ds g (λ y. same y (cases_eq x y))) in
        let v : cond (is_in x ds) (news ds xs) (suc (news (x ∷ ds) xs)) ≡ news ds xs = cond-true _ _ _ a in
        omega arith
      where
        not_of : (c : Bool) → not c ≡ true → c ≡ false
        not_of true e = absurd (both_ways _ refl e)
        not_of false e = refl

        same : (y : ℕ) → (x ≡ y) ⊎ (x ≡ y → ⊥) → is_in y ds ≡ cond (eqb y x) true (is_in y ds)
        same y (inl e) = ap (λ v. is_in v ds) (sym e) ∙ a ∙ sym (cond-true _ _ _ (eq-eqb y x (sym e)))
        same y (inr e) = sym (cond-false _ _ _ (ne_eqb y x (λ q. e (sym q))))
    by g false a again =
        let t : eqb (earliest zs (get_or zs n 0) n) 0 ≡ true = not_of (eqb (earliest zs (get_or zs n 0) n) 0) (sym (h (get_or zs n 0)) ∙ ap (λ v. is_in v ds) g ∙ a) in
        let f : fresh zs (suc n) ≡ fresh zs n + 1 = cond-true _ _ _ t in
        let w = again (x ∷ ds) (more (x ∷ ds) g (λ y. refl)) in
        let v : cond (is_in x ds) (news ds xs) (suc (news (x ∷ ds) xs)) ≡ suc (news (x ∷ ds) xs) = cond-false _ _ _ a in
        omega arith
      where
        not_of : (c : Bool) → not c ≡ false → c ≡ true
        not_of true e = refl
        not_of false e = absurd (both_ways _ e refl)

pub fresh_is : (xs : List ℕ) → fresh xs (length xs) ≡ news [] xs
fresh_is xs =
    let a = fresh_news xs xs 0 [] refl (λ y. refl) in
    let z : length xs + 0 ≡ length xs = omega arith in
    sym (ap (fresh xs) z) ∙ a ∙ omega arith

-- offsets in place of numbers
among_shift : (s y : ℕ) (ds : List ℕ) → s ≤ y → AllByRecursion (λ d. s ≤ d) ds → is_in (y - s) (map (λ d. d - s) ds) ≡ is_in y ds
among_shift s y [] h a = refl
among_shift s y (d ∷ ds) h a =
    let again = among_shift s y ds h a.1 in
    let q = a.0 in
    let e : eqb (y - s) (d - s) ≡ eqb y d = grind (arith, nat_tests) in
    ap (λ t. cond t true (is_in (y - s) (map (λ d. d - s) ds))) e ∙ ap (λ t. cond (eqb y d) true t) again

news_shift : (s : ℕ) (xs ds : List ℕ) → AllByRecursion (λ d. s ≤ d) xs → AllByRecursion (λ d. s ≤ d) ds → news (map (λ d. d - s) ds) (map (λ d. d - s) xs) ≡ news ds xs
news_shift s [] ds hx hd = refl
news_shift s (x ∷ xs) ds hx hd =
    let a = among_shift s x ds hx.0 hd in
    let b = news_shift s xs ds hx.1 hd in
    let c = news_shift s xs (x ∷ ds) hx.1 (hx.0, hd) in
    news_more (x - s) (map (λ d. d - s) ds) (map (λ d. d - s) xs) ∙ ap (λ t. cond t (news (map (λ d. d - s) ds) (map (λ d. d - s) xs)) (suc (news (map (λ d. d - s) (x ∷ ds)) (map (λ d. d - s) xs)))) a
    ∙ ap (λ t. cond (is_in x ds) t (suc (news (map (λ d. d - s) (x ∷ ds)) (map (λ d. d - s) xs)))) b ∙ ap (λ t. cond (is_in x ds) (news ds xs) (suc t)) c ∙ sym (news_more x ds xs)

offsets_are : (s p : ℕ) (rs : List Row) → map (offset_of s) rs ≡ map (λ d. d - s) (numbers_of (filed s p rs))
offsets_are s p [] = refl
offsets_are s p (r ∷ rs) = ap (λ ns. (r.label.number - s) ∷ ns) (offsets_are s (p + 1) rs)

numbers_least : (s p : ℕ) (rs : List Row) → AllByRecursion (λ r. s ≤ r.label.number) rs → AllByRecursion (λ d. s ≤ d) (numbers_of (filed s p rs))
numbers_least s p [] h = tt
numbers_least s p (r ∷ rs) h = (h.0, numbers_least s (p + 1) rs h.1)

section_numbers : (l s : ℕ) (rs : List Row) → AllByRecursion (λ r. section_of l r.label.number ≡ s) rs → fresh (map (offset_of s) rs) (length (map (offset_of s) rs)) ≡ news [] (numbers_of (filed s 0 rs))
section_numbers l s rs h =
    fresh_is (map (offset_of s) rs) ∙ ap (news []) (offsets_are s 0 rs) ∙ news_shift s (numbers_of (filed s 0 rs)) [] (numbers_least s 0 rs (at_least l s rs h)) tt

pub numbers_are : (k : Coding) (l low : ℕ) (xs : List Section) → Rising low xs → AllByRecursion (Homed l) xs → totals k numbers xs ≡ distinct (records_of xs)
numbers_are k l low [] up h = refl
numbers_are k l low (x ∷ xs) up h =
    let a = section_numbers l x.start x.rows h.0 in
    let again = numbers_are k l (x.start + 1) xs up.1 h.1 in
    let b = news_apart (numbers_of (filed x.start 0 x.rows)) (numbers_of (records_of xs)) apart in
    let c = ap (news []) (numbers_append (filed x.start 0 x.rows) (records_of xs)) in
    omega arith
  where
    apart : (y : ℕ) → is_in y (numbers_of (records_of xs)) ≡ true → is_in y (numbers_of (filed x.start 0 x.rows)) ≡ false
    apart y m = by (cases_Bool (is_in y (numbers_of (filed x.start 0 x.rows))))
      where
        by : (is_in y (numbers_of (filed x.start 0 x.rows)) ≡ true) ⊎ (is_in y (numbers_of (filed x.start 0 x.rows)) ≡ false) → is_in y (numbers_of (filed x.start 0 x.rows)) ≡ false
        by (inl e) =
            let q = in_rows l x.start 0 y x.rows h.0 e in
            let w = in_records l (x.start + 1) y xs up.1 h.1 m in
            absurd (omega arith)
        by (inr e) = e

-- What the archive counts.
pub counted_records : (k : Coding) (width l : ℕ) (m : Meaning) (vs : List View) (o : Option ℕ) → Fit k width l m vs → Lawful m → Apart vs → total (under_by o records) vs ≡ length (records_of (older_in o m.sections))
counted_records k width l m vs o fit law apart =
    sums k (under_by o records) m.sections vs m.floor law.rising (some_rows m.limits m.sections law.within) apart fit.held
    ∙ totals_older k o records m.sections ∙ records_are k (older_in o m.sections)

pub counted_numbers : (k : Coding) (width l : ℕ) (m : Meaning) (vs : List View) (o : Option ℕ) → Fit k width l m vs → Lawful m → Apart vs → total (under_by o numbers) vs ≡ distinct (records_of (older_in o m.sections))
counted_numbers k width l m vs o fit law apart =
    sums k (under_by o numbers) m.sections vs m.floor law.rising (some_rows m.limits m.sections law.within) apart fit.held
    ∙ totals_older k o numbers m.sections ∙ numbers_are k l m.floor (older_in o m.sections) (rising_older o m.floor m.sections law.rising) (all_older (Homed l) o m.sections fit.homed)
