-- A walk by the first start above the last goes through the sections in their order. Assumes nothing.
use Rattle.std.proofs.Common.{◌≡◌, ℕ, zero, suc, ◌+◌, ◌-◌, ◌^◌, ◌<◌, ◌≤◌, true, false, eqb, ltb, List, [], ◌∷◌, ◌++◌, length, get_or, take, drop, Some, None, Option, unwrap_or, MatchOption, SomeIff, sym, refl, ap, ◌∙◌, ⊎_elim, add-one, arith, length-drop}
use Rattle.std.proofs.lemmas.Bool.{cond-true, cond-false, lt-ltb, le-ltb, eq-eqb, ne_eqb, cases_lt}
use Rattle.std.specs.List.{AllByRecursion}
use Rattle.std.proofs.lemmas.List.{take_more, drop_more}
use Rattle.std.proofs.ByRecursion.{All-weaker}
use Rattle.journal.specs.declared.limits.Limits.{Limits}
use Rattle.journal.specs.Meaning.{Meaning, Section, Within, Lawful, rows_of, first_from, Rising}
use Rattle.journal.specs.Calls.{kept_from}
use Rattle.journal.specs.Promises.{TellsFirst}

pub kept_all : (low n : ℕ) (xs : List Section) → Rising low xs → n ≤ low → kept_from xs n ≡ xs
kept_all low n [] up h = refl
kept_all low n (x ∷ xs) up h =
    let t : ltb x.start n ≡ false = le-ltb _ _ (omega (arith, up.0)) in
    cond-false _ _ _ t ∙ ap (λ ys. x ∷ ys) (kept_all (x.start + 1) n xs up.1 (omega (arith, up.0)))

-- What the first start at or above n tells of the sections from n on.
pub record Leads (low n s : ℕ) (xs : List Section) : Type 0 where
  pub section : Section
  pub from : n ≤ s
  pub above : low ≤ s
  pub start : section.start ≡ s
  pub rows : rows_of xs s ≡ section.rows
  pub rest : kept_from xs n ≡ section ∷ kept_from xs (s + 1)

pub first_some : (low n s : ℕ) (xs : List Section) → Rising low xs → first_from xs n ≡ Some s → Leads low n s xs
first_some low n s [] up h = let z : ◌≡◌ {A = ℕ} 0 1 = cc in absurd (omega arith)
first_some low n s (x ∷ xs) up h =
    ⊎_elim
    (λ l. let t : ltb x.start n ≡ true = lt-ltb _ _ l in
    let k = first_some (x.start + 1) n s xs up.1 (sym (cond-true _ _ _ t) ∙ h) in
    let u : ltb x.start (s + 1) ≡ true = lt-ltb _ _ (omega (arith, k.above)) in
    let e : eqb x.start s ≡ false = ne_eqb _ _ (λ q. omega (arith, k.above)) in
    record {
      section = k.section;
      from = k.from;
      above = omega (arith, k.above, up.0);
      start = k.start;
      rows = cond-false _ _ _ e ∙ k.rows;
      rest = cond-true _ _ _ t ∙ k.rest ∙ ap (λ ys. k.section ∷ ys) (sym (cond-true _ _ _ u));
    })
    (λ l. let t : ltb x.start n ≡ false = le-ltb _ _ l in
    let e : ◌≡◌ {A = Option ℕ} (Some x.start) (Some s) = sym (cond-false _ _ _ t) ∙ h in
    let q : x.start ≡ s = cc in
    let u : ltb x.start (s + 1) ≡ true = lt-ltb _ _ (omega arith) in
    let a = kept_all (x.start + 1) n xs up.1 (omega arith) in
    let b = kept_all (x.start + 1) (s + 1) xs up.1 (omega arith) in
    record {
      section = x;
      from = omega arith;
      above = omega (arith, up.0);
      start = q;
      rows = cond-true _ _ _ (eq-eqb _ _ q);
      rest = cond-false _ _ _ t ∙ ap (λ ys. x ∷ ys) (a ∙ sym b ∙ sym (cond-true _ _ _ u));
    })
    (cases_lt x.start n)

pub first_none : (n : ℕ) (xs : List Section) → first_from xs n ≡ None → kept_from xs n ≡ []
first_none n [] h = refl
first_none n (x ∷ xs) h =
    ⊎_elim
    (λ l. let t : ltb x.start n ≡ true = lt-ltb _ _ l in cond-true _ _ _ t ∙ first_none n xs (sym (cond-true _ _ _ t) ∙ h))
    (λ l. let t : ltb x.start n ≡ false = le-ltb _ _ l in
    let e : ◌≡◌ {A = Option ℕ} (Some x.start) None = sym (cond-false _ _ _ t) ∙ h in
    let z : ◌≡◌ {A = ℕ} 0 1 = cc in absurd (omega arith))
    (cases_lt x.start n)

drop_suc : {X : Type 0} (xs : List X) (n : ℕ) (x : X) (ys : List X) → drop n xs ≡ x ∷ ys → drop (suc n) xs ≡ ys
drop_suc [] zero x ys h = let z : ◌≡◌ {A = ℕ} 0 1 = cc in absurd (omega arith)
drop_suc [] (suc n) x ys h = let z : ◌≡◌ {A = ℕ} 0 1 = cc in absurd (omega arith)
drop_suc (y ∷ zs) zero x ys h = cc
drop_suc (y ∷ zs) (suc n) x ys h = drop_suc zs n x ys h

pub drop_next : {X : Type 0} (xs : List X) (n : ℕ) (x : X) (ys : List X) → drop n xs ≡ x ∷ ys → drop (n + 1) xs ≡ ys
drop_next xs n x ys h = rw add-one (drop_suc xs n x ys h)

-- A step of the walk.
pub walk : (low n i s : ℕ) (xs : List Section) → Rising low xs → kept_from xs n ≡ drop i xs → first_from xs n ≡ Some s → kept_from xs (s + 1) ≡ drop (i + 1) xs
walk low n i s xs up h e =
    let k = first_some low n s xs up e in
    sym (drop_next xs i k.section (kept_from xs (s + 1)) (sym h ∙ k.rest))

pub kept_none : (n : ℕ) (xs : List Section) → AllByRecursion (λ x. x.start < n) xs → kept_from xs n ≡ []
kept_none n [] h = refl
kept_none n (x ∷ xs) h = cond-true _ _ _ (lt-ltb _ _ h.0) ∙ kept_none n xs h.1

pub drop_end : {X : Type 0} (xs : List X) (i : ℕ) → drop i xs ≡ [] → length xs ≤ i
drop_end xs i h = let e : length xs - i ≡ 0 = sym (length-drop i xs) ∙ ap length h in omega arith

pub drop_some : {X : Type 0} (xs : List X) (i : ℕ) (x : X) (ys : List X) → drop i xs ≡ x ∷ ys → i < length xs
drop_some xs i x ys h = let e : length xs - i ≡ length (x ∷ ys) = sym (length-drop i xs) ∙ ap length h in omega arith

pub inside : (low n i s : ℕ) (xs : List Section) → Rising low xs → kept_from xs n ≡ drop i xs → first_from xs n ≡ Some s → i < length xs
inside low n i s xs up h e = let k = first_some low n s xs up e in drop_some xs i k.section _ (sym h ∙ k.rest)

-- The section that a step comes to.
pub next_taken : (low n i s : ℕ) (xs : List Section) → Rising low xs → kept_from xs n ≡ drop i xs → first_from xs n ≡ Some s → (x : Section) × (x.start ≡ s) × (rows_of xs s ≡ x.rows) × (take (i + 1) xs ≡ take i xs ++ x ∷ [])
next_taken low n i s xs up h e =
    let k = first_some low n s xs up e in
    (k.section, k.start, k.rows, take_next xs i k.section (kept_from xs (s + 1)) (sym h ∙ k.rest))
  where
    take_next : {X : Type 0} (ys : List X) (n : ℕ) (y : X) (zs : List X) → drop n ys ≡ y ∷ zs → take (n + 1) ys ≡ take n ys ++ y ∷ []
    take_next ys n y zs d =
        let l = drop_some ys n y zs d in
        let q : get_or ys n y ≡ y = let w = drop_more ys n y l in let v : ◌≡◌ {A = List _} (get_or ys n y ∷ drop (n + 1) ys) (y ∷ zs) = sym w ∙ d in cc in
        take_more ys n y l ∙ ap (λ x. take n ys ++ x ∷ []) q

-- The two ends of the walk: none is left, or the last start that there can be.
pub none_above : (l : Limits) (n : ℕ) (xs : List Section) → AllByRecursion (Within l) xs → n ≡ 2 ^ 64 → kept_from xs n ≡ []
none_above l n xs fit e = ap (kept_from xs) e ∙ kept_none (2 ^ 64) xs (All-weaker (Within l) (λ (x : Section). x.start < 2 ^ 64) (λ x q. q.start) xs fit)

-- The number to look from: none is left above the last, which is 2 ^ 64 to the walk.
abbrev pub from_or_end : Option ℕ → ℕ
from_or_end from = unwrap_or from (2 ^ 64)

pub next_from : (s : ℕ) (r : Option ℕ) → s < 2 ^ 64 → SomeIff r (s + 1 < 2 ^ 64) (s + 1) → from_or_end r ≡ s + 1
next_from s None low h = omega (arith, h)
next_from s (Some n) low h = omega (arith, h)

-- What the look for the next start says, where the journal's meaning is m.
module _ {O J : Type 0} (fits : O → J → Type 0) (meaning : J → Meaning) (j : J) (o : O) (fit : fits o j) (m : Meaning) (same : meaning j ≡ m) where
  pub comes : (from : Option ℕ) (r : Option ℕ) (s : ℕ) → MatchOption from (r ≡ None) (λ n. TellsFirst fits meaning j n r) → r ≡ Some s → Some s ≡ first_from m.sections (from_or_end from)
  comes None r s h e = cc
  comes (Some n) r s h e = sym e ∙ h.answer o fit ∙ ap (λ (k : Meaning). first_from k.sections n) same

  pub stops : (from : Option ℕ) (r : Option ℕ) → Lawful m → MatchOption from (r ≡ None) (λ n. TellsFirst fits meaning j n r) → r ≡ None → kept_from m.sections (from_or_end from) ≡ []
  stops None r law h e = none_above m.limits (2 ^ 64) m.sections law.within refl
  stops (Some n) r law h e = first_none n m.sections (ap (λ (k : Meaning). first_from k.sections n) (sym same) ∙ sym (h.answer o fit) ∙ e)
