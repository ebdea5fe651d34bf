-- Rows by columns. Assumes nothing.
--   rows_length, rows_at   how many rows there are, and the one at a place
--   rows_same              columns that agree so far have the same rows
--   linked_below           where an option that is a link lies
--   pushed                 a row more
--   led_on                 a row that leads on to another
use Rattle.std.proofs.Common.{◌≡◌, ℕ, zero, suc, ◌+◌, ◌<◌, ◌≤◌, List, [], ◌∷◌, ◌++◌, length, get_or, set, Option, IfSome, sym, refl, ap, ◌∙◌, subst, ap₂, ⊎_elim, add-one, arith, get_or-set_other, get_or-set_same}
use Rattle.std.proofs.lemmas.List.{length_push, get_or_append_left, get_or_push, ext_get_or}
use Rattle.std.proofs.lemmas.Bool.{cases_order}
use Rattle.std.proofs.Common.{length-set}
use Rattle.index_layout.specs.Links.{linked}
use Rattle.index.specs.declared.link.Link.{Link}
use Rattle.index.specs.declared.row.Row.{Row}
use Rattle.index.specs.Rows.{blank, no_link, Columns, row_in, rows_to, led}

pub rows_length : (t : Columns) (n : ℕ) → length (rows_to t n) ≡ n
rows_length t zero = refl
rows_length t (suc n) = let e = rows_length t n in omega (arith, length_push (rows_to t n) (row_in t n), e)

pub rows_at : (t : Columns) (n p : ℕ) (d : Row) → p < n → get_or (rows_to t n) p d ≡ row_in t p
rows_at t zero p d l = absurd (omega arith)
rows_at t (suc n) p d l =
    let e = rows_length t n in
    ⊎_elim
    (λ s. get_or_push (rows_to t n) (row_in t n) d p (omega (arith, e, s)) ∙ ap (row_in t) (sym s))
    (⊎_elim
    (λ o. get_or_append_left (rows_to t n) (row_in t n ∷ []) d p (omega (arith, e)) ∙ rows_at t n p d o)
    (λ o. absurd (omega arith)))
    (cases_order p n)

pub rows_same : (t u : Columns) (n : ℕ) → ((p : ℕ) → p < n → row_in t p ≡ row_in u p) → rows_to t n ≡ rows_to u n
rows_same t u zero h = refl
rows_same t u (suc n) h = ap₂ (λ (xs : List Row) (r : Row). xs ++ r ∷ []) (rows_same t u n (λ p l. h p (omega arith))) (h n (omega arith))

-- An option that is a link within a table names a place of it.
pub linked_below : (o : Option ℕ) (k m : ℕ) → o ≡ linked k → k ≤ m → IfSome o (λ p. p < m)
linked_below o zero m e l = subst (λ q. IfSome q (λ p. p < m)) (sym e) tt
linked_below o (suc k) m e l = subst (λ q. IfSome q (λ p. p < m)) (sym e) (omega arith)

pub record Put (t u : Columns) (n : ℕ) (r : Row) : Type 0 where
  pub codes : u.codes ≡ set t.codes n r.code
  pub offsets : u.offsets ≡ set t.offsets n r.offset
  pub buckets : u.buckets ≡ set t.buckets n r.bucket
  pub next : u.next ≡ set t.next n r.next
  pub below : u.below ≡ set t.below n r.below

pub record Long (t : Columns) (n : ℕ) : Type 0 where
  pub codes : n < length t.codes
  pub offsets : n < length t.offsets
  pub buckets : n < length t.buckets
  pub next : n < length t.next
  pub below : n < length t.below

module _ (t u : Columns) (n : ℕ) (r : Row) (long : Long t n) (put : Put t u n r) where
  other : (p : ℕ) → p < n → row_in u p ≡ row_in t p
  other p l =
      let ne : p ≡ n → ⊥ = λ e. omega (arith, e, l) in
      let a = ap (λ (xs : List ℕ). get_or xs p 0) put.codes ∙ get_or-set_other t.codes n p r.code 0 ne in
      let b = ap (λ (xs : List ℕ). get_or xs p 0) put.offsets ∙ get_or-set_other t.offsets n p r.offset 0 ne in
      let c = ap (λ (xs : List ℕ). get_or xs p 0) put.buckets ∙ get_or-set_other t.buckets n p r.bucket 0 ne in
      let d = ap (λ (xs : List Link). get_or xs p no_link) put.next ∙ get_or-set_other t.next n p r.next no_link ne in
      let e = ap (λ (xs : List Link). get_or xs p no_link) put.below ∙ get_or-set_other t.below n p r.below no_link ne in
      rw (a, b, c, d, e) refl

  here : row_in u n ≡ r
  here =
      let a = ap (λ (xs : List ℕ). get_or xs n 0) put.codes ∙ get_or-set_same t.codes n r.code 0 long.codes in
      let b = ap (λ (xs : List ℕ). get_or xs n 0) put.offsets ∙ get_or-set_same t.offsets n r.offset 0 long.offsets in
      let c = ap (λ (xs : List ℕ). get_or xs n 0) put.buckets ∙ get_or-set_same t.buckets n r.bucket 0 long.buckets in
      let d = ap (λ (xs : List Link). get_or xs n no_link) put.next ∙ get_or-set_same t.next n r.next no_link long.next in
      let e = ap (λ (xs : List Link). get_or xs n no_link) put.below ∙ get_or-set_same t.below n r.below no_link long.below in
      rw (a, b, c, d, e) refl

  pub pushed : rows_to u (n + 1) ≡ rows_to t n ++ r ∷ []
  pushed = ap (rows_to u) (add-one n) ∙ ap₂ (λ (xs : List Row) (q : Row). xs ++ q ∷ []) (rows_same u t n other) here

module _ (t u : Columns) (m p : ℕ) (to : Link) (codes : u.codes ≡ t.codes) (offsets : u.offsets ≡ t.offsets) (buckets : u.buckets ≡ t.buckets) (below : u.below ≡ t.below)
    (next : u.next ≡ set t.next p to) (long : p < length t.next) (low : p < m) where
  kept : (q : ℕ) → (q ≡ p → ⊥) → row_in u q ≡ row_in t q
  kept q ne =
      let d = ap (λ (xs : List Link). get_or xs q no_link) next ∙ get_or-set_other t.next p q to no_link ne in
      rw (codes, offsets, buckets, below, d) refl

  leads : row_in u p ≡ led (row_in t p) to
  leads =
      let d = ap (λ (xs : List Link). get_or xs p no_link) next ∙ get_or-set_same t.next p to no_link long in
      rw (codes, offsets, buckets, below, d) refl

  abbrev after : Row
  after = led (get_or (rows_to t m) p blank) to

  at : (q : ℕ) → q < m → q ≡ p → get_or (rows_to u m) q blank ≡ get_or (set (rows_to t m) p after) q blank
  at q l e =
      rows_at u m q blank l ∙ ap (row_in u) e ∙ leads ∙ ap (λ (r : Row). led r to) (sym (rows_at t m p blank low))
      ∙ sym (ap (λ (j : ℕ). get_or (set (rows_to t m) p after) j blank) e ∙ get_or-set_same (rows_to t m) p after blank (omega (arith, low, rows_length t m)))

  apart : (q : ℕ) → q < m → (q ≡ p → ⊥) → get_or (rows_to u m) q blank ≡ get_or (set (rows_to t m) p after) q blank
  apart q l ne = rows_at u m q blank l ∙ kept q ne ∙ sym (get_or-set_other (rows_to t m) p q after blank ne ∙ rows_at t m q blank l)

  pub led_on : rows_to u m ≡ set (rows_to t m) p after
  led_on =
      ext_get_or blank (rows_to u m) (set (rows_to t m) p after) (rows_length u m ∙ sym (length-set (rows_to t m) p after ∙ rows_length t m))
      (λ q l. let k : q < m = omega (arith, l, rows_length u m) in
      ⊎_elim (λ e. at q k e) (⊎_elim (λ o. apart q k (λ e. omega (arith, o, e))) (λ o. apart q k (λ e. omega (arith, o, e)))) (cases_order q p))
