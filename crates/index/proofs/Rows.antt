-- The links of rows, after a row more. Assumes nothing.
--   followed_map, followed_at   what a link on changes of the rows, and what not
--   followed_push   a row more, by what rows have
--   linked_none   no row
--   linked_push   a row more
use Rattle.std.proofs.Common.{◌≡◌, ℕ, true, ◌+◌, ◌<◌, cond, eqb, ◌⊎◌, List, [], ◌∷◌, ◌++◌, map, length, get_or, set, is_some, unwrap_or, Some, None, Option, sym, refl, ap, ◌∙◌, subst, inl, inr, add-one, arith, get_or-set_other, get_or-set_same}
use Rattle.std.proofs.lemmas.List.{length-map, map-set, get_or-map, set-get_or, map_push, length_push, get_or_append_left, get_or_push}
use Rattle.std.proofs.lemmas.Bool.{cases_eq, eq-eqb, ne_eqb, cond-true, cond-false}
use Rattle.index_layout.specs.Links.{latest, following, link, linked}
use Rattle.index_layout.proofs.Links.{latest_front, latest_le, newest_push, link_linked}
use Rattle.index_layout.proofs.Offsets.{oldest_push, following_push, following_none, fresh_push}
use Rattle.index.specs.declared.link.Link.{Link}
use Rattle.index.specs.declared.row.Row.{Row}
use Rattle.index.specs.declared.row.Ends.{Ends}
use Rattle.index.specs.Rows.{blank, no_link, named, no_ends, offsets_of, buckets_of, led, followed, first_in, last_in, LinkedBy, Linked}

module _ {B : Type 0} (f : Row → B) (same : (r : Row) (to : Link) → f (led r to) ≡ f r) where
  pub followed_map : (rows : List Row) (o : Option ℕ) (to : Link) → map f (followed rows o to) ≡ map f rows
  followed_map rows None to = refl
  followed_map rows (Some p) to =
      let r = get_or rows p blank in
      map-set f rows p (led r to) ∙ ap (λ y. set (map f rows) p y) (same r to) ∙ sym (map-set f rows p r) ∙ ap (map f) (set-get_or rows p blank)

  pub followed_at : (rows : List Row) (o : Option ℕ) (to : Link) (p : ℕ) → p < length rows → f (get_or (followed rows o to) p blank) ≡ f (get_or rows p blank)
  followed_at rows o to p l =
      let long : p < length (followed rows o to) = omega (arith, sym (length-map (followed rows o to) f) ∙ ap length (followed_map rows o to) ∙ length-map rows f) in
      sym (get_or-map f (followed rows o to) p blank (f blank) long) ∙ ap (λ ys. get_or ys p (f blank)) (followed_map rows o to) ∙ get_or-map f rows p blank (f blank) l

  -- A row more, which the last one of its number leads on to.
  pub followed_push : (rows : List Row) (r : Row) (o : Option ℕ) (to : Link) → map f (followed (rows ++ r ∷ []) o to) ≡ map f rows ++ f r ∷ []
  followed_push rows r o to = followed_map (rows ++ r ∷ []) o to ∙ map_push f rows r

pub followed_length : (rows : List Row) (o : Option ℕ) (to : Link) → length (followed rows o to) ≡ length rows
followed_length rows o to =
    sym (length-map (followed rows o to) (λ r. r.offset)) ∙ ap length (followed_map (λ r. r.offset) (λ r to. refl) rows o to) ∙ length-map rows (λ r. r.offset)

module _ (rows : List Row) (r : Row) (n : ℕ) (len : length rows ≡ n) where
  -- The next row of the same offset.
  plain : named r.next ≡ None → ((p : ℕ) → p < n → named (get_or rows p blank).next ≡ linked (following (offsets_of rows) p n))
      → (p : ℕ) → p < n → named (get_or (rows ++ r ∷ []) p blank).next ≡ linked (following (offsets_of rows) p n)
  plain none old p l = ap (λ s. named s.next) (get_or_append_left rows (r ∷ []) blank p (omega arith)) ∙ old p l

  next_push : (o : Option ℕ) (to : Link) → named to ≡ Some n → named r.next ≡ None → o ≡ linked (latest (offsets_of rows) r.offset n)
      → ((p : ℕ) → p < n → named (get_or rows p blank).next ≡ linked (following (offsets_of rows) p n))
      → (p : ℕ) → p < n + 1 → named (get_or (followed (rows ++ r ∷ []) o to) p blank).next ≡ linked (following (offsets_of rows ++ r.offset ∷ []) p (n + 1))
  next_push o to leads none eo old p l = by o (ap link eo ∙ link_linked (latest (offsets_of rows) r.offset n)) (cases_eq p n)
    where
      long : length (offsets_of rows) ≡ n
      long = length-map rows (λ s. s.offset) ∙ len

      more : p < n → linked (following (offsets_of rows ++ r.offset ∷ []) p (n + 1)) ≡ linked (cond (eqb (latest (offsets_of rows) r.offset n) (p + 1)) (n + 1) (following (offsets_of rows) p n))
      more h = ap linked (following_push (offsets_of rows) r.offset n p long h)

      last : p ≡ n → named (get_or (rows ++ r ∷ []) p blank).next ≡ linked (following (offsets_of rows ++ r.offset ∷ []) p (n + 1))
      last e =
          ap (λ s. named s.next) (get_or_push rows r blank p (omega arith)) ∙ none ∙ sym (ap linked (following_none (offsets_of rows ++ r.offset ∷ []) p (n + 1) (omega arith)))

      kept : p < n → (latest (offsets_of rows) r.offset n ≡ p + 1 → ⊥) → named (get_or (rows ++ r ∷ []) p blank).next ≡ linked (following (offsets_of rows ++ r.offset ∷ []) p (n + 1))
      kept h ne = plain none old p h ∙ sym (more h ∙ ap linked (cond-false _ _ _ (ne_eqb _ _ ne)))

      by : (o : Option ℕ) → link o ≡ latest (offsets_of rows) r.offset n → (p ≡ n) ⊎ (p ≡ n → ⊥)
          → named (get_or (followed (rows ++ r ∷ []) o to) p blank).next ≡ linked (following (offsets_of rows ++ r.offset ∷ []) p (n + 1))
      by None e (inl q) = last q
      by None e (inr q) = kept (omega (arith, q)) (λ w. omega (arith, e, w))
      by (Some k) e c = elim (cases_eq p k) [ inl i ↦ here i | inr i ↦ there i c ]
        where
          low : k < n
          low = omega (arith, e, latest_le (offsets_of rows) r.offset n)

          here : p ≡ k → named (get_or (followed (rows ++ r ∷ []) (Some k) to) p blank).next ≡ linked (following (offsets_of rows ++ r.offset ∷ []) p (n + 1))
          here i =
              let in_rows : k < length (rows ++ r ∷ []) = omega (arith, length_push rows r, low) in
              let t : eqb (latest (offsets_of rows) r.offset n) (p + 1) ≡ true = eq-eqb _ _ (omega (arith, e, i)) in
              ap (λ j. named (get_or (followed (rows ++ r ∷ []) (Some k) to) j blank).next) i
              ∙ ap (λ s. named s.next) (get_or-set_same (rows ++ r ∷ []) k (led (get_or (rows ++ r ∷ []) k blank) to) blank in_rows)
              ∙ leads
              ∙ sym (more (omega (arith, low)) ∙ ap linked (cond-true _ _ _ t ∙ add-one n))

          there : (p ≡ k → ⊥) → (p ≡ n) ⊎ (p ≡ n → ⊥) → named (get_or (followed (rows ++ r ∷ []) (Some k) to) p blank).next ≡ linked (following (offsets_of rows ++ r.offset ∷ []) p (n + 1))
          there i (inl q) = ap (λ s. named s.next) (get_or-set_other (rows ++ r ∷ []) k p (led (get_or (rows ++ r ∷ []) k blank) to) blank i) ∙ last q
          there i (inr q) =
              ap (λ s. named s.next) (get_or-set_other (rows ++ r ∷ []) k p (led (get_or (rows ++ r ∷ []) k blank) to) blank i)
              ∙ kept (omega (arith, q)) (λ w. i (omega (arith, e, w)))

  -- The row before of the same bucket.
  below_push : named r.below ≡ linked (latest (buckets_of rows) r.bucket n)
      → ((p : ℕ) → p < n → named (get_or rows p blank).below ≡ linked (latest (buckets_of rows) (get_or (buckets_of rows) p 0) p))
      → (p : ℕ) → p < n + 1 → named (get_or (rows ++ r ∷ []) p blank).below ≡ linked (latest (buckets_of rows ++ r.bucket ∷ []) (get_or (buckets_of rows ++ r.bucket ∷ []) p 0) p)
  below_push first old p l = by (cases_eq p n)
    where
      long : length (buckets_of rows) ≡ n
      long = length-map rows (λ s. s.bucket) ∙ len

      by : (p ≡ n) ⊎ (p ≡ n → ⊥) → named (get_or (rows ++ r ∷ []) p blank).below ≡ linked (latest (buckets_of rows ++ r.bucket ∷ []) (get_or (buckets_of rows ++ r.bucket ∷ []) p 0) p)
      by (inl e) =
          ap (λ s. named s.below) (get_or_push rows r blank p (omega arith)) ∙ first
          ∙ ap linked (ap (latest (buckets_of rows) r.bucket) (sym e) ∙ sym (latest_front (buckets_of rows) (r.bucket ∷ []) r.bucket p (omega (arith, long))))
          ∙ ap (λ v. linked (latest (buckets_of rows ++ r.bucket ∷ []) v p)) (sym (get_or_push (buckets_of rows) r.bucket 0 p (omega (arith, long))))
      by (inr ne) =
          let h : p < n = omega (arith, ne) in
          ap (λ s. named s.below) (get_or_append_left rows (r ∷ []) blank p (omega arith)) ∙ old p h
          ∙ ap linked (sym (latest_front (buckets_of rows) (r.bucket ∷ []) (get_or (buckets_of rows) p 0) p (omega (arith, long))))
          ∙ ap (λ v. linked (latest (buckets_of rows ++ r.bucket ∷ []) v p)) (sym (get_or_append_left (buckets_of rows) (r.bucket ∷ []) 0 p (omega (arith, long))))

pub linked_none : (numbers : List Ends) (heads : List Link) → ((o : ℕ) → o < 64 → get_or numbers o no_ends ≡ no_ends) → ((b : ℕ) → b < 128 → get_or heads b no_link ≡ no_link)
    → Linked 0 [] numbers heads
linked_none numbers heads n h =
    record {
      begun = λ o l. ap first_in (n o l);
      ended = λ o l. ap last_in (n o l);
      next = λ p l. absurd (omega arith);
      counted = refl;
      headed = λ b l. ap named (h b l);
      below = λ p l. absurd (omega arith);
    }

-- The first one of an offset's ends, after a row more.
first_push : (l last : Link) (n : ℕ) → named last ≡ Some n → named (cond (is_some (named l)) l last) ≡ Some (unwrap_or (named l) n)
first_push l last n e = by (named l) refl
  where
    by : (o : Option ℕ) → o ≡ named l → named (cond (is_some o) l last) ≡ Some (unwrap_or o n)
    by None q = e
    by (Some k) q = sym q

-- The row r more is the one at n, and a link leads to it.
pub linked_push : (rows : List Row) (numbers : List Ends) (heads : List Link) (r : Row) (n d : ℕ) (last : Link) → length rows ≡ n → named last ≡ Some n → Linked d rows numbers heads
    → r.offset < 64 → r.offset < length numbers → r.bucket < 128 → r.bucket < length heads → named r.next ≡ None → r.below ≡ get_or heads r.bucket no_link
    → let had = get_or numbers r.offset no_ends in Linked (cond (is_some (first_in had)) d (d + 1))
    (followed (rows ++ r ∷ []) (last_in had) last)
    (set numbers r.offset (record { first = cond (is_some (first_in had)) had.first last; last = last }))
    (set heads r.bucket last)
linked_push rows numbers heads r n d last len leads old o64 on b128 bn none first = rw (len', offsets', buckets') grown
  where
    had : Ends
    had = get_or numbers r.offset no_ends

    ends : Ends
    ends = record { first = cond (is_some (first_in had)) had.first last; last = last }

    rows' : List Row
    rows' = followed (rows ++ r ∷ []) (last_in had) last

    long_b : length (buckets_of rows) ≡ n
    long_b = length-map rows (λ s. s.bucket) ∙ len

    long_o : length (offsets_of rows) ≡ n
    long_o = length-map rows (λ s. s.offset) ∙ len

    len' : length rows' ≡ n + 1
    len' = followed_length (rows ++ r ∷ []) (last_in had) last ∙ length_push rows r ∙ ap (λ m. m + 1) len

    offsets' : offsets_of rows' ≡ offsets_of rows ++ r.offset ∷ []
    offsets' = followed_push (λ s. s.offset) (λ s to. refl) rows r (last_in had) last

    buckets' : buckets_of rows' ≡ buckets_of rows ++ r.bucket ∷ []
    buckets' = followed_push (λ s. s.bucket) (λ s to. refl) rows r (last_in had) last

    was : LinkedBy d n (offsets_of rows) (buckets_of rows) rows numbers heads
    was = subst (λ m. LinkedBy d m (offsets_of rows) (buckets_of rows) rows numbers heads) len old

    grown : LinkedBy (cond (is_some (first_in had)) d (d + 1)) (n + 1) (offsets_of rows ++ r.offset ∷ []) (buckets_of rows ++ r.bucket ∷ []) rows' (set numbers r.offset ends) (set heads r.bucket last)
    grown = record {
      begun = oldest_push first_in (offsets_of rows) 64 r.offset n numbers ends no_ends long_o on o64 (first_push had.first last n leads) was.begun;
      ended = newest_push last_in (offsets_of rows) 64 r.offset n numbers ends no_ends long_o on leads was.ended;
      next = next_push rows r n len (last_in had) last leads none (was.ended r.offset o64) was.next;
      counted = fresh_push (offsets_of rows) r.offset n d (first_in had) long_o was.counted (was.begun r.offset o64);
      headed = newest_push named (buckets_of rows) 128 r.bucket n heads last no_link long_b bn leads was.headed;
      below = λ p l. followed_at (λ s. named s.below) (λ s to. refl) (rows ++ r ∷ []) (last_in had) last p (omega (arith, length_push rows r))
          ∙ below_push rows r n len (ap named first ∙ was.headed r.bucket b128) was.below p l;
    }
