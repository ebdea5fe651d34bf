-- What reading a row answers and leaves in the buffer, from what the code finds. Assumes nothing.
use Rattle.std.proofs.Common.{◌≡◌, ℕ, ◌+◌, ◌-◌, ◌==◌, ◌<◌, ◌≤◌, true, false, cond, eqb, ltb, List, ◌++◌, length, drop, Some, None, Ok, Err, Option, Result, sym, refl, ap, ◌∙◌, subst, ap₂, arith}
use Rattle.std.proofs.lemmas.Bool.{ltb-true, ltb-false, lt-ltb, le-ltb, cond-true, cond-false, cond_both, eq-eqb, ne_eqb}
use Rattle.std.proofs.lemmas.List.FromFn.{get_or-map-range_with_len}
use Rattle.std.proofs.lemmas.Option.{cond_some, none-some, slice_get-get_or, slice_get_past}
use Rattle.std.specs.List.{slice_get}
use Rattle.journal.specs.declared.row.Entry.{Entry}
use Rattle.journal.specs.declared.fault.JournalFault.{JournalFault}
use Rattle.journal.specs.declared.fault.JournalFault.TheVariants.{Short, Damaged, NoRow}
use Rattle.journal.specs.Bytes.{chunk, put}
use Rattle.journal.specs.Meaning.{Content, sound, damaged, Row, check_size, row_at as row_there}
use Rattle.journal.specs.Calls.{entry_answer, entry_fill, entry_read, entry_buffer, content_answer, content_fill, value_answer, value_fill, value_read, value_buffer}
use Rattle.journal.proofs.Bytes.{length_chunk, step_le}
use Rattle.format.specs.Numbers.{be}
use Rattle.format.specs.Layout.{row_size, row_place, value_check}
use Rattle.format.specs.Decode.{label_of, key_of, offset_of, size_of, length_of, content_of, row_of}
use Rattle.format.specs.Mount.{found, bears}
use Rattle.format.specs.State.{View, page_in, row_in, vals_in, pages_in, meaning_of, count_in, here_if, located}
use Rattle.format.specs.Well.{IsAt, Well}
use Rattle.format.proofs.Bytes.{chunk_inside, put_front}
use Rattle.format.proofs.Firsts.{if_none}
use Rattle.format.proofs.Slots.{length_page, length_vals}
use Rattle.format.proofs.Meanings.{rows_length, row_length, length_key, rows_found, rows_not_found}

-- A value, by the bytes and the check behind them.
module _ (xs : List ℕ) (a n : ℕ) (h : a + n ≤ length xs) (s p : ℕ) (buffer : List ℕ) where
  abbrev Reads : Result ℕ JournalFault → List ℕ → Content → Type 0
  Reads r after x = (r ≡ content_answer x s p (length buffer)) × (after ≡ content_fill x buffer)

  pub content_short : length buffer < n → Reads (Err (Short s p n)) buffer (content_of xs a n)
  unfolding content_of
  content_short q =
      let e = length_chunk xs a n h in
      cond_both (eqb (be (chunk xs (a + n) check_size)) (value_check (chunk xs a n))) (sound (chunk xs a n)) (damaged n) (Reads (Err (Short s p n)) buffer)
      (λ _. let t : ltb (length buffer) (length (chunk xs a n)) ≡ true = lt-ltb _ _ (omega arith) in (
        ap (λ (k : ℕ). Err (Short s p k)) (sym e) ∙ sym (cond-true (ltb (length buffer) (length (chunk xs a n))) (Err (Short s p (length (chunk xs a n)))) (Ok (length (chunk xs a n))) t),
        sym (cond-true (ltb (length buffer) (length (chunk xs a n))) buffer (chunk xs a n ++ drop (length (chunk xs a n)) buffer) t),
      ))
      (λ _. (sym (cond-true (ltb (length buffer) n) (Err (Short s p n)) (Err (Damaged s p)) (lt-ltb _ _ q)), refl))

  module _ (q : n ≤ length buffer) (check real : ℕ) (ek : check ≡ be (chunk xs (a + n) check_size)) (er : real ≡ value_check (chunk xs a n)) where
    pub content_damaged : (check ≡ real → ⊥) → Reads (Err (Damaged s p)) buffer (content_of xs a n)
    unfolding content_of
    content_damaged ne =
        let d : cond (eqb (be (chunk xs (a + n) check_size)) (value_check (chunk xs a n))) (sound (chunk xs a n)) (damaged n) ≡ damaged n = cond-false _ _ _ (ne_eqb _ _ (λ e. ne (ek ∙ (e ∙ sym er)))) in
        (sym (ap (λ x. content_answer x s p (length buffer)) d ∙ cond-false (ltb (length buffer) n) (Err (Short s p n)) (Err (Damaged s p)) (le-ltb _ _ q)), sym (ap (λ x. content_fill x buffer) d))

    pub content_sound : check ≡ real → (after : List ℕ) → after ≡ put buffer 0 (chunk xs a n) → Reads (Ok n) after (content_of xs a n)
    unfolding content_of
    content_sound e after ea =
        let g = length_chunk xs a n h in
        let d : cond (eqb (be (chunk xs (a + n) check_size)) (value_check (chunk xs a n))) (sound (chunk xs a n)) (damaged n) ≡ sound (chunk xs a n) = cond-true _ _ _ (eq-eqb _ _ (sym ek ∙ (e ∙ er))) in
        let t : ltb (length buffer) (length (chunk xs a n)) ≡ false = le-ltb _ _ (omega arith) in (
          sym (ap (λ x. content_answer x s p (length buffer)) d ∙ (cond-false (ltb (length buffer) (length (chunk xs a n))) (Err (Short s p (length (chunk xs a n)))) (Ok (length (chunk xs a n))) t ∙ ap (λ (k : ℕ). Ok k) g)),
          ea ∙ (put_front buffer (chunk xs a n) (length (chunk xs a n)) refl
              ∙ sym (ap (λ x. content_fill x buffer) d ∙ cond-false (ltb (length buffer) (length (chunk xs a n))) buffer (chunk xs a n ++ drop (length (chunk xs a n)) buffer) t)),
        )

-- The same value, in its stretch and in all values of its slot.
pub content_inside : (xs : List ℕ) (a z : ℕ) → check_size ≤ z → content_of (chunk xs a z) 0 (z - check_size) ≡ content_of xs a (z - check_size)
unfolding content_of
content_inside xs a z h =
    let n = z - check_size in
    ap₂ (λ (seal bytes : List ℕ). cond (be seal == value_check bytes) (sound bytes) (damaged n))
    (sym (chunk_inside xs a z (0 + n) check_size (a + n) (omega arith) (omega arith)))
    (sym (chunk_inside xs a z 0 n a (omega arith) (omega arith)))

-- The row at a place.
pub row_found : (v : View) → Well v → (start p t : ℕ) → Some t ≡ located v start p
    → (row_there (meaning_of v) start p ≡ Some (row_of v.limits.width (row_in v t p) (vals_in v t))) × (t < v.limits.slots) × (p < count_in v t)
row_found v w start p t h = by (found (bears v.limits v.entries start) v.limits.slots) refl (sym h)
  where
    by : (o : Option ℕ) → found (bears v.limits v.entries start) v.limits.slots ≡ o → here_if v p o ≡ Some t
        → (row_there (meaning_of v) start p ≡ Some (row_of v.limits.width (row_in v t p) (vals_in v t))) × (t < v.limits.slots) × (p < count_in v t)
    by None e k = absurd (none-some t k)
    by (Some s) e k =
        let q = cond_some (ltb p (count_in v s)) s t k in
        let r = rows_found v w start t (e ∙ ap Some q.1) in
        let l : p < count_in v t = subst (λ j. p < count_in v j) q.1 (ltb-true _ _ q.0) in
        let f : ℕ → Row = λ r. row_of v.limits.width (row_in v t r) (vals_in v t) in
        (ap (λ rs. slice_get rs p) r.0 ∙ (slice_get-get_or (pages_in v t).rows p (f p) (omega (arith, rows_length v t)) ∙ ap Some (get_or-map-range_with_len f 0 (count_in v t) p p (f p) l (omega arith))), r.1, l)

pub is_at : (v : View) → Well v → (start p t : ℕ) → Some t ≡ found (bears v.limits v.entries start) v.limits.slots → p < count_in v t → IsAt v start p t
is_at v w start p t e h =
    let l : Some t ≡ located v start p = sym (ap (here_if v p) (sym e) ∙ cond-true (ltb p (count_in v t)) (Some t) None (lt-ltb _ _ h)) in
    let f = row_found v w start p t l in
    record { found = l; slot = f.1; row = h }

row_not_found : (v : View) → Well v → (start p : ℕ) → None ≡ located v start p → row_there (meaning_of v) start p ≡ None
row_not_found v w start p h = by (found (bears v.limits v.entries start) v.limits.slots) refl (sym h)
  where
    by : (o : Option ℕ) → found (bears v.limits v.entries start) v.limits.slots ≡ o → here_if v p o ≡ None → row_there (meaning_of v) start p ≡ None
    by None e k = ap (λ rs. slice_get rs p) (rows_not_found v start e)
    by (Some s) e k =
        ap (λ rs. slice_get rs p) (rows_found v w start s e).0 ∙ slice_get_past (pages_in v s).rows p (omega (arith, rows_length v s, ltb-false p (count_in v s) (if_none (ltb p (count_in v s)) s k)))

-- The row and its value lie where they have to.
module _ (v : View) (w : Well v) (t p : ℕ) (ht : t < v.limits.slots) (hp : p < count_in v t) where
  pub row_ends : row_place v.limits.width p + row_size v.limits.width ≤ length (page_in v t)
  row_ends = omega (arith, length_page v.limits v.entries w.laid t ht, step_le p v.limits.rows (row_size v.limits.width) (omega (arith, (w.pages t ht).few)))

  pub value_ends : (check_size ≤ size_of v.limits.width (row_in v t p))
      × (offset_of v.limits.width (row_in v t p) + size_of v.limits.width (row_in v t p) ≤ length (vals_in v t))
  value_ends = let g = (w.pages t ht).each p hp in (g.some, omega (arith, g.place, g.room, length_vals v w t ht))

-- The two reads.
module _ (v : View) (w : Well v) (start p : ℕ) (buffer : List ℕ) where
  abbrev EntryRead : Result Entry JournalFault → List ℕ → Type 0
  EntryRead r after = (r ≡ entry_read (meaning_of v) start p (length buffer)) × (after ≡ entry_buffer (meaning_of v) start p buffer)

  abbrev ValueRead : Result ℕ JournalFault → List ℕ → Type 0
  ValueRead r after = (r ≡ value_read (meaning_of v) start p (length buffer)) × (after ≡ value_buffer (meaning_of v) start p buffer)

  pub no_entry : None ≡ located v start p → EntryRead (Err (NoRow start p)) buffer
  no_entry e = let r = row_not_found v w start p e in
      (sym (ap (λ o. entry_answer o v.limits.width start p (length buffer)) r), sym (ap (λ o. entry_fill o v.limits.width buffer) r))

  pub no_value : None ≡ located v start p → ValueRead (Err (NoRow start p)) buffer
  no_value e = let r = row_not_found v w start p e in
      (sym (ap (λ o. value_answer o start p (length buffer)) r), sym (ap (λ o. value_fill o buffer) r))

  module _ (t : ℕ) (e : Some t ≡ located v start p) where
    pub short_entry : length buffer < v.limits.width → EntryRead (Err (Short start p v.limits.width)) buffer
    short_entry h = let r = (row_found v w start p t e).0 in let q = lt-ltb _ _ h in
        (sym (ap (λ o. entry_answer o v.limits.width start p (length buffer)) r ∙ cond-true _ _ _ q), sym (ap (λ o. entry_fill o v.limits.width buffer) r ∙ cond-true _ _ _ q))

    pub an_entry : v.limits.width ≤ length buffer → (r : Entry) (after : List ℕ)
        → r ≡ record { label = label_of v.limits.width (row_in v t p); length = length_of v.limits.width (row_in v t p) }
        → after ≡ put buffer 0 (key_of v.limits.width (row_in v t p)) → EntryRead (Ok r) after
    an_entry h r after er ea =
        let f = row_found v w start p t e in
        let q = le-ltb _ _ h in
        let z = row_length v.limits (page_in v t) (vals_in v t) (w.pages t f.1) (length_vals v w t f.1) p f.2 in (
          ap (λ (y : Entry). Ok y) (er ∙ ap (λ (k : ℕ). record { label = label_of v.limits.width (row_in v t p); length = k }) (sym z))
              ∙ sym (ap (λ o. entry_answer o v.limits.width start p (length buffer)) f.0 ∙ cond-false _ _ _ q),
          ea ∙ (put_front buffer (key_of v.limits.width (row_in v t p)) v.limits.width (length_key v w t f.1 p f.2)
              ∙ sym (ap (λ o. entry_fill o v.limits.width buffer) f.0 ∙ cond-false _ _ _ q)),
        )

    pub a_value : (r : Result ℕ JournalFault) (after : List ℕ) (a n : ℕ)
        → a ≡ offset_of v.limits.width (row_in v t p) → n ≡ length_of v.limits.width (row_in v t p)
        → r ≡ content_answer (content_of (vals_in v t) a n) start p (length buffer) → after ≡ content_fill (content_of (vals_in v t) a n) buffer → ValueRead r after
    a_value r after a n ha hn er ea =
        let f = (row_found v w start p t e).0 in
        let c = ap₂ (content_of (vals_in v t)) ha hn in (
          er ∙ (ap (λ (x : Content). content_answer x start p (length buffer)) c ∙ sym (ap (λ o. value_answer o start p (length buffer)) f)),
          ea ∙ (ap (λ (x : Content). content_fill x buffer) c ∙ sym (ap (λ o. value_fill o buffer) f)),
        )
