-- One row more in a page that has room for it. Assumes nothing.
use Rattle.std.proofs.Common.{◌≡◌, ℕ, zero, suc, ◌+◌, ◌-◌, ◌^◌, ◌<◌, ◌≤◌, true, eqb, List, [], ◌∷◌, ◌++◌, length, sym, refl, ap, ◌∙◌, subst, ⊎_elim, eq-or-lt_of_le, arith}
use Rattle.std.proofs.lemmas.Bool.{eq-eqb}
use Rattle.std.proofs.lemmas.List.FromFn.{map-range_with_len_more}
use Rattle.journal.specs.declared.limits.Limits.{Limits}
use Rattle.journal.specs.declared.row.Label.{Label}
use Rattle.journal.specs.Bytes.{chunk, put}
use Rattle.journal.specs.Meaning.{Content, sound, Row, check_size, cost_of}
use Rattle.journal.specs.Calls.{new_row}
use Rattle.journal.proofs.Bytes.{length_put, chunk_put_before, chunk_put_after, step_le}
use Rattle.journal.proofs.Pages.{map_counting_same}
use Rattle.format.specs.Numbers.{be, be_4, be_8}
use Rattle.format.specs.Layout.{count_at, head_check_at, head_size, row_check_at, row_size, row_place, page_size, entry_check, value_check, value_seal, sealed, value_bytes, head_front, head_bytes, row_bytes}
use Rattle.format.specs.Decode.{start_of, count_of, row_at, label_of, key_of, offset_of, size_of, length_of, content_of, row_of, used, first_rows}
use Rattle.format.specs.Well.{Checked, RowFits, GoodPage}
use Rattle.format.proofs.Numbers.{be_be_4, be_be_8, be_entry_check, be_value_check}
use Rattle.format.proofs.Bytes.{chunk_inside, chunk_put_whole, chunk_front, chunk_mid, length_sealed, chunk_sealed_front, chunk_sealed_check, length_value_bytes, chunk_value_front, chunk_value_check}
use Rattle.format.proofs.Rows.{label_of_row, key_of_row, offset_of_row, size_of_row, checked_row, length_row}

-- What a write behind a value leaves of it, and what the write itself means.
content_before : (vs : List ℕ) (u : ℕ) (ys : List ℕ) (a n : ℕ) → u + length ys ≤ length vs → a + n + check_size ≤ u → content_of (put vs u ys) a n ≡ content_of vs a n
unfolding content_of
content_before vs u ys a n h l =
    let x = chunk_put_before vs u ys a n h (omega arith) in
    let y = chunk_put_before vs u ys (a + n) check_size h (omega arith) in
    rw (x, y)

content_new : (vs : List ℕ) (u : ℕ) (v : List ℕ) (n : ℕ) → n ≡ length v → u + length v + check_size ≤ length vs → content_of (put vs u (value_bytes v)) u n ≡ sound v
unfolding content_of
content_new vs u v n e h =
    let ls = length_value_bytes v in
    let whole : chunk (put vs u (value_bytes v)) u (n + check_size) ≡ value_bytes v = chunk_put_whole vs u (n + check_size) (value_bytes v) (omega arith) (omega arith) in
    let a : chunk (put vs u (value_bytes v)) u n ≡ v =
    chunk_inside (put vs u (value_bytes v)) u (n + check_size) 0 n u (omega arith) (omega arith) ∙ (ap (λ t. chunk t 0 n) whole ∙ chunk_value_front v n e) in
    let b : chunk (put vs u (value_bytes v)) (u + n) check_size ≡ value_seal v =
    chunk_inside (put vs u (value_bytes v)) u (n + check_size) n check_size (u + n) (omega arith) (omega arith) ∙ (ap (λ t. chunk t n check_size) whole ∙ chunk_value_check v n e) in
    let t : eqb (be (value_seal v)) (value_check v) ≡ true = eq-eqb (be (value_seal v)) (value_check v) (be_value_check v) in
    rw (a, b, t)

pub used_le : (w : ℕ) (p : List ℕ) (r c : ℕ) → r < c → used w p r + size_of w (row_at w p r) ≤ used w p c
used_le w p r zero h = absurd (omega arith)
used_le w p r (suc c) h =
    ⊎_elim (λ e. rw e (omega arith)) (λ l. omega (arith, used_le w p r c l)) (eq-or-lt_of_le {n = r} {m = c} (omega arith))

abbrev pub grown_page : ℕ → List ℕ → ℕ → ℕ → Label → List ℕ → ℕ → ℕ → List ℕ
grown_page w p c start label key offset size = put (put p (row_place w c) (row_bytes label key offset size)) 0 (head_bytes start (c + 1))

pub length_head : (start count : ℕ) → length (head_bytes start count) ≡ head_size
length_head start count = length_sealed (head_front start count)

module _ (l : Limits) (p vs : List ℕ) (good : GoodPage l p) (lp : length p ≡ page_size l.rows l.width) (lv : length vs ≡ l.bytes)
    (start : ℕ) (label : Label) (k v : List ℕ) (lk : length k ≡ l.width) (c : ℕ) (ec : count_of p ≡ c) (room : c < l.rows) (small : l.rows < 2 ^ 31)
    (u : ℕ) (eu : used l.width p c ≡ u) (fits : u + cost_of (length v) ≤ l.bytes) (byte : l.bytes < 2 ^ 31)
    (ns : start < 2 ^ 64) (nn : label.number < 2 ^ 64) where
  abbrev w : ℕ
  w = l.width

  abbrev z : ℕ
  z = cost_of (length v)

  abbrev row : List ℕ
  row = row_bytes label k u (cost_of (length v))

  abbrev head : List ℕ
  head = head_bytes start (c + 1)

  abbrev p' : List ℕ
  p' = grown_page l.width p c start label k u (cost_of (length v))

  abbrev vs' : List ℕ
  vs' = put vs u (value_bytes v)

  long : length row ≡ row_size w
  long = length_row label w k u z lk

  length_first : length (put p (row_place w c) row) ≡ length p
  length_first = length_put p (row_place w c) row (omega (arith, long, step_le c l.rows (row_size w) room))

  head_is : chunk p' 0 head_size ≡ head
  head_is = chunk_put_whole (put p (row_place w c) row) 0 head_size head (sym (length_head start (c + 1))) (omega (arith, length_first))

  rest_is : (b m : ℕ) → head_size ≤ b → chunk p' b m ≡ chunk (put p (row_place w c) row) b m
  rest_is b m h = chunk_put_after (put p (row_place w c) row) 0 head b m (omega (arith, length_first, length_head start (c + 1))) (omega (arith, length_head start (c + 1)))

  row_same : (r : ℕ) → r < c → row_at w p' r ≡ row_at w p r
  row_same r h =
      rest_is (row_place w r) (row_size w) (omega arith)
      ∙ chunk_put_before p (row_place w c) row (row_place w r) (row_size w) (omega (arith, long, step_le c l.rows (row_size w) room)) (omega (arith, step_le r c (row_size w) h))

  row_last : row_at w p' c ≡ row
  row_last =
      rest_is (row_place w c) (row_size w) (omega arith)
      ∙ chunk_put_whole p (row_place w c) (row_size w) row (sym long) (omega (arith, step_le c l.rows (row_size w) room))

  pub start_new : start_of p' ≡ start
  unfolding start_of sealed
  start_new =
      ap be (chunk_inside p' 0 head_size 0 8 0 refl (omega arith) ∙ (ap (λ t. chunk t 0 8) head_is
      ∙ chunk_front (be_8 start) (be_4 (c + 1) ++ be_4 (entry_check (head_front start (c + 1)))) _ refl 8 refl)) ∙ be_be_8 start ns

  pub count_new : count_of p' ≡ c + 1
  unfolding count_of sealed
  count_new =
      ap be (chunk_inside p' 0 head_size count_at 4 count_at refl (omega arith) ∙ (ap (λ t. chunk t count_at 4) head_is
      ∙ chunk_mid (be_8 start) (be_4 (c + 1)) (be_4 (entry_check (head_front start (c + 1)))) _ refl count_at 4 refl refl)) ∙ be_be_4 (c + 1) (omega arith)

  header_checked : Checked p' head_check_at
  header_checked =
      ap be (chunk_inside p' 0 head_size head_check_at 4 head_check_at refl (omega arith) ∙ (ap (λ t. chunk t head_check_at 4) head_is ∙ chunk_sealed_check (head_front start (c + 1)) head_check_at refl))
      ∙ (be_entry_check (head_front start (c + 1))
      ∙ sym (ap entry_check (chunk_inside p' 0 head_size 0 head_check_at 0 refl (omega arith) ∙ (ap (λ t. chunk t 0 head_check_at) head_is ∙ chunk_sealed_front (head_front start (c + 1)) head_check_at refl))))

  used_same : (r : ℕ) → r ≤ c → used w p' r ≡ used w p r
  used_same zero h = refl
  used_same (suc r) h =
      let i = used_same r (omega arith) in
      let e = row_same r (omega arith) in
      cc

  row_of_same : (r : ℕ) → r < c → row_of w (row_at w p' r) vs' ≡ row_of w (row_at w p r) vs
  row_of_same r h =
      let g = good.each r (omega arith) in
      let e = content_before vs u (value_bytes v) (offset_of w (row_at w p r)) (length_of w (row_at w p r)) (omega (arith, length_value_bytes v)) (omega (arith, used_le w p r c h, g.place, g.some)) in
      ap (λ b. row_of w b vs') (row_same r h) ∙ ap (λ (t : Content). record { label = label_of w (row_at w p r); key = key_of w (row_at w p r); content = t }) e

  row_of_new : row_of w (row_at w p' c) vs' ≡ new_row label k v
  row_of_new =
      let a = label_of_row label w k u z lk nn in
      let b = key_of_row label w k u z lk in
      let o = offset_of_row label w k u z lk (omega arith) in
      let q = size_of_row label w k u z lk (omega arith) in
      let s : content_of (put vs u (value_bytes v)) u (cost_of (length v) - check_size) ≡ sound v = content_new vs u v (cost_of (length v) - check_size) (omega arith) (omega arith) in
      ap (λ t. row_of w t vs') row_last ∙ rw (a, b, o, q, s)

  pub rows_new : first_rows w p' vs' (c + 1) ≡ first_rows w p vs c ++ new_row label k v ∷ []
  rows_new =
      let f : ℕ → Row = λ r. row_of w (row_at w p' r) vs' in
      let g : ℕ → Row = λ r. row_of w (row_at w p r) vs in
      map-range_with_len_more f 0 c c (omega arith)
      ∙ (ap (λ t. t ++ f c ∷ []) (map_counting_same f g c row_of_same) ∙ ap (λ t. first_rows w p vs c ++ t ∷ []) row_of_new)

  fits_new : (r : ℕ) → r ≡ c → RowFits w l.bytes (used w p' r) (row_at w p' r)
  fits_new r e =
      let en : row_at w p' r ≡ row = ap (row_at w p') e ∙ row_last in
      let eo = offset_of_row label w k u z lk (omega arith) in
      let ez = size_of_row label w k u z lk (omega arith) in
      let us : used w p' r ≡ u = ap (used w p') e ∙ (used_same c (omega arith) ∙ eu) in
      let co : size_of w (row_at w p' r) ≡ cost_of (length v) = ap (size_of w) en ∙ ez in
      record {
        check = subst (λ b. Checked b (row_check_at w)) (sym en) (checked_row label w k u z lk);
        place = ap (offset_of w) en ∙ (eo ∙ sym us);
        some = omega arith;
        room = omega arith;
      }

  fits_same : (r : ℕ) → r < c → RowFits w l.bytes (used w p' r) (row_at w p' r)
  fits_same r h =
      let g = good.each r (omega arith) in
      let en = row_same r h in
      let us = used_same r (omega arith) in
      let co : size_of w (row_at w p' r) ≡ size_of w (row_at w p r) = ap (size_of w) en in
      record {
        check = subst (λ b. Checked b (row_check_at w)) (sym en) g.check;
        place = ap (offset_of w) en ∙ (g.place ∙ sym us);
        some = omega (arith, g.some);
        room = omega (arith, g.room);
      }

  pub good_new : GoodPage l p'
  good_new = record {
    few = omega (arith, count_new);
    free = λ q. absurd (omega (arith, count_new));
    head = λ q. header_checked;
    each = λ r h. ⊎_elim (fits_new r) (fits_same r) (eq-or-lt_of_le {n = r} {m = c} (omega (arith, count_new)));
  }

  -- The page with the row.
  pub record Grown : Type 0 where
    pub begins : start_of (grown_page l.width p c start label k u (cost_of (length v))) ≡ start
    pub counts : count_of (grown_page l.width p c start label k u (cost_of (length v))) ≡ c + 1
    pub holds : first_rows l.width (grown_page l.width p c start label k u (cost_of (length v))) (put vs u (value_bytes v)) (c + 1) ≡ first_rows l.width p vs c ++ new_row label k v ∷ []
    pub sure : GoodPage l (grown_page l.width p c start label k u (cost_of (length v)))

  pub grown : Grown
  grown = record { begins = start_new; counts = count_new; holds = rows_new; sure = good_new }
