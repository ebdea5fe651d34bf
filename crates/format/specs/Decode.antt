-- What bytes mean. Total: any bytes give sections.
--   page_place l s, vals_place l s   where the slot s begins among the entries and among the values
--   page l es s, vals l vs s   the bytes of the slot s among the entries and among the values, under the limits l
--   start_of p, count_of p     the start and the row count in a page's header
--   is_free p                  whether a page's header is of zeros alone
--   row_at w p r               the bytes of the row r of a page
--   label_of, key_of, offset_of, size_of   the fields of a row's bytes
--   length_of w b              the length of the value of a row: what its size leaves beside the check
--   content_of vs a n          the n bytes at the place a of a slot's values: sound where their check stands behind them
--   used w p r                 what the first r rows of a page take of its values: where the next value lies
--   section_of                 the section of a page
use Rattle.std.specs.Prelude.{ℕ, zero, suc, ◌+◌, ◌-◌, ◌*◌, Bool, true, false, cond, List, [], ◌∷◌, map, ◌==◌}
use Rattle.std.specs.List.{range_with_len}
use Rattle.journal.specs.declared.limits.Limits.{Limits}
use Rattle.journal.specs.declared.row.Label.{Label}
use Rattle.journal.specs.Bytes.{chunk}
use Rattle.journal.specs.Meaning.{Content, sound, damaged, Row, Section, check_size}
use Rattle.format.specs.Numbers.{be}
use Rattle.format.specs.Layout.{count_at, head_size, key_at, offset_at, size_at, row_size, row_place, page_size, value_check}

abbrev pub page_place : Limits → ℕ → ℕ
page_place l s = s * page_size l.rows l.width

abbrev pub vals_place : Limits → ℕ → ℕ
vals_place l s = s * l.bytes

abbrev pub page : Limits → List ℕ → ℕ → List ℕ
page l es s = chunk es (page_place l s) (page_size l.rows l.width)

abbrev pub vals : Limits → List ℕ → ℕ → List ℕ
vals l vs s = chunk vs (vals_place l s) l.bytes

-- A page's header.
unfoldable pub start_of : List ℕ → ℕ
start_of p = be (chunk p 0 8)

unfoldable pub count_of : List ℕ → ℕ
count_of p = be (chunk p count_at 4)

abbrev pub zeros : List ℕ → Bool
zeros [] = true
zeros (x ∷ xs) = cond (x == 0) (zeros xs) false

unfoldable pub is_free : List ℕ → Bool
is_free p = zeros (chunk p 0 head_size)

-- A row.
abbrev pub row_at : ℕ → List ℕ → ℕ → List ℕ
row_at w p r = chunk p (row_place w r) (row_size w)

unfoldable pub label_of : ℕ → List ℕ → Label
label_of w b = record { number = be (chunk b 0 8) }

unfoldable pub key_of : ℕ → List ℕ → List ℕ
key_of w b = chunk b key_at w

unfoldable pub offset_of : ℕ → List ℕ → ℕ
offset_of w b = be (chunk b (offset_at w) 8)

unfoldable pub size_of : ℕ → List ℕ → ℕ
size_of w b = be (chunk b (size_at w) 4)

abbrev pub length_of : ℕ → List ℕ → ℕ
length_of w b = size_of w b - check_size

unfoldable pub content_of : List ℕ → ℕ → ℕ → Content
content_of vs a n = cond (be (chunk vs (a + n) check_size) == value_check (chunk vs a n)) (sound (chunk vs a n)) (damaged n)

abbrev pub row_of : ℕ → List ℕ → List ℕ → Row
row_of w b vs = record { label = label_of w b; key = key_of w b; content = content_of vs (offset_of w b) (length_of w b) }

-- A page's rows.
abbrev pub used : ℕ → List ℕ → ℕ → ℕ
used w p zero = 0
used w p (suc r) = used w p r + size_of w (row_at w p r)

abbrev pub first_rows : ℕ → List ℕ → List ℕ → ℕ → List Row
first_rows w p vs n = map (λ r. row_of w (row_at w p r) vs) (range_with_len 0 n)

abbrev pub section_of : ℕ → List ℕ → List ℕ → Section
section_of w p vs = record { start = start_of p; rows = first_rows w p vs (count_of p) }
