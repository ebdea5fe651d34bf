-- Where each field lies, and the bytes that are written: one definition for each place, size and check.
--   head_size                the bytes of a page's header
--   count_at, head_check_at  where its row count and its check lie; its start lies in front
--   key_at                   where a row's key lies; its label lies in front
--   front_size w             the bytes of a row's label and key, where keys have w bytes
--   offset_at, size_at, row_check_at   where a row's other fields lie, each behind the one before
--   row_size w               the bytes of a row
--   row_place w r            where the row r lies in its page
--   page_size rows w         the bytes of a page among the entries: its header, then room for its rows
--   entry_check bs           the check of a header or of a row, over the bytes before it
--   value_check bs           the check of a value, in check_size bytes
--   head_bytes, row_bytes    a header and a row as they are written
--   value_bytes v            a value as it is written, its check behind it
--   free_head                the header of a free page
use Rattle.std.specs.Prelude.{ℕ, ◌+◌, ◌*◌, List, ◌++◌, replicate}
use Rattle.keys.specs.Fnv.{fnv_1a_32}
use Rattle.journal.specs.declared.row.Label.{Label}
use Rattle.format.specs.Numbers.{be_4, be_8}

-- The header.
abbrev pub count_at : ℕ
count_at = 8

abbrev pub head_check_at : ℕ
head_check_at = count_at + 4

abbrev pub head_size : ℕ
head_size = head_check_at + 4

-- A row.
abbrev pub key_at : ℕ
key_at = 8

abbrev pub front_size : ℕ → ℕ
front_size w = key_at + w

abbrev pub offset_at : ℕ → ℕ
offset_at w = front_size w

abbrev pub size_at : ℕ → ℕ
size_at w = offset_at w + 8

abbrev pub row_check_at : ℕ → ℕ
row_check_at w = size_at w + 4

abbrev pub row_size : ℕ → ℕ
row_size w = row_check_at w + 4

-- A page.
abbrev pub row_place : ℕ → ℕ → ℕ
row_place w r = head_size + r * row_size w

abbrev pub page_size : ℕ → ℕ → ℕ
page_size rows w = head_size + rows * row_size w

-- The two checks, each of its own, so that one may change without the other.
unfoldable pub entry_check : List ℕ → ℕ
entry_check bytes = fnv_1a_32 bytes

unfoldable pub value_check : List ℕ → ℕ
value_check bytes = fnv_1a_32 bytes

abbrev pub value_seal : List ℕ → List ℕ
value_seal bytes = be_4 (value_check bytes)

-- What is written.
unfoldable pub sealed : List ℕ → List ℕ
sealed bytes = bytes ++ be_4 (entry_check bytes)

unfoldable pub value_bytes : List ℕ → List ℕ
value_bytes value = value ++ value_seal value

abbrev pub head_front : ℕ → ℕ → List ℕ
head_front start count = be_8 start ++ be_4 count

abbrev pub head_bytes : ℕ → ℕ → List ℕ
head_bytes start count = sealed (head_front start count)

abbrev pub label_front : Label → List ℕ → List ℕ
label_front label key = be_8 label.number ++ key

abbrev pub row_front : Label → List ℕ → ℕ → ℕ → List ℕ
row_front label key offset size = (label_front label key ++ be_8 offset) ++ be_4 size

abbrev pub row_bytes : Label → List ℕ → ℕ → ℕ → List ℕ
row_bytes label key offset size = sealed (row_front label key offset size)

abbrev pub free_head : List ℕ
free_head = replicate head_size 0
