-- What a look shows of any bytes, also of those that a mounting refuses. What is out of reach is shown as None.
--   bytes_seen k        the limits and the bytes that the look k is into; the floor is no part of them
--   has_page l n s      whether the slot s is one of l's, and its page lies whole in n bytes of entries
--   has_values l n s    whether the slot's values lie whole in n bytes of values
--   page_seen p         a page by its header: free, or what stands there and whether the check is that of the twelve bytes before it
--   slot_seen l es s    the same of the slot s among the entries es
--   has_row l es s r    whether the row r is one of l's and one that the page's header counts; a free page counts none
--   is_bytes c          whether a content has its bytes: its check is its own
--   is_whole l vs s a z whether a value of the size z lies at the offset a of the slot's values: z leaves a length, it ends within the slot's bytes, these are there, and its check is its own
--   row_seen_in         the fields of a row's bytes, whether their check is their own, and whether the value that they name is whole
--   row_seen            the same of the row r of the slot s
use Rattle.std.specs.Prelude.{ℕ, ◌+◌, ◌-◌, Bool, true, false, cond, ◌&&◌, List, length, Some, None, Option, nat_le, nat_lt}
use Rattle.journal.specs.declared.limits.Limits.{Limits}
use Rattle.journal.specs.Meaning.{Content, sound, damaged, check_size}
use Rattle.format.specs.Layout.{head_check_at, row_check_at, page_size}
use Rattle.format.specs.Decode.{page_place, vals_place, page, vals, start_of, count_of, is_free, row_at, label_of, offset_of, size_of, length_of, content_of}
use Rattle.format.specs.Mount.{checked_at}
use Rattle.format.specs.State.{View, offered}
use Rattle.pages.specs.declared.look.Look.{Look}
use Rattle.pages.specs.declared.look.SlotSeen.{SlotSeen}
use Rattle.pages.specs.declared.look.SlotSeen.TheVariants.{Free, Used}
use Rattle.pages.specs.declared.look.RowSeen.{RowSeen}

abbrev pub bytes_seen : Look → View
bytes_seen k = offered k.layout.limits k.entries.now k.values.now

-- A slot.
abbrev pub has_page : Limits → ℕ → ℕ → Bool
has_page l n s = nat_lt s l.slots && nat_le (page_place l s + page_size l.rows l.width) n

abbrev pub page_seen : List ℕ → SlotSeen
page_seen p = cond (is_free p) Free (Used (start_of p) (count_of p) (checked_at p head_check_at))

abbrev pub slot_seen : Limits → List ℕ → ℕ → Option SlotSeen
slot_seen l es s = cond (has_page l (length es) s) (Some (page_seen (page l es s))) None

-- A row.
abbrev pub has_row : Limits → List ℕ → ℕ → ℕ → Bool
has_row l es s r = has_page l (length es) s && (nat_lt r l.rows && nat_lt r (count_of (page l es s)))

abbrev pub has_values : Limits → ℕ → ℕ → Bool
has_values l n s = nat_le (vals_place l s + l.bytes) n

abbrev pub is_bytes : Content → Bool
is_bytes (sound bytes) = true
is_bytes (damaged n) = false

abbrev pub is_whole : Limits → List ℕ → ℕ → ℕ → ℕ → Bool
is_whole l vs s a z =
    nat_le check_size z
    && (nat_le (a + z) l.bytes
    && (has_values l (length vs) s
    && is_bytes (content_of (vals l vs s) a (z - check_size))))

abbrev pub row_seen_in : Limits → List ℕ → ℕ → List ℕ → RowSeen
row_seen_in l vs s b =
    record {
      number = (label_of l.width b).number;
      offset = offset_of l.width b;
      length = length_of l.width b;
      is_right = checked_at b (row_check_at l.width);
      is_sound = is_whole l vs s (offset_of l.width b) (size_of l.width b);
    }

abbrev pub row_seen : Limits → List ℕ → List ℕ → ℕ → ℕ → Option RowSeen
row_seen l es vs s r = cond (has_row l es s r) (Some (row_seen_in l vs s (row_at l.width (page l es s) r))) None
