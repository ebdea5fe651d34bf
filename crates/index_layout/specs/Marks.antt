-- Marks: of each translated key a small number, and a table that tells by that number which slots may have a record with it.
-- A search reads no slot that has no mark.
--   mark_of c         the mark of the translated key c: the ten highest of the 64 bits of c times an odd number, as bucket_of has seven of a hash
--   mark_count        how many marks there are
--   marks_at ms c     the slots that are marked for c, the bit i for the slot i
--   marked ms c i     the table ms with the slot i marked for c
--   unmarked i m      the slots m without the slot i
--   Marked ms vs      each slot of vs is marked for the translated key of each of its records
use Rattle.std.specs.Prelude.{◌≡◌, ℕ, ◌*◌, ◌/◌, ◌%◌, ◌^◌, ◌<◌, List, length, slice_index, slice_set}
use Rattle.std.specs.Int.{bit_at, bit_not, w16}
use Rattle.std.specs.Int.RustNames.{bit_and, bit_or}
use Rattle.index_layout.specs.Views.{View, view_at, slot_count}

abbrev pub mark_count : ℕ
mark_count = 1024

abbrev pub mark_of : ℕ → ℕ
mark_of c = c * 11400714819323198485 % 2 ^ 64 / 2 ^ 54

abbrev pub marks_at : List ℕ → ℕ → ℕ
marks_at ms c = slice_index ms (mark_of c)

abbrev pub marked : List ℕ → ℕ → ℕ → List ℕ
marked ms c i = slice_set ms (mark_of c) (bit_or (marks_at ms c) (1 * 2 ^ i % 2 ^ 16))

abbrev pub unmarked : ℕ → ℕ → ℕ
unmarked i m = bit_and m (bit_not w16 (1 * 2 ^ i % 2 ^ 16))

abbrev pub Marked : List ℕ → List View → Type 0
Marked ms vs = (i p : ℕ) → i < slot_count → p < length (view_at vs i).codes → bit_at (marks_at ms (slice_index (view_at vs i).codes p)) i ≡ 1
