-- A slot of the index as the archive sees it.
--   View               whether the slot is used, where its section starts, and by position the offset of each record's number
--                      from the start, its translated key and its bucket
--   slot_count         how many slots there are; row_count and offset_count are what one holds at most
--   bucket_of h        the bucket of the hash h: the seven highest of the 64 bits of h times an odd number, that of the golden
--                      section of 2 ^ 64. Each bit of h has its part in these, so hashes that end alike, as those of box
--                      numbers by their leading bytes do, still lie in many buckets
--   free_view          a free slot
--   open_view s        a slot just taken for the section that starts at s
--   grown v o c b      the slot v with one record more
--   takes v o          whether the slot v has room for one record more, of the offset o
--   first_in v o       the first position of the offset o; next_in v p is the next position with the offset of position p
--   newest_in v c b    the last position with the translated key c, in the bucket b; older_in v c b p is the last one before p
--   kept_view m v      what a strike by the minimum m leaves of the slot v
--   view_at vs i       the slot i of vs
--   Holds vs i s       the slot i of vs holds the section that starts at s
--   Apart vs           no start is held twice
use Rattle.std.specs.Prelude.{◌≡◌, ℕ, ◌*◌, ◌/◌, ◌%◌, ◌^◌, ◌<◌, Bool, true, false, cond, ◌&&◌, List, [], ◌∷◌, ◌++◌, length, None, Option, ◌==◌, nat_lt, slice_index, slice_index_or}
use Rattle.index_layout.specs.Links.{linked, earliest, following, matching}

pub record View : Type 0 where
  pub used : Bool
  pub start : ℕ
  pub offsets : List ℕ
  pub codes : List ℕ
  pub buckets : List ℕ

abbrev pub slot_count : ℕ
slot_count = 16

abbrev pub row_count : ℕ
row_count = 128

abbrev pub offset_count : ℕ
offset_count = 64

abbrev pub bucket_of : ℕ → ℕ
bucket_of h = h * 11400714819323198485 % 2 ^ 64 / 2 ^ 57

abbrev pub free_view : View
free_view = record { used = false; start = 0; offsets = []; codes = []; buckets = [] }

abbrev pub open_view : ℕ → View
open_view s = record { used = true; start = s; offsets = []; codes = []; buckets = [] }

abbrev pub grown : View → ℕ → ℕ → ℕ → View
grown v o c b = record {
  used = v.used;
  start = v.start;
  offsets = v.offsets ++ o ∷ [];
  codes = v.codes ++ c ∷ [];
  buckets = v.buckets ++ b ∷ [];
}

abbrev pub takes : View → ℕ → Bool
takes v o = nat_lt o offset_count && nat_lt (length v.offsets) row_count

abbrev pub first_in : View → ℕ → Option ℕ
first_in v o = cond (nat_lt o offset_count) (linked (earliest v.offsets o (length v.offsets))) None

abbrev pub next_in : View → ℕ → Option ℕ
next_in v p = cond (nat_lt p (length v.offsets)) (linked (following v.offsets p (length v.offsets))) None

abbrev pub newest_in : View → ℕ → ℕ → Option ℕ
newest_in v c b = linked (matching v.buckets v.codes b c (length v.codes))

abbrev pub older_in : View → ℕ → ℕ → ℕ → Option ℕ
older_in v c b p =
    cond (nat_lt p (length v.codes) && slice_index v.buckets p == b) (linked (matching v.buckets v.codes b c p)) None

abbrev pub goes : ℕ → View → Bool
goes m v = v.used && nat_lt v.start m

abbrev pub kept_view : ℕ → View → View
kept_view m v = cond (goes m v) free_view v

abbrev pub view_at : List View → ℕ → View
view_at vs i = slice_index_or vs i free_view

abbrev pub Holds : List View → ℕ → ℕ → Type 0
Holds vs i s = ((view_at vs i).used ≡ true) × ((view_at vs i).start ≡ s)

-- A start that two slots hold.
pub record Twice (vs : List View) : Type 0 where
  pub i : ℕ
  pub j : ℕ
  pub s : ℕ
  pub i_below : i < length vs
  pub j_below : j < length vs
  pub at_i : Holds vs i s
  pub at_j : Holds vs j s

abbrev pub Apart : List View → Type 0
Apart vs = (t : Twice vs) → t.i ≡ t.j
