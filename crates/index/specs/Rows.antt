-- The rows of a section, and the links that lead through them.
--   held t     those that there are, column by column
--   no_link    a link to no row
--   named l    the position that a link names
--   blank      a row of zeros without links
--   offsets_of, codes_of, buckets_of   what rows have, by position
--   Leads rows b o   the chain of the bucket b goes on at the position o, or ends there
--   followed rows o l   the rows, where the one at the position o leads on by the link l
--   no_ends    the ends of an offset without a row
--   first_in, last_in   the first and the last row of an offset, by its ends
--   Linked d rows numbers heads   d different offsets; of each the first and the last row, of each bucket the last one, and
--              each row's links: to the next of its offset, and to the last one before it of its bucket
use Rattle.std.specs.Prelude.{◌≡◌, ℕ, ◌<◌, ◌≤◌, zero, suc, List, [], ◌∷◌, ◌++◌, length, map, Some, None, Option, slice_set, slice_index, slice_index_or}
use Rattle.index_layout.specs.Links.{earliest, latest, following, fresh, link, linked}
use Rattle.index.specs.declared.link.Link.{Link}
use Rattle.index.specs.declared.row.Row.{Row}
use Rattle.index.specs.declared.row.Ends.{Ends}
use Rattle.index.specs.declared.row_table.RowTable.{RowTable}

abbrev pub no_link : Link
no_link = record { byte = 0 }

abbrev pub named : Link → Option ℕ
named l = linked l.byte

abbrev pub blank : Row
blank = record { code = 0; offset = 0; bucket = 0; next = no_link; below = no_link }

-- Columns, the row at a place of them, and the rows before one.
pub record Columns : Type 0 where
  pub codes : List ℕ
  pub offsets : List ℕ
  pub buckets : List ℕ
  pub next : List Link
  pub below : List Link

abbrev pub row_in : Columns → ℕ → Row
row_in t p = record { code = slice_index t.codes p; offset = slice_index t.offsets p; bucket = slice_index t.buckets p; next = slice_index_or t.next p no_link; below = slice_index_or t.below p no_link }

abbrev pub rows_to : Columns → ℕ → List Row
rows_to t zero = []
rows_to t (suc n) = rows_to t n ++ row_in t n ∷ []

abbrev pub columns_of : RowTable → Columns
columns_of t = record { codes = t.codes; offsets = t.offsets; buckets = t.buckets; next = t.next; below = t.below }

abbrev pub held : RowTable → List Row
held t = rows_to (columns_of t) t.count

abbrev pub offsets_of : List Row → List ℕ
offsets_of rows = map (λ r. r.offset) rows

abbrev pub codes_of : List Row → List ℕ
codes_of rows = map (λ r. r.code) rows

abbrev pub buckets_of : List Row → List ℕ
buckets_of rows = map (λ r. r.bucket) rows

abbrev pub Leads : List Row → ℕ → Option ℕ → Type 0
Leads rows b o = (link o ≤ length rows) × (latest (buckets_of rows) b (link o) ≡ link o)

abbrev pub led : Row → Link → Row
led r l = record { code = r.code; offset = r.offset; bucket = r.bucket; next = l; below = r.below }

abbrev pub followed : List Row → Option ℕ → Link → List Row
followed rows None l = rows
followed rows (Some p) l = slice_set rows p (led (slice_index_or rows p blank) l)

abbrev pub no_ends : Ends
no_ends = record { first = no_link; last = no_link }

abbrev pub first_in : Ends → Option ℕ
first_in e = named e.first

abbrev pub last_in : Ends → Option ℕ
last_in e = named e.last

pub record LinkedBy (d n : ℕ) (offsets buckets : List ℕ) (rows : List Row) (numbers : List Ends) (heads : List Link) : Type 0 where
  pub begun : (o : ℕ) → o < 64 → first_in (slice_index_or numbers o no_ends) ≡ linked (earliest offsets o n)
  pub ended : (o : ℕ) → o < 64 → last_in (slice_index_or numbers o no_ends) ≡ linked (latest offsets o n)
  pub next : (p : ℕ) → p < n → named (slice_index_or rows p blank).next ≡ linked (following offsets p n)
  pub counted : d ≡ fresh offsets n
  pub headed : (b : ℕ) → b < 128 → named (slice_index_or heads b no_link) ≡ linked (latest buckets b n)
  pub below : (p : ℕ) → p < n → named (slice_index_or rows p blank).below ≡ linked (latest buckets (slice_index buckets p) p)

abbrev pub Linked : ℕ → List Row → List Ends → List Link → Type 0
Linked d rows numbers heads = LinkedBy d (length rows) (offsets_of rows) (buckets_of rows) rows numbers heads
