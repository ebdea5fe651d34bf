-- When the slots of an index fit the sections of a journal.
--   Coding             what an archive's translator makes of key bytes: a translated key, and the hash of that
--   offset_of s r      how far the number of the row r is from the start s of its section
--   code_of, bucket_by the row's translated key, and its bucket
--   full_view k s rs   the slot that the rows rs make as the section that starts at s
--   expected k s rs    the same, and a free slot where there are no rows
--   Agree k vs xs      start by start, the slots vs hold just what the sections xs keep
--   Homed l x          each row's number belongs to the section x
--   Fit                what an archive that is loaded rests on, beside its journal: sizes within the limits, rows in their
--                      sections, and the index that of the journal's rows, and of nothing else
--   FitBy              the same by whether the archive is loaded: before a load nothing is indexed
use Rattle.std.specs.Prelude.{◌≡◌, ℕ, ◌-◌, ◌<◌, ◌≤◌, true, List, [], ◌∷◌, map, Some, None, Option}
use Rattle.std.specs.List.{AllByRecursion}
use Rattle.journal.specs.Meaning.{Meaning, Section, Row, rows_of}
use Rattle.rules.specs.State.{section_of}
use Rattle.rules.specs.Calls.{archive_limits}
use Rattle.index_layout.specs.Views.{View, free_view, bucket_of}
use Rattle.index_layout.specs.Held.{found}

pub record Coding : Type 0 where
  pub translated : List ℕ → ℕ
  pub hashed : ℕ → ℕ

abbrev pub offset_of : ℕ → Row → ℕ
offset_of s r = r.label.number - s

abbrev pub code_of : Coding → Row → ℕ
code_of k r = k.translated r.key

abbrev pub bucket_by : Coding → Row → ℕ
bucket_by k r = bucket_of (k.hashed (k.translated r.key))

abbrev pub full_view : Coding → ℕ → List Row → View
full_view k s rs = record { used = true; start = s; offsets = map (offset_of s) rs; codes = map (code_of k) rs; buckets = map (bucket_by k) rs }

abbrev pub expected : Coding → ℕ → List Row → View
expected k s [] = free_view
expected k s (r ∷ rs) = full_view k s (r ∷ rs)

abbrev pub Agree : Coding → List View → List Section → Type 0
Agree k vs xs = (s : ℕ) → found vs s ≡ expected k s (rows_of xs s)

abbrev pub Homed : ℕ → Section → Type 0
Homed l x = AllByRecursion (λ r. section_of l r.label.number ≡ x.start) x.rows

pub record Fit (k : Coding) (width l : ℕ) (m : Meaning) (vs : List View) : Type 0 where
  pub some : 0 < l
  pub few : l ≤ 64
  pub limits : archive_limits m.limits ≡ true
  pub wide : m.limits.width ≡ width
  pub homed : AllByRecursion (Homed l) m.sections
  pub held : Agree k vs m.sections

abbrev pub FitBy : Coding → ℕ → Option ℕ → Meaning → List View → Type 0
FitBy k width None m vs = (s : ℕ) → found vs s ≡ free_view
FitBy k width (Some l) m vs = Fit k width l m vs
