-- What a load does row by row, while it fills an index that was empty.
--   with_part ys s rs   the sections ys, and behind them the rows rs so far of the section s
--   IndexesRow          what taking one row into the index answers and does
--   SectionReady        what taking the rows of a section rests on: the sections ys, all before it, are in the index
--   IndexesSection      what that answers and does
--   IndexReady          what taking all sections rests on
--   IndexesAll          what that answers and does
use Rattle.std.specs.Prelude.{◌≡◌, ℕ, ◌<◌, ◌≤◌, true, cond, not, List, [], ◌∷◌, ◌++◌, length, Some, None, Option, Result, ◌==◌}
use Rattle.std.specs.List.{AllByRecursion}
use Rattle.journal.specs.Meaning.{Meaning, Section, Row, rows_of, Rising}
use Rattle.journal.specs.Calls.{or_fault}
use Rattle.rules.specs.declared.fault.ArchiveFault.{ArchiveFault}
use Rattle.rules.specs.State.{Kind, filed, records_of}
use Rattle.rules.specs.Calls.{row_fault, archive_limits}
use Rattle.index_layout.specs.Views.{View, free_view}
use Rattle.index_layout.specs.Held.{found, Noted}
use Rattle.archive_layout.specs.Fit.{Coding, offset_of, code_of, bucket_by, Agree}
use Rattle.archive_layout.specs.Walks.{filed_at}

abbrev pub with_part : List Section → ℕ → List Row → List Section
with_part ys s [] = ys
with_part ys s (r ∷ rs) = ys ++ record { start = s; rows = r ∷ rs } ∷ []

pub record IndexesRow (kind : Kind) (k : Coding) (l s p : ℕ) (row : Row) (vs vs' : List View) (r : Result Unit ArchiveFault) : Type 0 where
  pub answer : r ≡ or_fault (row_fault kind l (filed_at s p row ∷ [])) tt
  pub noted : row_fault kind l (filed_at s p row ∷ []) ≡ None → Noted vs vs' s (offset_of s row) (code_of k row) (bucket_by k row)

pub record SectionReady (k : Coding) (m : Meaning) (vs : List View) (ys : List Section) (l width s : ℕ) : Type 0 where
  pub some : 0 < l
  pub few : l ≤ 64
  pub wide : m.limits.width ≡ width
  pub rows : length (rows_of m.sections s) ≤ 128
  pub slots : length ys < 16
  pub rising : Rising 0 ys
  pub filled : AllByRecursion (λ (x : Section). 0 < length x.rows) ys
  pub before : AllByRecursion (λ (x : Section). x.start < s) ys
  pub agree : Agree k vs ys

pub record IndexesSection (kind : Kind) (k : Coding) (l s : ℕ) (rows : List Row) (ys : List Section) (vs' : List View) (r : Result ℕ ArchiveFault) : Type 0 where
  pub answer : r ≡ or_fault (row_fault kind l (filed s 0 rows)) (length rows)
  pub agree : row_fault kind l (filed s 0 rows) ≡ None → Agree k vs' (with_part ys s rows)

pub record IndexReady (m : Meaning) (vs : List View) (l width : ℕ) : Type 0 where
  pub some : 0 < l
  pub few : l ≤ 64
  pub wide : m.limits.width ≡ width
  pub limits : archive_limits m.limits ≡ true
  pub empty : (s : ℕ) → found vs s ≡ free_view

pub record IndexesAll (kind : Kind) (k : Coding) (l : ℕ) (xs : List Section) (vs' : List View) (r : Result ℕ ArchiveFault) : Type 0 where
  pub answer : r ≡ or_fault (row_fault kind l (records_of xs)) (length (records_of xs))
  pub agree : row_fault kind l (records_of xs) ≡ None → Agree k vs' xs
