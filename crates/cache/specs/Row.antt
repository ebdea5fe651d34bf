-- A copy of one row.
--   is_of x s p            whether x is a copy of the row at position p of the section s
--   copy_answer, copy_fill the answer of a read from a copy, and its buffer afterwards
--   padding key            the key over the front of 32 zeros
--   copy_of s p e key      the copy of a row at its place, by its entry and key
use Rattle.std.specs.Prelude.{ℕ, Bool, cond, ◌&&◌, List, ◌++◌, length, take, drop, replicate, Ok, Err, Result, ◌==◌, nat_lt}
use Rattle.journal.specs.declared.row.Entry.{Entry}
use Rattle.journal.specs.declared.fault.JournalFault.{JournalFault}
use Rattle.journal.specs.declared.fault.JournalFault.TheVariants.{Short}
use Rattle.cache.specs.declared.row_copy.RowCopy.{RowCopy}

abbrev pub is_of : RowCopy → ℕ → ℕ → Bool
is_of x s p = x.start == s && x.position == p

abbrev pub copy_answer : RowCopy → ℕ → ℕ → Result Entry JournalFault
copy_answer x width room = cond (nat_lt room width) (Err (Short x.start x.position width)) (Ok x.entry)

abbrev pub copy_fill : RowCopy → ℕ → List ℕ → List ℕ
copy_fill x width buffer = cond (nat_lt (length buffer) width) buffer (take width x.key ++ drop width buffer)

abbrev pub padding : List ℕ → List ℕ
padding key = key ++ drop (length key) (replicate 32 0)

abbrev pub copy_of : ℕ → ℕ → Entry → List ℕ → RowCopy
copy_of s p e key = record { start = s; position = p; entry = e; key = padding key }
