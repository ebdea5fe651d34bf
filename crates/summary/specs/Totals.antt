-- What a summary tells.
--   total_of x     the start of the section x, how many rows it has, and what they cost
--   laid ts out    ts laid over the front of out, as many as it has places for
--   Adds           what adding up one section promises
--   Summarises     what a summary promises: fit, answer, after and buffer as in a journal's calls
use Rattle.std.specs.Prelude.{◌≡◌, ℕ, List, [], ◌∷◌, map, length, Ok, Result}
use Rattle.journal.specs.declared.fault.JournalFault.{JournalFault}
use Rattle.journal.specs.Meaning.{Meaning, Section, cost, rows_of}
use Rattle.summary.specs.declared.total.SectionTotal.{SectionTotal}

abbrev pub total_of : Section → SectionTotal
total_of x = record { start = x.start; rows = length x.rows; cost = cost x.rows }

abbrev pub laid : List SectionTotal → List SectionTotal → List SectionTotal
laid [] out = out
laid (t ∷ ts) [] = []
laid (t ∷ ts) (x ∷ xs) = t ∷ laid ts xs

pub record Adds {O J : Type 0} (fits : O → J → Type 0) (meaning : J → Meaning) (j j' : J) (s : ℕ) (r : Result ℕ JournalFault) : Type 0 where
  pub fit : (o : O) → fits o j → fits o j'
  pub answer : (o : O) → fits o j → r ≡ Ok (cost (rows_of (meaning j).sections s))
  pub after : (o : O) → fits o j → meaning j' ≡ meaning j

pub record Summarises {O J : Type 0} (fits : O → J → Type 0) (meaning : J → Meaning) (j j' : J) (out out' : List SectionTotal) (r : Result ℕ JournalFault) : Type 0 where
  pub fit : (o : O) → fits o j → fits o j'
  pub answer : (o : O) → fits o j → r ≡ Ok (length (meaning j).sections)
  pub after : (o : O) → fits o j → meaning j' ≡ meaning j
  pub buffer : (o : O) → fits o j → out' ≡ laid (map total_of (meaning j).sections) out
