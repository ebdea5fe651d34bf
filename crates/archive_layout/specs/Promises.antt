-- What the archive's walks promise, over any journal.
--   Reads               a walk that leaves the journal's meaning as it was, and tells P of it
--   bearer_of o k       the number of the row o, if it bears the key k
--   Known               what a search for a key rests on: a lawful journal that the index fits, and the key's codes
--   Numbered            what a walk along a number rests on: the same, and the number's section
use Rattle.std.specs.Prelude.{◌≡◌, ℕ, ◌-◌, cond, List, Some, None, Option}
use Rattle.journal.specs.Meaning.{Meaning, Row, Lawful}
use Rattle.rules.specs.State.{section_of, same_bytes}
use Rattle.index_layout.specs.Views.{View}
use Rattle.archive_layout.specs.Fit.{Coding, Fit}
use Rattle.archive_layout.specs.Keys.{Coded}

pub record Reads {O J : Type 0} (fits : O → J → Type 0) (meaning : J → Meaning) (j j' : J) (P : Meaning → Type 0) : Type 0 where
  pub fit : (o : O) → fits o j → fits o j'
  pub after : (o : O) → fits o j → meaning j' ≡ meaning j
  pub told : (o : O) → fits o j → P (meaning j)

abbrev pub bearer_of : Option Row → List ℕ → Option ℕ
bearer_of None key = None
bearer_of (Some r) key = cond (same_bytes r.key key) (Some r.label.number) None

pub record Known (k : Coding) (width l : ℕ) (m : Meaning) (vs : List View) (key : List ℕ) (code hash : ℕ) : Type 0 where
  pub lawful : Lawful m
  pub fit : Fit k width l m vs
  pub coded : Coded k m key code hash

pub record Numbered (k : Coding) (width l : ℕ) (m : Meaning) (vs : List View) (n start offset : ℕ) : Type 0 where
  pub lawful : Lawful m
  pub fit : Fit k width l m vs
  pub home : section_of l n ≡ start
  pub near : offset ≡ n - start
