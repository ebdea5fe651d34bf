use Rattle.std.proofs.Common.{ℕ}
use Rattle.journal.proofs.Walks.{from_or_end}
use Rattle.archive_layout.specs.Fit.{Coding}
use Rattle.archive_layout.specs.Keys.{sought}
use Rattle.archive_layout.specs.Promises.{Reads}
use Rattle.archive_layout.proofs.Searches.{Passed}
use Rattle.archive.specs.Searches.{Knows}
use Rattle.archive.proofs.search.Search.least_bearer.Given as goal

abbrev pub invariant-loop-turn : goal.invariant-loop-turn
invariant-loop-turn g l =
    let j = g.J.Journal in
    Reads j.fits j.meaning l.initial.journal l.journal (λ m. (k : Coding) (width : ℕ) → Knows k width m l.self → Passed (sought l.self.wanted.key.now l.after) m l.fn.from (from_or_end l.from) l.turn)
