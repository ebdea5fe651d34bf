use Rattle.std.proofs.Common.{ℕ}
use Rattle.archive_layout.specs.Fit.{Coding}
use Rattle.archive_layout.specs.Promises.{Reads}
use Rattle.archive_layout.proofs.Searches.{ListedTo}
use Rattle.archive.specs.Searches.{Knows}
use Rattle.archive.proofs.search.Search.count.Given as goal

abbrev pub invariant-loop-count : goal.invariant-loop-count
invariant-loop-count g l =
    let j = g.J.Journal in
    Reads j.fits j.meaning l.initial.journal l.journal (λ m. (k : Coding) (width : ℕ) → Knows k width m l.self → ListedTo m l.self.wanted.key.now l.after l.count)
