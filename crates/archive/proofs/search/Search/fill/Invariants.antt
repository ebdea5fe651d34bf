use Rattle.std.proofs.Common.{◌≡◌, ℕ, take, None}
use Rattle.archive_layout.specs.Fit.{Coding}
use Rattle.archive_layout.specs.Keys.{listed_from}
use Rattle.archive_layout.specs.Promises.{Reads}
use Rattle.archive_layout.proofs.Searches.{ListedTo}
use Rattle.archive.specs.Searches.{Knows}
use Rattle.archive.proofs.search.Search.fill.Given as goal

abbrev pub invariant-loop-place : goal.invariant-loop-place
invariant-loop-place g l =
    let j = g.J.Journal in
    let key = l.self.wanted.key.now in
    let i = l.place-index in
    Reads j.fits j.meaning l.initial.journal l.journal (λ m. (k : Coding) (width : ℕ) → Knows k width m l.self → ListedTo m key l.after i × (take i l.place-items ≡ take i (listed_from m.sections key None)))
