use Rattle.std.proofs.Common.{◌≡◌}
use Rattle.journal.specs.Meaning.{Lawful, rows_of}
use Rattle.index_layout.specs.Views.{view_at}
use Rattle.index.specs.Slots.{views}
use Rattle.archive_layout.specs.Fit.{Coding, full_view}
use Rattle.archive_layout.specs.Walks.{rest, below_link}
use Rattle.archive_layout.specs.Keys.{sought, least, place_in, in_place, Handled, Coded}
use Rattle.archive_layout.specs.Promises.{Reads}
use Rattle.archive.proofs.search.Search.least_in.Given as goal

abbrev pub invariant-loop-at : goal.invariant-loop-at
invariant-loop-at g l =
    let j = g.J.Journal in
    let v = view_at (views l.self.index.now) l.slot in
    let w = l.self.wanted in
    Handled v l.slot w.coded.code w.coded.hash l.at
    × Reads j.fits j.meaning l.initial.journal l.journal (λ m. Lawful m → (k : Coding) → Coded k m w.key.now w.coded.code w.coded.hash → v ≡ full_view k l.start (rows_of m.sections l.start)
    → l.best ≡ place_in (least (rest (sought w.key.now l.after) l.start (rows_of m.sections l.start) (below_link (in_place l.at)))))

abbrev pub decreases-loop-at : goal.decreases-loop-at
decreases-loop-at g l = below_link l.at
