use Rattle.std.proofs.Common.{◌≡◌, ◌+◌, ◌≤◌}
use Rattle.index_layout.specs.Views.{view_at}
use Rattle.index.specs.Slots.{views}
use Rattle.archive_layout.specs.Walks.{below_link}
use Rattle.archive_layout.specs.Keys.{in_place, Handled, count_coded, candidates_in}
use Rattle.archive.proofs.search.Search.candidates_of.Given as goal

abbrev pub invariant-loop-at : goal.invariant-loop-at
invariant-loop-at l =
    let v = view_at (views l.self.index.now) l.slot in
    let w = l.self.wanted in
    Handled v l.slot w.coded.code w.coded.hash l.at × (l.count + count_coded v w.coded.code w.coded.hash (below_link (in_place l.at)) ≡ candidates_in w.coded.code w.coded.hash v) × (candidates_in w.coded.code w.coded.hash v ≤ 128)

abbrev pub decreases-loop-at : goal.decreases-loop-at
decreases-loop-at l = below_link l.at
