use Rattle.std.proofs.Common.{◌≡◌, ◌+◌, ◌*◌, ◌≤◌, drop}
use Rattle.index_layout.specs.Held.{total}
use Rattle.index.specs.Slots.{views}
use Rattle.archive_layout.specs.Keys.{candidates_in}
use Rattle.archive.proofs.search.Search.candidates.Given as goal

abbrev pub invariant-loop-slot : goal.invariant-loop-slot
invariant-loop-slot l =
    let w = l.self.wanted in
    let vs = views l.self.index.now in
    (l.count + total (candidates_in w.coded.code w.coded.hash) (drop l.slot vs) ≡ total (candidates_in w.coded.code w.coded.hash) vs) × (l.count ≤ 128 * l.slot)
