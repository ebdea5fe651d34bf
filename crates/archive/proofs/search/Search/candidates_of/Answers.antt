use Rattle.std.proofs.Common.{refl, subst}
use Rattle.index_layout.specs.Views.{view_at}
use Rattle.index.specs.Slots.{views}
use Rattle.archive_layout.specs.Keys.{Handled, HandledAt}
use Rattle.archive_layout.proofs.Handles.{newest_at, older_at}
use Rattle.archive_layout.proofs.Candidates.{count_begins, count_goes_on}
use Rattle.archive.proofs.search.Search.candidates_of.Goals as goal

pub loop-at-init : goal.loop-at-init
loop-at-init c =
    let s = c.args.self.now in
    let v = view_at (views s.index.now) c.args.slot in
    let w = newest_at v c.args.slot s.wanted.coded.code s.wanted.coded.hash c.newest-at.result c.newest-at.ensures.is c.newest-at.ensures.within in
    let b = count_begins v c.args.slot s.wanted.coded.code s.wanted.coded.hash c.newest-at.result w c.newest-at.ensures.within in
    (w.handled, b.0, b.1)

pub loop-at-preserved : goal.loop-at-preserved
loop-at-preserved c =
    let s = c.args.self.now in
    let v = view_at (views s.index.now) c.args.slot in
    let x = c.in-Some.handle in
    let inv = c.loop-at.invariant in
    let here : HandledAt v c.args.slot s.wanted.coded.code s.wanted.coded.hash x = subst (Handled v c.args.slot s.wanted.coded.code s.wanted.coded.hash) c.in-Some.is inv.0 in
    let w = older_at v c.args.slot s.wanted.coded.code s.wanted.coded.hash (views s.index.now) x c.older-at.result refl here c.older-at.ensures.is c.older-at.ensures.within in
    (w.handled, count_goes_on v c.args.slot s.wanted.coded.code s.wanted.coded.hash x c.loop-at.count _ c.loop-at.at c.older-at.result c.in-Some.is here w inv.1, inv.2)
