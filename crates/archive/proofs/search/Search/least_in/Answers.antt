use Rattle.std.proofs.Common.{ℕ, refl, ap, subst}
use Rattle.index_layout.specs.Views.{view_at}
use Rattle.index.specs.Slots.{views}
use Rattle.archive_layout.specs.Keys.{Handled, HandledAt}
use Rattle.archive_layout.proofs.Handles.{newest_at, older_at}
use Rattle.archive_layout.proofs.Reading.{read_none, read_on}
use Rattle.archive_layout.proofs.Searches.{search_begins, search_goes_on}
use Rattle.archive.proofs.search.Search.least_in.Goals as goal

pub loop-at-preserved : goal.loop-at-preserved
loop-at-preserved g c =
    let s = c.args.self.now in
    let v = view_at (views s.index.now) c.args.slot in
    let x = c.in-Some.handle in
    let here : HandledAt v c.args.slot s.wanted.coded.code s.wanted.coded.hash x = subst (Handled v c.args.slot s.wanted.coded.code s.wanted.coded.hash) c.in-Some.is c.loop-at.invariant.0 in
    let w = older_at v c.args.slot s.wanted.coded.code s.wanted.coded.hash (views s.index.now) x c.older-at.result refl here c.older-at.ensures.is c.older-at.ensures.within in (
      w.handled,
      read_on c.loop-at.invariant.1 c.better-best.ensures (λ m p q law k coded shows.
          search_goes_on _ coded shows c.args.after c.args.slot x _ c.loop-at.at c.older-at.result c.loop-at.best _ c.in-Some.is (ap (λ (n : ℕ × ℕ). n.1) c.unpack-position.ensures.is) here w
          (p law k coded shows) (q law coded.wide)),
    )

pub loop-at-init : goal.loop-at-init
loop-at-init g c =
    let s = c.args.self.now in
    let w = newest_at (view_at (views s.index.now) c.args.slot) c.args.slot s.wanted.coded.code s.wanted.coded.hash c.newest-at.result c.newest-at.ensures.is c.newest-at.ensures.within in
    (w.handled, read_none (λ m law k coded shows. search_begins _ coded shows c.args.after c.args.slot c.newest-at.result w))
