use Rattle.std.proofs.Common.{None, sym, refl, subst, arith}
use Rattle.index_layout.specs.Views.{bucket_of}
use Rattle.index_layout.proofs.Firsts.{BestBut, best_begins, best_step, best_ends}
use Rattle.index_layout.proofs.Marks.{mark_inside, mark_left}
use Rattle.index_layout.proofs.Through.{at_view}
use Rattle.index.specs.Viewed.{slot_view}
use Rattle.index.specs.Slots.{views}
use Rattle.index.proofs.index.Index.first_with.Goals as goal

pub loop-left-init : goal.loop-left-init
loop-left-init c =
    let x = c.args.self.now in (
      omega arith,
      subst (λ m. BestBut (views x) c.args.key.code (bucket_of c.args.key.hash) c.args.from m None) (sym c.marks_at-left.ensures)
          (best_begins (views x) c.args.key.code (bucket_of c.args.key.hash) c.args.from x.marks x.marked),
    )

pub listed : goal.listed
listed c =
    let x = c.args.self.now in
    omega (arith, x.sized, mark_inside c.loop-left.left c.loop-left-test.true c.loop-left.invariant.0)

pub bounds-self-slot : goal.bounds-self-slot
bounds-self-slot c = mark_inside c.loop-left.left c.loop-left-test.true c.loop-left.invariant.0

pub without-left-requires : goal.without-left-requires
without-left-requires c = mark_inside c.loop-left.left c.loop-left-test.true c.loop-left.invariant.0

pub loop-left-smaller : goal.loop-left-smaller
loop-left-smaller c = (mark_left c.loop-left.left _ c.without-left.result c.loop-left-test.true c.loop-left.invariant.0 refl c.without-left.ensures).less

pub loop-left-preserved : goal.loop-left-preserved
loop-left-preserved c =
    let x = c.args.self.now in
    let w = mark_left c.loop-left.left _ c.without-left.result c.loop-left-test.true c.loop-left.invariant.0 refl c.without-left.ensures in (
      omega arith,
      subst (BestBut (views x) c.args.key.code (bucket_of c.args.key.hash) c.args.from c.without-left.result) (sym c.nearer-best.ensures)
          (best_step (views x) c.args.key.code (bucket_of c.args.key.hash) c.args.from _ _
          (sym (at_view slot_view x.slots _ c.index-self-slot.result (omega (arith, x.sized, w.inside)))) w.inside
          c.loop-left.left c.without-left.result w.others c.loop-left.best c.loop-left.invariant.1),
    )

pub returns : goal.returns
returns c =
    record { is = best_ends (views c.args.self.now) c.args.key.code (bucket_of c.args.key.hash) c.args.from c.loop-left.left c.loop-left.best c.loop-left-test.false c.loop-left.invariant.1 }
