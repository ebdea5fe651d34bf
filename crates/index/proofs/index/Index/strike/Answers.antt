use Rattle.std.proofs.Common.{◌<◌, length, map, set, sym, ap, ◌∙◌, subst, arith, length-set}
use Rattle.index_layout.specs.Views.{Apart, kept_view}
use Rattle.index_layout.specs.Held.{weight, under, numbers, records}
use Rattle.index_layout.specs.Marks.{Marked}
use Rattle.index_layout.proofs.Apart.{apart_kept}
use Rattle.index_layout.proofs.Marks.{marked_kept}
use Rattle.index_layout.proofs.Held.{summed_more}
use Rattle.index_layout.proofs.Slots.{struck_step, struck_end}
use Rattle.index_layout.proofs.Through.{at_view, put_view, length_views}
use Rattle.index.specs.Viewed.{slot_view}
use Rattle.index.specs.Slots.{views}
use Rattle.index.proofs.index.Index.strike.Goals as goal

pub loop-slot-preserved : goal.loop-slot-preserved
loop-slot-preserved c =
    let was = c.args.self.now in
    let xs = c.loop-slot.slot-items in
    let i = c.loop-slot.slot-index in
    let min = c.args.min in
    let n = length_views slot_view xs 16 c.loop-slot.invariant.long in
    let l : i < length (views was) = omega (arith, length_views slot_view was.slots 16 was.sized) in
    let at = at_view slot_view xs i c.slot-item.result (omega arith) in
    let s = struck_step (map slot_view xs) (map slot_view (set xs i c.strike_slot.new.slot)) (views was) i min (omega arith)
    (put_view slot_view xs i c.strike_slot.new.slot _ (c.strike_slot.ensures.left ∙ ap (kept_view min) (sym at))) c.loop-slot.invariant.done c.loop-slot.invariant.left in
    let same = sym at ∙ c.loop-slot.invariant.left i (omega arith) in
    record {
      long = simp length-set (omega arith);
      done = s.0;
      left = s.1;
      numbers = summed_more (under min numbers) (views was) i c.loop-slot.struck.numbers _ _ l c.loop-slot.invariant.numbers
          (ap (weight (under min numbers)) same) c.strike_slot.ensures.numbers c.strike_slot.ensures.few.0;
      records = summed_more (under min records) (views was) i c.loop-slot.struck.records _ _ l c.loop-slot.invariant.records
          (ap (weight (under min records)) same) c.strike_slot.ensures.records c.strike_slot.ensures.few.1;
    }

pub invariant_of-self : goal.invariant_of-self
invariant_of-self c =
    let was = c.args.self.now in
    let inv = c.loop-slot.invariant in
    let e = struck_end (map slot_view c.loop-slot.slot-items) (views was) 16 c.args.min (length_views slot_view c.loop-slot.slot-items 16 inv.long) (length_views slot_view was.slots 16 was.sized)
    (λ k h. inv.done k (omega arith)) in
    record {
      sized = inv.long;
      long = was.long;
      apart = subst Apart (sym e) (apart_kept (views was) c.args.min was.apart);
      marked = subst (Marked was.marks) (sym e) (marked_kept was.marks (views was) c.args.min (length_views slot_view was.slots 16 was.sized) was.marked);
    }

pub returns-clause-views : goal.returns-clause-views
returns-clause-views c =
    let was = c.args.self.now in
    let inv = c.loop-slot.invariant in
    struck_end (map slot_view c.loop-slot.slot-items) (views was) 16 c.args.min (length_views slot_view c.loop-slot.slot-items 16 inv.long) (length_views slot_view was.slots 16 was.sized)
    (λ k h. inv.done k (omega arith))
