use Rattle.std.proofs.Common.{◌<◌, length, sym, ap, arith}
use Rattle.index_layout.specs.Held.{weight, numbers, records}
use Rattle.index_layout.proofs.Held.{summed_more}
use Rattle.index_layout.proofs.Through.{at_view, length_views}
use Rattle.index.specs.Viewed.{slot_view}
use Rattle.index.specs.Slots.{views}
use Rattle.index.proofs.index.Index.counts.Goals as goal

pub loop-slot-preserved : goal.loop-slot-preserved
loop-slot-preserved c =
    let x = c.args.self.now in
    let i = c.loop-slot.slot-index in
    let l : i < length (views x) = omega (arith, length_views slot_view x.slots 16 x.sized) in
    let e = sym (at_view slot_view x.slots i c.slot-item.result (omega arith)) in
    record {
      numbers = summed_more numbers (views x) i c.loop-slot.kept.numbers _ _ l c.loop-slot.invariant.numbers (ap (weight numbers) e) c.add.ensures.numbers c.add.ensures.few.0;
      records = summed_more records (views x) i c.loop-slot.kept.records _ _ l c.loop-slot.invariant.records (ap (weight records) e) c.add.ensures.records c.add.ensures.few.1;
    }
