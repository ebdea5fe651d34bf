use Rattle.std.proofs.Common.{◌||◌, ◌∙◌, refl, sym, ap, ap₂, add-one}
use Rattle.format.specs.State.{gone_below}
use Rattle.format.specs.Well.{Laid}
use Rattle.format.proofs.Prunes.{one_more}
use Rattle.pages.specs.Raws.{view}
use Rattle.pages.proofs.raw.Raw.prune.Goals as goal

pub loop-slot-preserved : goal.loop-slot-preserved
loop-slot-preserved c =
    let v = view c.args.self.now in
    let laid : Laid v.limits v.entries = record { small = c.args.self.now.layout.small; long = c.args.self.now.pages_fit } in
    let m = one_more v laid c.args.min c.loop-slot.slot c.loop-slot-test.true (view c.loop-slot.self) (view c.free_below-gone.new.self) c.loop-slot.invariant.bytes c.free_below-gone.ensures.after in
    record {
      end = refl;
      bytes = m.1;
      gone = ap₂ (λ x y. x || y) c.loop-slot.invariant.gone (c.free_below-gone.ensures.answer ∙ m.0) ∙ ap (gone_below v.limits v.entries c.args.min) (sym (add-one c.loop-slot.slot));
    }
