use Rattle.std.proofs.Common.{None, Some, sym, ap, ◌∙◌, arith}
use Rattle.std.specs.Option.{option_copied}
use Rattle.index_layout.proofs.Slots.{Home, slot_tells}
use Rattle.index_layout.proofs.Through.{at_view}
use Rattle.index.specs.Viewed.{slot_view}
use Rattle.index.specs.Slots.{views}
use Rattle.index.proofs.index.Index.find.Goals as goal

pub returns-in_err-slot_of : goal.returns-in_err-slot_of
returns-in_err-slot_of c =
    let x = c.args.self.now in
    ap (λ o. slot_view (option_copied o)) c.from_residual.ensures ∙ sym (slot_tells (views x) c.args.start None c.in_err-slot_of.ensures.is).1

pub returns : goal.returns
returns c =
    let x = c.args.self.now in
    let i = c.in_ok-slot_of.field-0 in
    let home : Home (views x) c.args.start i = slot_tells (views x) c.args.start (Some i) c.in_ok-slot_of.ensures.is in
    ap slot_view c.as_ref.ensures.value ∙ sym (home.is ∙ at_view slot_view x.slots i _ (omega (arith, c.in_ok-slot_of.ensures.below)))
