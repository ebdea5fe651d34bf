use Rattle.std.proofs.Common.{length, Some, sym, refl, ap, ◌∙◌, inl, inr, arith, length-set}
use Rattle.std.proofs.lemmas.List.{length-map}
use Rattle.index_layout.specs.Marks.{unmarked}
use Rattle.index_layout.proofs.Marks.{marked_opened, marked_anew}
use Rattle.index_layout.proofs.Through.{length_views, put_view, apart_open}
use Rattle.index_layout.proofs.Slots.{slot_held, slot_absent}
use Rattle.index.specs.Viewed.{slot_view}
use Rattle.index.specs.Slots.{views}
use Rattle.index.proofs.index.Index.open.Goals as goal

pub returns-then-is_some : goal.returns-then-is_some
returns-then-is_some c =
    record { is = (inl (slot_held (views c.args.self.now) c.args.start c.slot_of.result c.slot_of.ensures.is (sym c.is_some.ensures ∙ c.if-is_some.true)), refl) }

pub returns-in_err-slot : goal.returns-in_err-slot
returns-in_err-slot c =
    let x = c.args.self.now in
    let n = length_views slot_view x.slots 16 x.sized in
    let a = slot_absent (views x) c.args.start c.slot_of.result c.slot_of.ensures.is (sym c.is_some.ensures ∙ c.if-is_some.false) in
    record { is = simp c.from_residual.ensures (inr (record { absent = λ i l. a.0 i (omega arith); full = c.in_err-slot.ensures }), refl) }

pub invariant_of-self : goal.invariant_of-self
invariant_of-self c =
    let x = c.args.self.now in
    let n = length_views slot_view x.slots 16 x.sized in
    let e = put_view slot_view x.slots c.in_ok-slot.slot (Some c.open.result) _ c.open.ensures in
    let a = slot_absent (views x) c.args.start c.slot_of.result c.slot_of.ensures.is (sym c.is_some.ensures ∙ c.if-is_some.false) in record {
      sized = length-set x.slots c.in_ok-slot.slot (Some c.open.result) ∙ x.sized;
      long = ap length c.unmark.ensures ∙ length-map x.marks (unmarked c.in_ok-slot.slot) ∙ x.long;
      apart = apart_open slot_view x.slots c.in_ok-slot.slot c.args.start (Some c.open.result) (omega (arith, c.in_ok-slot.ensures.0)) c.open.ensures (λ k l. a.0 k (omega arith)) x.apart;
      marked = marked_anew x.marks c.unmark.new.marks (views x) _ c.in_ok-slot.slot c.args.start c.in_ok-slot.ensures.0 n x.long c.unmark.ensures e
          (marked_opened x.marks (views x) _ c.in_ok-slot.slot c.args.start c.in_ok-slot.ensures.0 n e x.marked);
    }

pub returns : goal.returns
returns c =
    let x = c.args.self.now in
    let n = length_views slot_view x.slots 16 x.sized in
    let a = slot_absent (views x) c.args.start c.slot_of.result c.slot_of.ensures.is (sym c.is_some.ensures ∙ c.if-is_some.false) in
    record {
      is = record {
        slot = c.in_ok-slot.ensures.0;
        free = c.in_ok-slot.ensures.1;
        absent = λ i l. a.0 i (omega arith);
        after = put_view slot_view x.slots c.in_ok-slot.slot (Some c.open.result) _ c.open.ensures;
      };
    }
