use Rattle.std.proofs.Common.{◌<◌, List, Option, length, is_ok, get_or, map, None, sym, ap, ◌∙◌, subst, arith, length-set}
use Rattle.index_layout.specs.Views.{bucket_of, Apart}
use Rattle.index_layout.specs.Marks.{Marked}
use Rattle.index_layout.proofs.Marks.{marked_added}
use Rattle.index_layout.proofs.Through.{add_views, apart_add, length_views}
use Rattle.index.specs.declared.section.Section.{Section}
use Rattle.index.specs.Viewed.{slot_view}
use Rattle.index.specs.Slots.{views}
use Rattle.index.proofs.index.Index.add.Goals as goal

pub invariant_of-self : goal.invariant_of-self
invariant_of-self c =
    let x = c.args.self.now in
    let slots : List (Option Section) = c.add_at.new.slots in
    let new : Option Section = get_or slots c.args.slot None in
    let b = bucket_of c.args.key.hash in
    let r = is_ok c.add_at.result in
    let inside : c.args.slot < length x.slots = omega (arith, x.sized) in
    let sized = ap length c.add_at.ensures.others ∙ length-set x.slots c.args.slot new ∙ x.sized in
    let same = ap (map slot_view) c.add_at.ensures.others in record {
      sized = sized;
      long = ap length c.mark.ensures ∙ length-set x.marks _ _ ∙ x.long;
      apart = subst Apart (sym same) (apart_add slot_view x.slots c.args.slot c.args.offset c.args.key.code b r None new inside c.add_at.ensures.view x.apart);
      marked = subst (Marked c.mark.new.marks) (sym (same ∙ add_views slot_view x.slots c.args.slot c.args.offset c.args.key.code b r None new inside c.add_at.ensures.view))
          (marked_added x.marks c.mark.new.marks c.args.key.code c.args.slot (omega arith) x.long c.mark.ensures (views x) c.args.offset b r (length_views slot_view x.slots 16 x.sized) x.marked);
    }

pub returns-clause-views : goal.returns-clause-views
returns-clause-views c =
    let x = c.args.self.now in
    ap (map slot_view) c.add_at.ensures.others
    ∙ add_views slot_view x.slots c.args.slot c.args.offset c.args.key.code (bucket_of c.args.key.hash) (is_ok c.add_at.result) None (get_or c.add_at.new.slots c.args.slot None) (omega arith) c.add_at.ensures.view
