use Rattle.std.proofs.Common.{rules, tests, ◌∙◌}
use Rattle.std.proofs.lemmas.Iterator.{YieldsList-from_slice}
use Rattle.std.proofs.lemmas.Iterator.Adapters.{position_from-zero}
use Rattle.std.proofs.lemmas.Iterator.Search.{position_from_yields_List}
use Rattle.index_layout.specs.Held.{holds}
use Rattle.index_layout.proofs.Slots.{slot_place}
use Rattle.index.specs.Viewed.{slot_view}
use Rattle.index.proofs.index.Index.slot_of.Goals as goal

pub returns-clause-is : goal.returns-clause-is
returns-clause-is c =
    let x = c.args.self.now in
    position_from_yields_List (λ o. holds c.args.start (slot_view o)) _ _ _ c.position.ensures.ran (YieldsList-from_slice x.slots cc) (λ o b q k. search (rules, tests))
    ∙ position_from-zero (λ o. holds c.args.start (slot_view o)) x.slots ∙ slot_place slot_view x.slots 0 c.args.start
