use Rattle.std.proofs.Common.{◌≡◌, rules, tests, true, false}
use Rattle.std.proofs.lemmas.Iterator.{YieldsList-from_slice, IsFirst-from_position}
use Rattle.index.specs.Viewed.{slot_view}
use Rattle.index.proofs.Slots.{free_place}
use Rattle.index.proofs.index.Index.free_slot.Goals as goal

pub returns : goal.returns
returns c =
    let x = c.args.self.now in
    free_place x.slots c.position.result x.sized
    (IsFirst-from_position _ _ _ (λ o. (slot_view o).used ≡ false) (λ o. (slot_view o).used ≡ true) c.position.ensures.ran (YieldsList-from_slice x.slots cc)
    (λ o q k. search (rules, tests)) (λ o q k. search (rules, tests)))
