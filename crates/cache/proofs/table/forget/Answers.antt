use Rattle.std.proofs.Common.{◌≡◌, ◌<◌, length, get_or, rules, None, arith}
use borrow.Author.Tests.{tests}
use Rattle.std.proofs.lemmas.List.{get_or_default}
use Rattle.std.proofs.lemmas.List.Edits.{map_over_more}
use Rattle.cache.specs.Table.{forgotten}
use Rattle.cache.proofs.table.forget.Goals as goal

pub loop-slot-preserved : goal.loop-slot-preserved
loop-slot-preserved c =
    let i = c.loop-slot.slot-index in
    let inside : i < length c.loop-slot.slots = omega arith in
    let e : c.filter.result ≡ forgotten c.args.min (get_or c.loop-slot.slots i None) = search (rules, tests) in
    rw e (map_over_more (forgotten c.args.min) c.args.slots.now c.loop-slot.slots i _ (omega arith) c.loop-slot.invariant (get_or_default c.loop-slot.slots i _ _ inside))
