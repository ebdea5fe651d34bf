use Rattle.std.proofs.Common.{◌<◌, length, arith}
use Rattle.std.proofs.lemmas.List.{get_or_default}
use Rattle.std.proofs.lemmas.List.Edits.{map_over_more}
use Rattle.index_layout.specs.Marks.{unmarked}
use Rattle.index.proofs.marks.unmark.Goals as goal

pub loop-one-preserved : goal.loop-one-preserved
loop-one-preserved c =
    let i = c.loop-one.one-index in
    let inside : i < length c.loop-one.marks = omega arith in
    rw c.without.ensures (map_over_more (unmarked c.args.slot) c.args.marks.now c.loop-one.marks i _ (omega arith) c.loop-one.invariant (get_or_default c.loop-one.marks i _ _ inside))
