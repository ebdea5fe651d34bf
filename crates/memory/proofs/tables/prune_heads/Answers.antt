use Rattle.std.proofs.Common.{◌<◌, length, arith}
use Rattle.std.proofs.lemmas.List.{get_or_default}
use Rattle.std.proofs.lemmas.List.Edits.{map_over_more}
use Rattle.memory_layout.specs.View.{pruned_head}
use Rattle.memory.proofs.tables.prune_heads.Goals as goal

pub loop-head-preserved : goal.loop-head-preserved
loop-head-preserved c =
    let i = c.loop-head.head-index in
    let inside : i < length c.loop-head.heads = omega arith in
    rw c.left.ensures (map_over_more (pruned_head c.args.min) c.args.heads.now c.loop-head.heads i _ (omega arith) c.loop-head.invariant (get_or_default c.loop-head.heads i _ _ inside))
