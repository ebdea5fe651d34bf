use Rattle.std.proofs.Common.{arith, rules}
use Rattle.keys.proofs.Sums.{sum_step}
use Rattle.keys.proofs.box_number.sum_of.Goals as goal

pub overflow_add-sum : goal.overflow_add-sum
overflow_add-sum c =
    let s = sum_step c.args.bytes.now c.loop-place.place c.loop-place.sum c.count.result (omega arith) (search rules) c.count.ensures.1 (c.loop-place.invariant.1, c.loop-place.invariant.2) in
    rw s.0 (omega (arith, s.3))

pub loop-place-preserved : goal.loop-place-preserved
loop-place-preserved c =
    let s = sum_step c.args.bytes.now c.loop-place.place c.loop-place.sum c.count.result (omega arith) (search rules) c.count.ensures.1 (c.loop-place.invariant.1, c.loop-place.invariant.2) in
    rw s.0 (omega arith, s.1, s.2)
