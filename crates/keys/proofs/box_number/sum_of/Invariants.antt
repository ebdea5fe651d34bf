use Rattle.std.proofs.Common.{◌≡◌, ◌*◌, ◌^◌, ◌≤◌}
use Rattle.keys.specs.Iso.{sum_below}
use Rattle.keys.proofs.box_number.sum_of.Given as goal

abbrev pub invariant-loop-place : goal.invariant-loop-place
invariant-loop-place l = (l.place ≤ 10) × (l.sum ≡ sum_below l.bytes l.place) × (l.sum ≤ 38 * 2 ^ l.place)
