use Rattle.std.proofs.Common.{◌-◌, arith, rules}
use Rattle.keys.proofs.Sums.{letter_most}
use Rattle.keys.proofs.box_number.count.Goals as goal

pub returns-then-is_letter : goal.returns-then-is_letter
returns-then-is_letter c = (search rules, omega (arith, c.letter_count.ensures, letter_most (c.args.b - 65)))
