use Rattle.std.proofs.Common.{◌≡◌, ◌+◌, ◌%◌, cond, eqb, get_or, Some, sym, ap, ◌∙◌, arith}
use Rattle.keys.specs.Iso.{check_sum, first_bad}
use Rattle.keys.specs.declared.box_number.BoxNumber.{BoxNumber}
use Rattle.keys.specs.Flaws.{no_flaw, place_flaw}
use Rattle.keys.specs.Places.{digit_shown}
use Rattle.keys.proofs.box_number.BoxNumber.check_digit.Goals as goal

shown : (k : BoxNumber) → get_or k.bytes 10 0 ≡ 48 + cond (eqb (check_sum k.bytes % 11) 10) 0 (check_sum k.bytes % 11)
shown k = digit_shown k.bytes (sym (place_flaw 11 (first_bad k.bytes 0 11) k.bytes k.long) ∙ no_flaw _ k.valid)

pub overflow_sub-result : goal.overflow_sub-result
overflow_sub-result c = omega (arith, shown c.args.self.now)

pub returns : goal.returns
returns c = ap Some (omega (arith, shown c.args.self.now))
