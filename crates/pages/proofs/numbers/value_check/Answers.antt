use Rattle.std.proofs.Common.{rules}
use Rattle.format.specs.Layout.{value_check}
use Rattle.pages.proofs.numbers.value_check.Goals as goal

pub returns : goal.returns
unfolding value_check
returns c = search rules
