use Rattle.std.proofs.Common.{rules}
use Rattle.format.specs.Layout.{entry_check}
use Rattle.pages.proofs.numbers.entry_check.Goals as goal

pub returns : goal.returns
unfolding entry_check
returns c = search rules
