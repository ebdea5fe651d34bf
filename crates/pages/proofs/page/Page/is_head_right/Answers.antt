use Rattle.std.proofs.Common.{rules}
use Rattle.format.specs.Mount.{head_right}
use Rattle.pages.proofs.page.Page.is_head_right.Goals as goal

pub returns-then-count-self : goal.returns-then-count-self
unfolding head_right
returns-then-count-self c = search rules

pub returns-else-count-self : goal.returns-else-count-self
unfolding head_right
returns-else-count-self c = search rules
