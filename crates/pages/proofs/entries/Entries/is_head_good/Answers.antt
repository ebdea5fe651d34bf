use Rattle.std.proofs.Common.{rules}
use Rattle.format.specs.Mount.{head_good}
use Rattle.format.proofs.Firsts.{none_by}
use Rattle.pages.proofs.entries.Entries.is_head_good.Goals as goal

pub returns-then-is_head_right : goal.returns-then-is_head_right
unfolding head_good
returns-then-is_head_right c = let e = none_by _ _ c.is_none.ensures in search rules

pub returns-else-is_head_right : goal.returns-else-is_head_right
unfolding head_good
returns-else-is_head_right c = search rules
