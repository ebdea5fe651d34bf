use Rattle.std.proofs.Common.{rules}
use Rattle.format.specs.Decode.{count_of}
use Rattle.pages.proofs.page.Page.count.Goals as goal

pub returns-clause-count : goal.returns-clause-count
unfolding count_of
returns-clause-count c = search rules
