use Rattle.std.proofs.Common.{rules}
use Rattle.format.specs.Decode.{start_of}
use Rattle.pages.proofs.page.Page.start.Goals as goal

pub returns : goal.returns
unfolding start_of
returns c = search rules
