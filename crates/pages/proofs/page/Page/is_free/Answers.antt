use Rattle.std.proofs.Common.{◌==◌, ◌∙◌, rules, tests}
use Rattle.std.proofs.lemmas.Iterator.{YieldsList-from_slice}
use Rattle.std.proofs.lemmas.Iterator.Search.{all_from_yields_List}
use Rattle.journal.specs.Bytes.{chunk}
use Rattle.format.specs.Decode.{is_free}
use Rattle.format.proofs.Firsts.{zeros_are}
use Rattle.pages.proofs.page.Page.is_free.Goals as goal

pub returns : goal.returns
unfolding is_free
returns c =
    all_from_yields_List (λ b. b == 0) _ _ c.all.result c.all.ensures.ran (YieldsList-from_slice (chunk c.args.self.now.bytes.now 0 16) (cc)) (λ x b q k. search (rules, tests))
    ∙ zeros_are (chunk c.args.self.now.bytes.now 0 16)
