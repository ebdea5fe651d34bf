use Rattle.std.proofs.Common.{◌≡◌, ◌==◌, ◌||◌, Bool, false, sym, ap, ◌∙◌, rules, tests}
use Rattle.std.specs.List.{slice_get}
use Rattle.std.proofs.lemmas.Iterator.{YieldsList-from_slice}
use Rattle.std.proofs.lemmas.Iterator.Search.{all_from_yields_List}
use Rattle.script.specs.Lines.{is_that, spaces}
use Rattle.script.proofs.input.is_silent.Goals as goal

pub returns-else-eq : goal.returns-else-eq
returns-else-eq c =
    let line = c.args.line.now in
    let all : c.all.result ≡ spaces line = all_from_yields_List (λ b. b == 32) _ _ c.all.result c.all.ensures.ran (YieldsList-from_slice line (cc)) (λ x b q k. search (rules, tests)) in
    let first : is_that (slice_get line 0) 35 ≡ false = search (rules, tests) in
    all ∙ ap (λ (t : Bool). t || spaces line) (sym first)
