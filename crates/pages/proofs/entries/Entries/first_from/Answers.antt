use Rattle.std.proofs.Common.{ℕ, Option, None, ◌∙◌, refl, rules, tests, arith}
use Rattle.std.proofs.lemmas.Iterator.{YieldsList-from_range}
use Rattle.std.proofs.lemmas.Iterator.Consumers.{fold_from_yields_List}
use Rattle.journal.specs.Slots.{nearest}
use Rattle.format.specs.Decode.{count_of, page, start_of}
use Rattle.format.proofs.Meanings.{first_folded}
use Rattle.pages.proofs.entries.Entries.first_from.Goals as goal

pub returns : goal.returns
returns c =
    let l = c.args.self.now.layout.limits in
    let es = c.args.self.now.bytes.now in
    let h : Option ℕ → ℕ → Option ℕ = λ best s. nearest best (count_of (page l es s)) (start_of (page l es s)) c.args.from in
    fold_from_yields_List _ h None c.fold.result c.fold.ensures.ran (YieldsList-from_range 0 l.slots l.slots refl (omega arith)) (λ a x b q k. search (rules, tests))
    ∙ first_folded l es c.args.from l.slots
