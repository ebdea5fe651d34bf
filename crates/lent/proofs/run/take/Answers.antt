use Rattle.std.proofs.Common.{Ok, Err, sym, ap, ◌∙◌}
use Rattle.rules.specs.Turns.{by_bytes}
use Rattle.archive.specs.Parts.{kind_of}
use Rattle.lent.specs.Asked.{ok_as}
use Rattle.lent.specs.Seen.{seen}
use Rattle.lent.proofs.Taking.{left, taken}
use Rattle.lent.proofs.run.take.Goals as goal

pub returns-in-Ok-clause-answers : goal.returns-in-Ok-clause-answers
returns-in-Ok-clause-answers g c =
    let kind = kind_of g.T.Translator.translated g.K.Key.W g.K.Key.flaw c.args.archive.now.translator in
    taken kind (seen c.args.turn.now) _ (Ok (by_bytes g.K.Key.bytes c.in-Ok.call)) (sym (ap (ok_as (by_bytes g.K.Key.bytes)) c.in-Ok.is) ∙ c.asked.ensures) c.make.ensures.answers

pub returns-in-Err-clause-answers : goal.returns-in-Err-clause-answers
returns-in-Err-clause-answers g c =
    let kind = kind_of g.T.Translator.translated g.K.Key.W g.K.Key.flaw c.args.archive.now.translator in
    taken kind (seen c.args.turn.now) _ (Err c.in-Err.misread) (sym (ap (ok_as (by_bytes g.K.Key.bytes)) c.in-Err.is) ∙ c.asked.ensures)
    (rw (c.from-turn.ensures) (left kind c.args.archive.now (seen c.args.turn.now) c.in-Err.misread))
