use Rattle.std.proofs.Common.{Some}
use Rattle.rules.specs.Turns.{by_bytes}
use Rattle.archive.specs.Parts.{kind_of}
use Rattle.lent.specs.Seen.{seen}
use Rattle.lent.proofs.Taking.{made}
use Rattle.lent.proofs.run.make.Goals as goal

pub returns-clause-answers : goal.returns-clause-answers
returns-clause-answers g c =
    let kind = kind_of g.T.Translator.translated g.K.Key.W g.K.Key.flaw c.args.archive.now.translator in
    rw (c.from-turn.ensures) (made kind (seen c.args.turn.now) (by_bytes g.K.Key.bytes c.args.call.now) (Some c.reply.result) c.reply.new.bytes c.reply.new.places c.reply.ensures)
