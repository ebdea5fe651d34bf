use Rattle.std.proofs.Common.{Some, arith}
use Rattle.std.proofs.lemmas.List.{with_items_is}
use Rattle.rules.specs.Turns.{handed}
use Rattle.archive.specs.Parts.{kind_of}
use Rattle.archive.proofs.Turning.{turned}
use Rattle.archive.proofs.archive.Archive.take.Goals as goal

pub returns-clause-answers : goal.returns-clause-answers
returns-clause-answers g c =
    let t = c.args.turn.now in
    let kind = kind_of g.T.Translator.translated g.K.Key.W g.K.Key.flaw c.args.self.now.translator in
    let d = rw (c.as_mut_slice.ensures.value, c.as_mut_slice-2.ensures.value) at c.reply-answer.ensures in
    turned kind (handed g.K.Key.bytes t) (Some c.reply-answer.result) c.reply-answer.new.bytes _ c.reply-answer.new.places _ d
    (with_items_is t.bytes c.reply-answer.new.bytes (omega arith)) (with_items_is t.places c.reply-answer.new.places (omega arith))
