use Rattle.std.proofs.Common.{length, Ok, sym, refl, ap, ◌∙◌, subst}
use Rattle.std.specs.Vec.{vec_items}
use Rattle.journal.specs.Making.{made, empty}
use Rattle.memory_layout.specs.View.{meaning_of}
use Rattle.memory.specs.Start.{start_fault}
use Rattle.archive.specs.Parts.{kind_of}
use Rattle.voyage.specs.Voyages.{Sails, SailsIf}
use Rattle.voyage.proofs.Checks.{no_fault}
use Rattle.voyage.proofs.run_in_memory.Goals as goal

pub returns-clause-answer : goal.returns-clause-answer
returns-clause-answer g c =
    let a = c.args in
    let fault = start_fault a.limits (length a.records.now) (length a.bytes.now) in
    let kind = kind_of g.T.Translator.translated g.K.Key.W g.K.Key.flaw a.translator in
    let none = no_fault fault c.check.result c.check.ensures c.in_ok-check.was in
    let after = meaning_of c.run_cached.result in
    let same = c.start.ensures.meaning ∙ ap (λ o. made o (empty a.limits)) none in
    let sails = subst (λ x. Sails kind x g.K.Key.bytes (vec_items a.turns.now) (vec_items c.run_cached.new.turns) after) same (c.run_cached.ensures.law tt c.start.ensures.fit) in
    subst (λ o. SailsIf o kind (empty a.limits) g.K.Key.bytes (vec_items a.turns.now) (vec_items c.run_cached.new.turns) (Ok tt)) (sym none)
    (refl, sails.calls, sails.state, sails.law)
