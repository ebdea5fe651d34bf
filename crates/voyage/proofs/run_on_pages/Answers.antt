use Rattle.std.proofs.Common.{Ok, sym, refl, ap, ◌∙◌, subst}
use Rattle.std.specs.Vec.{vec_items}
use Rattle.journal.specs.Making.{made}
use Rattle.format.specs.Mount.{mount_fault}
use Rattle.format.specs.State.{decoded}
use Rattle.pages.specs.Journals.{means}
use Rattle.archive.specs.Parts.{kind_of}
use Rattle.voyage.specs.Voyages.{Sails, SailsIf}
use Rattle.voyage.proofs.Checks.{no_fault}
use Rattle.voyage.proofs.run_on_pages.Goals as goal

pub returns-clause-answer : goal.returns-clause-answer
returns-clause-answer g c =
    let a = c.args in
    let fault = mount_fault a.limits a.entries.now a.values.now in
    let m = decoded a.limits a.entries.now a.values.now in
    let kind = kind_of g.T.Translator.translated g.K.Key.W g.K.Key.flaw a.translator in
    let none = no_fault fault c.check.result c.check.ensures c.in_ok-check.was in
    let after = means c.run_cached.result in
    let same = c.mount.ensures.meaning ∙ ap (λ o. made o m) none in
    let sails = subst (λ x. Sails kind x g.K.Key.bytes (vec_items a.turns.now) (vec_items c.run_cached.new.turns) after) same (c.run_cached.ensures.law tt c.mount.ensures.fit) in
    subst (λ o. SailsIf o kind m g.K.Key.bytes (vec_items a.turns.now) (vec_items c.run_cached.new.turns) (Ok tt)) (sym none)
    (refl, sails.calls, sails.state, sails.law)
