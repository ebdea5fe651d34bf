use Rattle.std.proofs.Common.{Ok, length, map, sym, refl, ap, ◌∙◌, subst, arith}
use Rattle.journal.specs.Making.{made}
use Rattle.format.specs.Mount.{mount_fault}
use Rattle.format.specs.State.{decoded}
use Rattle.pages.specs.Journals.{bytes_of, means}
use Rattle.archive.specs.Parts.{kind_of}
use Rattle.voyage.proofs.Checks.{no_fault}
use Rattle.lent.specs.Seen.{seen}
use Rattle.lent.specs.Runs.{ServesTo, ServesIf, Keeps, both}
use Rattle.lent.proofs.Saving.{left_by, entries_long, values_long, keeps, no_save_fault}
use Rattle.lent.proofs.run.serve_on_pages.Goals as goal

pub copy_from_slice-requires : goal.copy_from_slice-requires
copy_from_slice-requires g c =
    let a = c.args in
    let kind = kind_of g.T.Translator.translated g.K.Key.W g.K.Key.flaw a.translator in
    let none = no_fault (mount_fault a.limits a.entries.now a.values.now) c.check.result c.check.ensures c.in_ok-check.was in
    let v = bytes_of c.serve_mounted-left.result in
    let us = map seen a.turns.now in
    let ws = map seen c.serve_mounted-left.new.turns in
    let same = c.mount-pages.ensures.meaning ∙ ap (λ o. made o (decoded a.limits a.entries.now a.values.now)) none in
    let served = subst (λ x. ServesTo kind x us ws (means c.serve_mounted-left.result)) same c.serve_mounted-left.ensures.law in
    let left = left_by a.limits a.entries.now a.values.now none v c.serve_mounted-left.result.sound kind us ws served in
    omega (arith, c.if-saved_entries-entries.false, entries_long a.limits a.entries.now a.values.now none v c.serve_mounted-left.result.sound left, ap length c.entries.ensures.bytes)

pub copy_from_slice-requires-2 : goal.copy_from_slice-requires-2
copy_from_slice-requires-2 g c =
    let a = c.args in
    let kind = kind_of g.T.Translator.translated g.K.Key.W g.K.Key.flaw a.translator in
    let none = no_fault (mount_fault a.limits a.entries.now a.values.now) c.check.result c.check.ensures c.in_ok-check.was in
    let v = bytes_of c.serve_mounted-left.result in
    let us = map seen a.turns.now in
    let ws = map seen c.serve_mounted-left.new.turns in
    let same = c.mount-pages.ensures.meaning ∙ ap (λ o. made o (decoded a.limits a.entries.now a.values.now)) none in
    let served = subst (λ x. ServesTo kind x us ws (means c.serve_mounted-left.result)) same c.serve_mounted-left.ensures.law in
    let left = left_by a.limits a.entries.now a.values.now none v c.serve_mounted-left.result.sound kind us ws served in
    omega (arith, c.if-saved_values-values.false, values_long a.limits a.entries.now a.values.now none v c.serve_mounted-left.result.sound left, ap length c.values.ensures)

pub returns-clause-answer : goal.returns-clause-answer
returns-clause-answer g c =
    let a = c.args in
    let kind = kind_of g.T.Translator.translated g.K.Key.W g.K.Key.flaw a.translator in
    let none = no_fault (mount_fault a.limits a.entries.now a.values.now) c.check.result c.check.ensures c.in_ok-check.was in
    let m = decoded a.limits a.entries.now a.values.now in
    let v = bytes_of c.serve_mounted-left.result in
    let us = map seen a.turns.now in
    let ws = map seen c.serve_mounted-left.new.turns in
    let same = c.mount-pages.ensures.meaning ∙ ap (λ o. made o m) none in
    let served = subst (λ x. ServesTo kind x us ws (means c.serve_mounted-left.result)) same c.serve_mounted-left.ensures.law in
    let left = left_by a.limits a.entries.now a.values.now none v c.serve_mounted-left.result.sound kind us ws served in
    let kept = keeps a.limits v c.copy_from_slice.new.self c.copy_from_slice-2.new.self served.0.journal left (c.copy_from_slice.ensures.after ∙ c.entries.ensures.bytes) (c.copy_from_slice-2.ensures.after ∙ c.values.ensures) served.2 in
    let free = no_save_fault a.limits (both a.entries.now a.values.now) (both a.saved_entries.now a.saved_values.now) (omega (arith, c.if-saved_entries-entries.false)) (omega (arith, c.if-saved_values-values.false)) none in
    subst (λ o. ServesIf o kind m us ws (Keeps a.limits c.copy_from_slice.new.self c.copy_from_slice-2.new.self) (Ok tt)) (sym free) (refl, served.0, served.1, kept)
