use Rattle.std.proofs.Common.{is_some, ap, ◌∙◌}
use Rattle.rules.specs.State.{records_of, those, bears_number}
use Rattle.archive_layout.proofs.Founds.{front_some}
use Rattle.archive_layout.proofs.Gets.{has_by}
use Rattle.archive.specs.Archives.{state_of}
use Rattle.archive.proofs.Fitting.{fit_of}
use Rattle.archive.proofs.archive.Archive.has_index.Goals as goal

pub returns : goal.returns
returns g c o f =
    let a = c.args.self.now in
    let s = state_of g.J.Journal.meaning a in
    let m = s.journal in
    let n = c.args.number in
    let first = rw (c.new.ensures.index, c.new.ensures.parts.0, c.new.ensures.parts.1) at c.first.ensures in
    has_by s (bears_number n) c.in-Some.size c.is_some.result c.in-Some.is
    (c.is_some.ensures ∙ ap is_some (first _ g.K.Key.W m f.lawful (fit_of a c.in-Some.size f c.in-Some.is)) ∙ front_some (those (bears_number n) (records_of m.sections)))
