use Rattle.rules.specs.State.{records_of, those, lies_at}
use Rattle.archive_layout.specs.Keys.{front}
use Rattle.archive_layout.proofs.Founds.{front_kept, first_by}
use Rattle.archive_layout.proofs.Reading.{read_both}
use Rattle.archive.specs.Archives.{state_of}
use Rattle.archive.proofs.Fitting.{fit_of, does_read}
use Rattle.archive.proofs.archive.Archive.get_at.Goals as goal

pub returns : goal.returns
returns g c =
    let a = c.args.self.now in
    let s = state_of g.J.Journal.meaning a in
    let m = s.journal in
    let at = c.args.place in
    does_read (read_both c.spot_at-spot.ensures c.read_found.ensures) (λ o f p.
    let is = p.1 f.lawful (front (those (lies_at at) (records_of m.sections))) (front_kept m (lies_at at)) (p.0 f.lawful (fit_of a c.in-Some.size f c.in-Some.is).homed) in
    let by = first_by s c.in-Some.size c.in-Some.is (lies_at at) _ _ _ is in
    (by.answer, by.buffer))
