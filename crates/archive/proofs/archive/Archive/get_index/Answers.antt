use Rattle.rules.specs.State.{records_of, those, bears_number}
use Rattle.archive_layout.specs.Keys.{front}
use Rattle.archive_layout.proofs.Founds.{front_kept, first_by}
use Rattle.archive.specs.Archives.{state_of}
use Rattle.archive.proofs.Fitting.{fit_of, does_read}
use Rattle.archive.proofs.archive.Archive.get_index.Goals as goal

pub returns : goal.returns
returns g c =
    let a = c.args.self.now in
    let s = state_of g.J.Journal.meaning a in
    let m = s.journal in
    let n = c.args.number in
    let first = rw (c.new.ensures.index, c.new.ensures.parts.0, c.new.ensures.parts.1) at c.first-spot.ensures in
    does_read c.read_found.ensures (λ o f p.
    let is = p f.lawful (front (those (bears_number n) (records_of m.sections))) (front_kept m (bears_number n)) (first _ g.K.Key.W m f.lawful (fit_of a c.in-Some.size f c.in-Some.is)) in
    let by = first_by s c.in-Some.size c.in-Some.is (bears_number n) _ _ _ is in
    (by.answer, by.buffer))
