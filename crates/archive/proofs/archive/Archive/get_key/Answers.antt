use Rattle.std.proofs.Common.{◌∙◌, ap}
use Rattle.rules.specs.State.{records_of, those, bears_key}
use Rattle.archive_layout.specs.Keys.{least, spot_in}
use Rattle.archive_layout.proofs.Founds.{least_kept, key_by}
use Rattle.archive_layout.proofs.Listing.{least_all}
use Rattle.archive_layout.proofs.Reading.{read_both}
use Rattle.archive.specs.Archives.{state_of}
use Rattle.archive.proofs.Fitting.{does_read, known}
use Rattle.archive.proofs.archive.Archive.get_key.Goals as goal

pub returns : goal.returns
returns g c =
    let a = c.args.self.now in
    let s = state_of g.J.Journal.meaning a in
    let m = s.journal in
    let key = g.K.Key.bytes c.args.key.now in
    let next = rw c.new.ensures.key at c.next-spot.ensures in
    does_read (read_both next c.read_found.ensures) (λ o f p.
    let w = known a c.in-Some.size key _ _ f c.in-Some.is (g.met.K.Key.long c.args.key.now) c.new.ensures.code c.new.ensures.hash in
    key_by s c.in-Some.size c.in-Some.is key _ _ _
    (p.1 f.lawful (least (those (bears_key key) (records_of m.sections))) (least_kept m (bears_key key)) (p.0 _ g.K.Key.W w ∙ ap spot_in (least_all key m.sections))))
