use Rattle.std.proofs.Common.{is_some, ap, ◌∙◌}
use Rattle.rules.specs.State.{records_of, those, bears_key}
use Rattle.archive_layout.specs.Keys.{spot_in}
use Rattle.archive_layout.proofs.Founds.{least_some}
use Rattle.archive_layout.proofs.Gets.{has_by}
use Rattle.archive_layout.proofs.Listing.{least_all}
use Rattle.archive.specs.Archives.{state_of}
use Rattle.archive.proofs.Fitting.{known, does_read}
use Rattle.archive.proofs.archive.Archive.has_key.Goals as goal

pub returns : goal.returns
returns g c =
    let a = c.args.self.now in
    let s = state_of g.J.Journal.meaning a in
    let m = s.journal in
    let key = g.K.Key.bytes c.args.key.now in
    let next = rw c.new.ensures.key at c.next.ensures in
    does_read next (λ o f p.
    let w = known a c.in-Some.size key _ _ f c.in-Some.is (g.met.K.Key.long c.args.key.now) c.new.ensures.code c.new.ensures.hash in
    has_by s (bears_key key) c.in-Some.size c.is_some.result c.in-Some.is
    (c.is_some.ensures ∙ ap is_some (p _ g.K.Key.W w ∙ ap spot_in (least_all key m.sections)) ∙ least_some (those (bears_key key) (records_of m.sections))))
