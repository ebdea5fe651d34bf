use Rattle.std.proofs.Common.{sym, ◌∙◌}
use Rattle.rules.specs.State.{bears_both}
use Rattle.archive_layout.proofs.Gets.{has_by}
use Rattle.archive.specs.Archives.{state_of}
use Rattle.archive.proofs.Fitting.{fit_of, does_read}
use Rattle.archive.proofs.archive.Archive.has_at.Goals as goal

pub returns : goal.returns
returns g c =
    let a = c.args.self.now in
    let s = state_of g.J.Journal.meaning a in
    let m = s.journal in
    let key = g.K.Key.bytes c.args.key.now in
    let both = rw (c.new-arrivals.ensures.index, c.new-arrivals.ensures.parts.0, c.new-arrivals.ensures.parts.1, c.as_bytes.ensures) at c.has_key.ensures in
    does_read both (λ o f p.
    let fit = fit_of a c.in-Some.size f c.in-Some.is in
    has_by s (bears_both c.args.number key) c.in-Some.size c.has_key.result c.in-Some.is
    (p _ g.K.Key.W f.lawful fit (g.met.K.Key.long c.args.key.now ∙ sym fit.wide)))
