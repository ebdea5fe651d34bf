use Rattle.std.proofs.Common.{true, Ok, refl, sym, ap, ◌∙◌}
use Rattle.archive_layout.proofs.Puts.{tried}
use Rattle.archive.specs.Archives.{state_of}
use Rattle.archive.proofs.Fitting.{home_at, does_so}
use Rattle.archive.proofs.archive.Archive.put_multi.Goals as goal

pub returns : goal.returns
returns g c =
    let a = c.args.self.now in
    let s = state_of g.J.Journal.meaning a in
    let start = c.in-Some.start in
    let h = home_at a.size a.floor c.args.label.number start (sym c.home_of.ensures ∙ c.in_ok-start.was ∙ ap (λ x. Ok x) c.in-Some.is) in
    does_so (c.store.ensures h.0 h.1 h.3) (λ o f.
    let p = tried s true c.args.label (g.K.Key.bytes c.args.key.now) c.args.value.now h.0 h.1 start _ _ h.2 refl h.3 refl refl in
    (λ x. x ∙ p.answer, p.after))
