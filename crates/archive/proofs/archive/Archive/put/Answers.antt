use Rattle.std.proofs.Common.{false, is_some, Ok, refl, sym, ap, ◌∙◌}
use Rattle.archive_layout.proofs.Puts.{already, tried, there_by}
use Rattle.archive.specs.Archives.{state_of}
use Rattle.archive.proofs.Fitting.{fit_of, home_at, does_none, does_so}
use Rattle.archive.proofs.archive.Archive.put.Goals as goal

pub returns-then-is_some : goal.returns-then-is_some
returns-then-is_some g c =
    let a = c.args.self.now in
    let s = state_of g.J.Journal.meaning a in
    let start = c.in-Some.start in
    let h = home_at a.size a.floor c.args.label.number start (sym c.home_of.ensures ∙ c.in_ok-start.was ∙ ap (λ x. Ok x) c.in-Some.is) in
    does_none (λ o f.
    let there = there_by s c.is_some.result c.args.label.number start c.saturating_sub-offset.result (fit_of a h.0 f h.1) f.lawful h.3 c.saturating_sub-offset.ensures (c.is_some.ensures ∙ ap is_some c.first_of.ensures.is) in
    let p = already s false c.args.label (g.K.Key.bytes c.args.key.now) c.args.value.now h.0 h.1 h.2 (there ∙ c.if-is_some.true) in
    (p.answer, p.after))

pub returns : goal.returns
returns g c =
    let a = c.args.self.now in
    let s = state_of g.J.Journal.meaning a in
    let start = c.in-Some.start in
    let h = home_at a.size a.floor c.args.label.number start (sym c.home_of.ensures ∙ c.in_ok-start.was ∙ ap (λ x. Ok x) c.in-Some.is) in
    does_so (c.store.ensures h.0 h.1 h.3) (λ o f.
    let there = there_by s c.is_some.result c.args.label.number start c.saturating_sub-offset.result (fit_of a h.0 f h.1) f.lawful h.3 c.saturating_sub-offset.ensures (c.is_some.ensures ∙ ap is_some c.first_of.ensures.is) in
    let p = tried s false c.args.label (g.K.Key.bytes c.args.key.now) c.args.value.now h.0 h.1 start _ _ h.2 (there ∙ c.if-is_some.false) h.3 refl refl in
    (λ x. x ∙ p.answer, p.after))
