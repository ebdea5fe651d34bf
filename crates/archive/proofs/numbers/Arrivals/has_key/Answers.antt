use Rattle.std.proofs.Common.{ℕ, ◌<◌, [], ◌∷◌, ◌++◌, IfSome, Some, None, Option, sym, refl, ◌∙◌}
use Rattle.archive_layout.proofs.Reading.{read_none, read_so, read_on}
use Rattle.archive_layout.proofs.Numbered.{came_none, came_at, came_more, both_missed, both_met, both_absent}
use Rattle.archive.proofs.Fitting.{numbered}
use Rattle.archive.proofs.numbers.Arrivals.has_key.Goals as goal

pub returns-then-is_some : goal.returns-then-is_some
returns-then-is_some g c =
    read_on c.loop-at.invariant.1 c.bearer.ensures (λ m p q k width law fit wide.
    let d = p k width law fit in
    both_met (numbered c.args.self.now law fit) c.args.key.now d.0 c.loop-at.at c.in-Some.position d.1 c.in-Some.is c.bearer.result (q law wide) (sym c.is_some.ensures ∙ c.if-is_some.true))

later : (p : ℕ) (r : Option ℕ) → IfSome r (λ q. (p < q) × (q < 128)) → IfSome r (λ q. q < 128)
later p None h = tt
later p (Some q) h = h.1

pub loop-at-preserved : goal.loop-at-preserved
loop-at-preserved g c = (
  later c.in-Some.position c.next_of-at.result c.next_of-at.ensures.within,
  read_on c.loop-at.invariant.1 c.bearer.ensures (λ m p q k width law fit.
      let d = p k width law fit in
      let at = numbered c.args.self.now law fit in
      let x = came_at at d.0 c.loop-at.at c.in-Some.position d.1 c.in-Some.is in (
        d.0 ++ x ∷ [],
        came_more at d.0 c.loop-at.at c.in-Some.position d.1 c.in-Some.is c.next_of-at.result c.next_of-at.ensures.is,
        λ wide. both_missed at c.args.key.now d.0 c.loop-at.at c.in-Some.position d.1 c.in-Some.is c.bearer.result (q law wide) (sym c.is_some.ensures ∙ c.if-is_some.false) (d.2 wide),
      )),
)

pub returns : goal.returns
returns g c =
    read_so c.loop-at.invariant.1 (λ m p k width law fit wide. let d = p k width law fit in both_absent (numbered c.args.self.now law fit) c.args.key.now d.0 c.loop-at.at c.in_default.is d.1 (d.2 wide))

pub loop-at-init : goal.loop-at-init
loop-at-init g c =
    (c.first_of-at.ensures.within, read_none (λ m k width law fit. ([], came_none (numbered c.args.self.now law fit) c.first_of-at.result c.first_of-at.ensures.is, λ wide. refl)))
