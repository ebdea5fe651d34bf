use Rattle.std.proofs.Common.{[], sym, ap, ◌∙◌}
use Rattle.archive_layout.specs.Keys.{front, spot_in}
use Rattle.archive_layout.proofs.Numbered.{came_none, came_all, first_there}
use Rattle.archive.proofs.Fitting.{numbered}
use Rattle.archive.proofs.numbers.Arrivals.first.Goals as goal

pub returns-in_err-position : goal.returns-in_err-position
returns-in_err-position c k width m law fit =
    let at = numbered c.args.self.now law fit in
    c.from_residual.ensures ∙ sym (ap (λ rs. spot_in (front rs)) (came_all at [] c.first_of.result c.in_err-position.was (came_none at c.first_of.result c.first_of.ensures.is)))

pub returns : goal.returns
returns c k width m law fit =
    let at = numbered c.args.self.now law fit in
    first_there at c.first_of.result c.in_ok-position.position c.in_ok-position.was (came_none at c.first_of.result c.first_of.ensures.is)
