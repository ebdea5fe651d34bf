use Rattle.std.proofs.Common.{sym, ap, ◌∙◌}
use Rattle.std.proofs.lemmas.Result.{err_from_is_err_and}
use Rattle.rules.specs.Calls.{found_by}
use Rattle.archive_layout.proofs.Founds.{nothing_found, read_spot}
use Rattle.archive_layout.proofs.Reading.{read_none, read_so, read_value}
use Rattle.archive.proofs.spots.read_found.Goals as goal

pub returns-in_default : goal.returns-in_default
returns-in_default g c = read_none (λ m law o kept is. nothing_found o c.args.value.now (sym c.in_default.is ∙ is))

pub returns-in_err-length : goal.returns-in_err-length
returns-in_err-length g c =
    let e = err_from_is_err_and c.from_residual.result c.from_residual.ensures.1 in
    rw (e.1, e.2)
    (read_so (read_value c.read_value.ensures) (λ m p law o kept is.
    let w = read_spot m o c.in-Some.field-0 _ _ c.read_value.result law kept (sym c.in-Some.is ∙ is) p.0 p.1 in
    (ap (found_by c.in-Some.field-0.place) (sym c.in_err-length.was) ∙ w.0, w.1)))

pub returns : goal.returns
returns g c =
    read_so (read_value c.read_value.ensures) (λ m p law o kept is.
    let w = read_spot m o c.in-Some.field-0 _ _ c.read_value.result law kept (sym c.in-Some.is ∙ is) p.0 p.1 in
    (ap (found_by c.in-Some.field-0.place) (sym c.in_ok-length.was) ∙ w.0, w.1))
