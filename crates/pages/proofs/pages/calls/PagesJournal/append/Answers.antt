use Rattle.std.proofs.Common.{arith}
use Rattle.std.proofs.lemmas.Result.{err_from_is_err_and}
use Rattle.format.proofs.Appends.{none_free}
use Rattle.pages.specs.Raws.{view}
use Rattle.pages.proofs.pages.calls.PagesJournal.append.Goals as goal

pub returns-in_err-slot-clause-promise : goal.returns-in_err-slot-clause-promise
returns-in_err-slot-clause-promise c =
    let p = err_from_is_err_and c.from_residual.result c.from_residual.ensures.1 in
    let s = none_free (view c.args.self.now.raw) c.args.start c.args.label c.args.key.now c.args.value.now c.args.self.now.sound (omega arith) (omega arith) c.in_err-slot.ensures.1 in
    rw (p.1, p.2, c.in_err-slot.ensures.0) (record { fit = λ o f. f; answer = λ o f. s.answer; after = λ o f. s.after })
