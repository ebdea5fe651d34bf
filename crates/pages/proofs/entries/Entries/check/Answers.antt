use Rattle.std.proofs.Common.{sym, ap, arith}
use Rattle.std.proofs.lemmas.Result.{err_from_is_err_and}
use Rattle.journal.specs.Making.{checked}
use Rattle.format.specs.Mount.{slot_fault}
use Rattle.format.proofs.Firsts.{checked_err, earliest_at}
use Rattle.pages.proofs.entries.Entries.check.Goals as goal

pub returns-in_err-check_slot : goal.returns-in_err-check_slot
returns-in_err-check_slot c =
    let fault = slot_fault c.args.self.now.layout.limits c.args.self.now.bytes.now in
    let f = c.in_err-check_slot.field-0.0 in
    let p = err_from_is_err_and c.from_residual.result c.from_residual.ensures.1 in
    rw (p.1, p.2) (sym (ap checked (earliest_at fault c.loop-slot.slot c.args.self.now.layout.limits.slots f (omega arith) c.loop-slot.invariant (checked_err (fault c.loop-slot.slot) f c.in_err-check_slot.ensures))))
