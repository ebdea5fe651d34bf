use Rattle.std.proofs.lemmas.Result.{err_from_is_err_and}
use Rattle.memory.proofs.Opened.{crowded}
use Rattle.memory.proofs.tables.calls.MemoryJournal.append.Goals as goal

pub returns-in_err-slot-in-None : goal.returns-in_err-slot-in-None
returns-in_err-slot-in-None c =
    let p = err_from_is_err_and c.from_residual.result c.from_residual.ensures.1 in
    let none = c.in_err-slot-in-None.ensures in
    let k = crowded _ _ c.self.view_is c.self.invariant c.args.start c.args.label c.args.key.now c.args.value.now _ _ c.if-key-self.false c.if-start-self.false c.in-None.ensures c.vacant.ensures none.ok_part none.value in
    rw (p.1, p.2) (record { fit = λ o f. k.well; answer = λ o f. k.answer; after = λ o f. k.after })
