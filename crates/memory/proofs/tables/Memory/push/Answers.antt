use Rattle.std.proofs.Common.{sym, ◌∙◌, arith}
use Rattle.std.proofs.lemmas.Result.{err_from_is_err_and}
use Rattle.memory.proofs.Opened.{refused, row_in, place_in, pushed}
use Rattle.memory.proofs.tables.Memory.push.Goals as goal

pub returns-in_err-check_room : goal.returns-in_err-check_room
returns-in_err-check_room c =
    let p = err_from_is_err_and c.from_residual.result c.from_residual.ensures.1 in
    rw (p.1, p.2) (refused _ _ c.self.view_is c.self.invariant c.args.slot c.args.start c.args.label c.args.key.now c.args.value.now c.requires _ (sym c.check_room.ensures ∙ c.in_err-check_room.was))

pub write-requires : goal.write-requires
write-requires c = (row_in _ _ c.self.view_is c.self.invariant c.args.slot c.args.start c.args.label c.args.key.now c.args.value.now c.requires (sym c.check_room.ensures ∙ c.in_ok-check_room.was)).0

pub write-requires-2 : goal.write-requires-2
write-requires-2 c = omega (arith, (row_in _ _ c.self.view_is c.self.invariant c.args.slot c.args.start c.args.label c.args.key.now c.args.value.now c.requires (sym c.check_room.ensures ∙ c.in_ok-check_room.was)).1, c.write.auto.to)

pub bounds-self-inside-slot-2 : goal.bounds-self-inside-slot-2
bounds-self-inside-slot-2 c = place_in _ _ c.self.view_is c.self.invariant c.args.slot c.args.start c.args.label c.args.key.now c.args.value.now c.requires (sym c.check_room.ensures ∙ c.in_ok-check_room.was)

pub invariant_of-self : goal.invariant_of-self
invariant_of-self c =
    (pushed _ _ c.self.view_is c.self.invariant c.args.slot c.args.start c.args.label c.args.key.now c.args.value.now c.requires (sym c.check_room.ensures ∙ c.in_ok-check_room.was)
    _ _ (omega arith) c.write.ensures c.write-2.ensures).well

pub returns : goal.returns
returns c =
    pushed _ _ c.self.view_is c.self.invariant c.args.slot c.args.start c.args.label c.args.key.now c.args.value.now c.requires (sym c.check_room.ensures ∙ c.in_ok-check_room.was)
    _ _ (omega arith) c.write.ensures c.write-2.ensures
