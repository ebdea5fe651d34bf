use Rattle.std.proofs.Common.{◌≤◌, length, subst}
use Rattle.memory_layout.specs.View.{View}
use Rattle.memory_layout.proofs.Reading.{entry_ok}
use Rattle.memory.proofs.tables.Memory.entry_at.Goals as goal

pub returns-clause-answer : goal.returns-clause-answer
returns-clause-answer c =
    entry_ok c.args.self.now c.args.start c.args.position c.in_ok-row.row c.in_ok-row.ensures (length c.args.key.now)
    (subst (λ (x : View). x.width ≤ length c.args.key.now) c.self.view_is c.if-key-self.false)
