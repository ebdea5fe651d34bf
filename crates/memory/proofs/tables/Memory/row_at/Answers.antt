use Rattle.std.proofs.Common.{refl}
use Rattle.memory_layout.proofs.Seen.{row_none}
use Rattle.memory.proofs.Opened.{row_lies, row_over}
use Rattle.memory.proofs.tables.Memory.row_at.Goals as goal

pub returns-in_default : goal.returns-in_default
returns-in_default c = (row_none c.args.self.now c.args.start c.args.position c.in_default.ensures, refl)

pub returns-then-position-self : goal.returns-then-position-self
returns-then-position-self c = (row_over _ _ c.self.view_is c.self.invariant c.in-Some.slot c.args.start c.args.position c.in-Some.ensures c.if-position-self.true, refl)

pub returns : goal.returns
returns c = row_lies _ _ c.self.view_is c.self.invariant c.in-Some.slot c.args.start c.args.position c.in-Some.ensures c.if-position-self.false
