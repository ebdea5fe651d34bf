use Rattle.std.proofs.Common.{length}
use Rattle.memory_layout.proofs.Reading.{value_short, value_kept}
use Rattle.memory.proofs.tables.Memory.value_at.Goals as goal

pub returns-then-value-row-clause-answer : goal.returns-then-value-row-clause-answer
returns-then-value-row-clause-answer c = value_short c.args.self.now c.args.start c.args.position c.in_ok-row.row c.in_ok-row.ensures (length c.args.value.now) c.if-value-row.true

pub returns-then-value-row-clause-buffer : goal.returns-then-value-row-clause-buffer
returns-then-value-row-clause-buffer c = value_kept c.args.self.now c.args.start c.args.position c.in_ok-row.row c.in_ok-row.ensures c.args.value.now c.if-value-row.true
