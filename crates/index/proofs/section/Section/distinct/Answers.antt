use Rattle.std.proofs.Common.{length, arith}
use Rattle.index_layout.proofs.Offsets.{fresh_le}
use Rattle.index.specs.Rows.{held, offsets_of}
use Rattle.index.proofs.section.Section.distinct.Goals as goal

pub returns-clause-few : goal.returns-clause-few
returns-clause-few c =
    let s = c.args.self.now in
    omega (arith, fresh_le (offsets_of (held s.rows)) (length (held s.rows)), s.linked.counted)
