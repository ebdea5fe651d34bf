use Rattle.std.proofs.Common.{arith}
use Rattle.index.proofs.Columns.{rows_length}
use Rattle.index.specs.Rows.{columns_of}
use Rattle.index.proofs.row_table.RowTable.get.Goals as goal

pub row-requires : goal.row-requires
row-requires c = omega (arith, c.if-position-self.true, rows_length (columns_of c.args.self.now) c.args.self.now.count)

pub returns-then-position-self : goal.returns-then-position-self
returns-then-position-self c = (omega (arith, c.if-position-self.true, rows_length (columns_of c.args.self.now) c.args.self.now.count), c.row.ensures)

pub returns-else-position-self : goal.returns-else-position-self
returns-else-position-self c = omega (arith, c.if-position-self.false, rows_length (columns_of c.args.self.now) c.args.self.now.count)
