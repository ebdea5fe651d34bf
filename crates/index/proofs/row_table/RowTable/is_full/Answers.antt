use Rattle.std.proofs.Common.{eqb, ℕ, sym, ap, arith}
use Rattle.index.proofs.Columns.{rows_length}
use Rattle.index.specs.Rows.{columns_of}
use Rattle.index.proofs.row_table.RowTable.is_full.Goals as goal

pub returns-clause-value : goal.returns-clause-value
returns-clause-value c = ap (λ (n : ℕ). eqb n 128) (sym (rows_length (columns_of c.args.self.now) c.args.self.now.count))

pub returns-clause-fits : goal.returns-clause-fits
returns-clause-fits c = omega (arith, rows_length (columns_of c.args.self.now) c.args.self.now.count, c.args.self.now.few)
