use Rattle.std.proofs.Common.{sym}
use Rattle.index.proofs.Columns.{rows_length}
use Rattle.index.specs.Rows.{columns_of}
use Rattle.index.proofs.row_table.RowTable.len.Goals as goal

pub returns-clause-value : goal.returns-clause-value
returns-clause-value c = sym (rows_length (columns_of c.args.self.now) c.args.self.now.count)
