use Rattle.std.proofs.Common.{sym, arith, ◌<◌}
use Rattle.index.proofs.Columns.{rows_length, rows_at}
use Rattle.index.specs.Rows.{blank, columns_of}
use Rattle.index.proofs.row_table.RowTable.row.Goals as goal

pub bounds-self-at : goal.bounds-self-at
bounds-self-at c = omega (arith, c.requires, rows_length (columns_of c.args.self.now) c.args.self.now.count, c.args.self.now.few)

pub bounds-self-at-2 : goal.bounds-self-at-2
bounds-self-at-2 c = omega (arith, c.requires, rows_length (columns_of c.args.self.now) c.args.self.now.count, c.args.self.now.few)

pub bounds-self-at-3 : goal.bounds-self-at-3
bounds-self-at-3 c = omega (arith, c.requires, rows_length (columns_of c.args.self.now) c.args.self.now.count, c.args.self.now.few)

pub bounds-self-at-4 : goal.bounds-self-at-4
bounds-self-at-4 c = omega (arith, c.requires, rows_length (columns_of c.args.self.now) c.args.self.now.count, c.args.self.now.few)

pub bounds-self-at-5 : goal.bounds-self-at-5
bounds-self-at-5 c = omega (arith, c.requires, rows_length (columns_of c.args.self.now) c.args.self.now.count, c.args.self.now.few)

pub returns : goal.returns
returns c =
    let s = c.args.self.now in
    let p = c.args.position in
    let low : p < s.count = omega (arith, c.requires, rows_length (columns_of s) s.count) in
    sym (rows_at (columns_of s) s.count p blank low)
