use Rattle.std.proofs.Common.{◌<◌, length, refl, ap, ◌∙◌, arith}
use Rattle.std.proofs.lemmas.List.{length_push}
use Rattle.index.proofs.Columns.{rows_length, pushed}
use Rattle.index.specs.Rows.{columns_of, held}
use Rattle.index.proofs.row_table.RowTable.push.Goals as goal

pub returns-clause-items : goal.returns-clause-items
returns-clause-items c =
    let s = c.args.self.now in
    let room : s.count < 128 = omega (arith, c.requires.room, rows_length (columns_of s) s.count) in
    pushed (columns_of s) _ s.count c.args.row (record { codes = omega arith; offsets = omega arith; buckets = omega arith; next = omega arith; below = omega arith })
    (record { codes = refl; offsets = refl; buckets = refl; next = refl; below = refl })

pub returns-clause-len : goal.returns-clause-len
returns-clause-len c = ap length (returns-clause-items c) ∙ length_push (held c.args.self.now) c.args.row
