use Rattle.std.proofs.Common.{◌++◌, sym, arith, length-append}
use Rattle.format.specs.Numbers.{be_8, be_4}
use Rattle.format.specs.Layout.{label_front, offset_at, size_at, row_check_at, row_front, row_bytes}
use Rattle.format.proofs.Bytes.{put_next, put_sealed, put_all}
use Rattle.format.proofs.Rows.{length_front, length_row_front, length_row}
use Rattle.pages.proofs.row.write_row.Goals as goal

pub returns : goal.returns
returns c =
    let row = c.args.row.now in
    let k = c.args.key.now in
    let w = c.args.layout.limits.width in
    let h = c.requires.key in
    let front = label_front c.args.label k in
    let l = length_front c.args.label w k h in
    let e1 = put_next row 0 (offset_at w) front (be_8 c.args.offset) (omega (arith, l)) (omega arith) in
    let e2 = put_next row 0 (size_at w) (front ++ be_8 c.args.offset) (be_4 c.args.size) (simp length-append (omega (arith, l))) (omega arith) in
    let f = put_sealed row 0 (row_check_at w) (row_check_at w) (row_front c.args.label k c.args.offset c.args.size) (sym (length_row_front c.args.label w k c.args.offset c.args.size h)) (omega arith) (omega arith) in
    let whole = put_all row (row_bytes c.args.label k c.args.offset c.args.size) (omega (arith, length_row c.args.label w k c.args.offset c.args.size h)) in
    cc
