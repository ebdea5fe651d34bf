use Rattle.std.proofs.Common.{ℕ, ◌+◌, List, ap, ap₂, arith}
use Rattle.format.specs.Layout.{row_bytes, row_place}
use Rattle.format.specs.Decode.{page_place}
use Rattle.format.proofs.Bytes.{put_part}
use Rattle.format.proofs.Rows.{length_row}
use Rattle.pages.specs.Raws.{view}
use Rattle.pages.proofs.raw.Raw.set_row.Goals as goal

pub returns : goal.returns
returns c =
    let l = c.args.self.now.layout.limits in
    let at = c.page_place.result + c.row_place.result in
    let place = ap₂ (λ (a : ℕ) (b : ℕ). a + b) c.page_place.ensures c.row_place.ensures in
    ap (λ (es : List ℕ). record (view c.args.self.now) { entries = es })
    (put_part c.args.self.now.entries.now c.write_row.new.row (row_bytes c.args.label c.args.key.now c.args.offset c.args.size) (page_place l c.args.slot + row_place l.width c.args.row) at (at + c.row_size.result)
    place (omega (arith, place, c.row_size.ensures, length_row c.args.label l.width c.args.key.now c.args.offset c.args.size c.requires.key)) c.write_row.ensures)
