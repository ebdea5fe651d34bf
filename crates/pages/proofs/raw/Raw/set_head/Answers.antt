use Rattle.std.proofs.Common.{ℕ, ◌+◌, List, ap, arith}
use Rattle.format.specs.Layout.{head_bytes}
use Rattle.format.specs.Decode.{page_place}
use Rattle.format.proofs.Bytes.{put_part}
use Rattle.format.proofs.Grow.{length_head}
use Rattle.pages.specs.Raws.{view}
use Rattle.pages.proofs.raw.Raw.set_head.Goals as goal

pub returns : goal.returns
returns c =
    let at = c.page_place-at.result in
    ap (λ (es : List ℕ). record (view c.args.self.now) { entries = es })
    (put_part c.args.self.now.entries.now c.write_head.new.head (head_bytes c.args.start c.args.count) (page_place c.args.self.now.layout.limits c.args.slot) at (at + 16)
    c.page_place-at.ensures (omega (arith, c.page_place-at.ensures, length_head c.args.start c.args.count)) c.write_head.ensures)
