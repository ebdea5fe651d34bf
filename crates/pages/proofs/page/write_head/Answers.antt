use Rattle.std.proofs.Common.{refl, arith}
use Rattle.format.specs.Numbers.{be_8, be_4}
use Rattle.format.specs.Layout.{head_check_at, head_front, head_bytes}
use Rattle.format.proofs.Bytes.{put_next, put_sealed, put_all}
use Rattle.format.proofs.Grow.{length_head}
use Rattle.pages.proofs.page.write_head.Goals as goal

pub returns : goal.returns
returns c =
    let head = c.args.head.now in
    let e = put_next head 0 8 (be_8 c.args.start) (be_4 c.args.count) refl (omega arith) in
    let f = put_sealed head 0 head_check_at head_check_at (head_front c.args.start c.args.count) refl refl (omega arith) in
    let whole = put_all head (head_bytes c.args.start c.args.count) (omega (arith, length_head c.args.start c.args.count)) in
    cc
