use Rattle.std.proofs.Common.{arith}
use Rattle.format.specs.Numbers.{be_8}
use Rattle.format.proofs.Bytes.{put_next}
use Rattle.pages.proofs.row.write_front.Goals as goal

pub returns : goal.returns
returns c =
    let e = put_next c.args.row.now 0 8 (be_8 c.args.label.number) c.args.key.now (omega arith) (omega arith) in
    cc
