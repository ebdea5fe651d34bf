use Rattle.std.proofs.Common.{length, arith}
use Rattle.format.specs.Layout.{value_bytes}
use Rattle.format.proofs.Bytes.{put_all, put_value, length_value_bytes}
use Rattle.pages.proofs.value.write_value.Goals as goal

pub returns : goal.returns
returns c =
    let v = c.args.value.now in
    let e = put_value c.args.stretch.now 0 (length v) v (omega arith) (omega arith) in
    let whole = put_all c.args.stretch.now (value_bytes v) (omega (arith, length_value_bytes v)) in
    cc
