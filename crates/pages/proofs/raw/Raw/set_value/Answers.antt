use Rattle.std.proofs.Common.{ℕ, ◌+◌, List, length, ap, arith}
use Rattle.format.specs.Layout.{value_bytes}
use Rattle.format.specs.Decode.{vals_place}
use Rattle.format.proofs.Bytes.{put_part, length_value_bytes}
use Rattle.pages.specs.Raws.{view}
use Rattle.pages.proofs.raw.Raw.set_value.Goals as goal

pub returns : goal.returns
returns c =
    let at = c.values_place.result + c.args.offset in
    let place = ap (λ (a : ℕ). a + c.args.offset) c.values_place.ensures in
    ap (λ (vs : List ℕ). record (view c.args.self.now) { values = vs })
    (put_part c.args.self.now.values.now c.write_value.new.stretch (value_bytes c.args.value.now) (vals_place c.args.self.now.layout.limits c.args.slot + c.args.offset) at (at + (length c.args.value.now + 4))
    place (omega (arith, place, length_value_bytes c.args.value.now)) c.write_value.ensures)
