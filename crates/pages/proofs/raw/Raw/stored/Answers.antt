use Rattle.std.proofs.Common.{ℕ, ◌+◌, ap, ◌∙◌}
use Rattle.format.specs.Decode.{vals_place}
use Rattle.format.proofs.Bytes.{chunk_inside}
use Rattle.pages.proofs.raw.Raw.stored.Goals as goal

pub returns-clause-stored : goal.returns-clause-stored
returns-clause-stored c =
    let l = c.args.self.now.layout.limits in
    let vs = c.args.self.now.values.now in
    c.part.ensures.part ∙ chunk_inside vs (vals_place l c.args.slot) l.bytes c.args.offset c.args.size _ (ap (λ (a : ℕ). a + c.args.offset) c.values_place.ensures) c.requires.room
