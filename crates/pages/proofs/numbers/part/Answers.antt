use Rattle.std.proofs.Common.{length, ap, ◌∙◌}
use Rattle.journal.proofs.Bytes.{length_chunk}
use Rattle.format.proofs.Bytes.{part_is}
use Rattle.pages.proofs.numbers.part.Goals as goal

pub returns : goal.returns
returns c =
    let e = part_is c.args.bytes.now c.args.at c.args.n in
    record { part = e; long = ap length e ∙ length_chunk c.args.bytes.now c.args.at c.args.n c.requires }
