use Rattle.std.proofs.Common.{is_ok, ap, arith}
use Rattle.archive_layout.proofs.Founds.{spot_none, spot_other, spot_here, no_row}
use Rattle.archive_layout.proofs.Reading.{read_so, read_entry, read_refused}
use Rattle.archive.proofs.spots.spot_at.Goals as goal

pub returns-in_default : goal.returns-in_default
returns-in_default g c =
    let p = c.args.place in
    read_so (read_refused c.read_entry.ensures) (λ m e law homed.
    spot_none c.args.size m p law homed c.section_of-start.result c.section_of-start.ensures (no_row m c.section_of-start.result p.position 32 c.read_entry.result law (omega arith) e (ap is_ok c.in_default.is)))

pub returns-then-entry-place : goal.returns-then-entry-place
returns-then-entry-place g c =
    read_so (read_entry c.read_entry.ensures) (λ m p law homed.
    spot_other c.args.size m c.args.place law homed c.section_of-start.result c.section_of-start.ensures c.in-Ok.entry _ (p law c.in-Ok.entry c.in-Ok.is) c.if-entry-place.true)

pub returns : goal.returns
returns g c =
    read_so (read_entry c.read_entry.ensures) (λ m p law homed.
    spot_here c.args.size m c.args.place law homed c.section_of-start.result c.section_of-start.ensures c.in-Ok.entry _ (p law c.in-Ok.entry c.in-Ok.is) c.if-entry-place.false)
