-- How long the slices of byte pages are.
--   sizes_of l   the lengths that the limits l ask for; None where no journal may have them
use Rattle.std.specs.Prelude.{◌*◌, cond, Some, None, Option}
use Rattle.journal.specs.declared.limits.Limits.{Limits}
use Rattle.journal.specs.Making.{in_range}
use Rattle.format.specs.Layout.{page_size}
use Rattle.pages.specs.declared.sizes.Sizes.{Sizes}

abbrev pub sizes_of : Limits → Option Sizes
sizes_of l = cond (in_range l) (Some (record { entries = l.slots * page_size l.rows l.width; values = l.slots * l.bytes })) None
