-- Byte pages as the code holds them, seen as plain data.
--   view r   the limits, the floor and both slices
use Rattle.format.specs.State.{View}
use Rattle.pages.specs.declared.raw.Raw.{Raw}

abbrev pub view : Raw → View
view r = record { limits = r.layout.limits; floor = r.floor; entries = r.entries.now; values = r.values.now }
