-- Byte pages as a journal.
--   bytes_of p   the limits, the floor and both slices
--   means p      what they mean
--   Fits o p     what holds of them always; they remember nothing of how they began
use Rattle.std.specs.Prelude.{◌≡◌, true}
use Rattle.journal.specs.Meaning.{Meaning}
use Rattle.format.specs.State.{View, meaning_of, is_sound}
use Rattle.pages.specs.declared.pages.Pages.{Pages}
use Rattle.pages.specs.Raws.{view}

abbrev pub bytes_of : Pages → View
bytes_of p = view p.raw

abbrev pub means : Pages → Meaning
means p = meaning_of (bytes_of p)

abbrev pub Fits : Unit {0} → Pages → Type 0
Fits o p = is_sound (bytes_of p) ≡ true
