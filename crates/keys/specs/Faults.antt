-- The refusals of the key layer, each by its five parts.
--   parts_of f    number, layer, section, position and amount of the refusal f
use Rattle.keys.specs.declared.fault.FaultParts.{FaultParts}
use Rattle.keys.specs.declared.fault.KeyFault.{KeyFault}
use Rattle.keys.specs.declared.fault.KeyFault.TheVariants.{NotAKey, StoredKey}

abbrev pub parts_of : KeyFault → FaultParts
parts_of (NotAKey a) = record { number = 17; layer = 1; section = 0; position = 0; amount = a }
parts_of (StoredKey s p) = record { number = 6; layer = 1; section = s; position = p; amount = 0 }
