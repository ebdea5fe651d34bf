-- Digests: any 32 bytes are one.
use Rattle.std.specs.Prelude.{ℕ, List, None, Option}
use Rattle.keys.specs.Reading.{of_width}

abbrev pub flaw : List ℕ → Option ℕ
flaw xs = of_width 32 None xs
