-- The kinds of key of the run: any bytes of the width are one.
use Rattle.std.specs.Prelude.{ℕ, List, None, Option}
use Rattle.keys.specs.Reading.{of_width}

abbrev pub tag_flaw : List ℕ → Option ℕ
tag_flaw xs = of_width 1 None xs

abbrev pub triple_flaw : List ℕ → Option ℕ
triple_flaw xs = of_width 3 None xs
