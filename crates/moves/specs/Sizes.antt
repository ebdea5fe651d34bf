-- Sizes and places that the program reckons.
--   pages_for o       the lengths o of a journal's slices, where there are any, or nothing
--   exchanged i at    where the turn at the place i stands once those at `at` and behind it are exchanged
use Rattle.std.specs.Prelude.{ℕ, ◌+◌, cond, Some, None, Option, ◌==◌}
use Rattle.pages.specs.declared.sizes.Sizes.{Sizes}

abbrev pub pages_for : Option Sizes → Sizes
pages_for (Some s) = s
pages_for None = record { entries = 0; values = 0 }

abbrev pub exchanged : ℕ → ℕ → ℕ
exchanged i at = cond (i == at) (i + 1) (cond (i == at + 1) at i)
