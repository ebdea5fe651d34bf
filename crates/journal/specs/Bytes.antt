-- Stretches of bytes.
--   chunk xs a n   the n bytes of xs from the place a on
--   put xs a ys    xs with ys written over it from the place a on
use Rattle.std.specs.Prelude.{ℕ, ◌+◌, List, ◌++◌, length, take, drop}

unfoldable pub chunk : List ℕ → ℕ → ℕ → List ℕ
chunk xs a n = take n (drop a xs)

unfoldable pub put : List ℕ → ℕ → List ℕ → List ℕ
put xs a ys = take a xs ++ (ys ++ drop (a + length ys) xs)
