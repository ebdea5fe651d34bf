-- Hexadecimal digits, of either case.
use Rattle.std.specs.Prelude.{ℕ, ◌+◌, ◌-◌, Bool, cond, ◌&&◌, Some, None, Option, nat_le}

abbrev pub between : ℕ → ℕ → ℕ → Bool
between low high b = nat_le low b && nat_le b high

-- 48 is '0', 97 is 'a', 65 is 'A'
abbrev pub digit_of : ℕ → Option ℕ
digit_of b =
    cond (between 48 57 b) (Some (b - 48))
    (cond (between 97 102 b) (Some (b - 97 + 10))
    (cond (between 65 70 b) (Some (b - 65 + 10)) None))
