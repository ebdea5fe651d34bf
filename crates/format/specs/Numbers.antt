-- Numbers in bytes, the highest byte first.
--   be bs          the number that the bytes bs write
--   be_4 n, be_8 n the four and the eight bytes that write n
use Rattle.std.specs.Prelude.{ℕ, ◌/◌, ◌%◌, List, [], ◌∷◌}
use Rattle.keys.specs.Translators.{big_endian}

abbrev pub be : List ℕ → ℕ
be bs = big_endian bs

abbrev pub be_4 : ℕ → List ℕ
be_4 n = (n / 16777216 % 256) ∷ (n / 65536 % 256) ∷ (n / 256 % 256) ∷ (n % 256) ∷ []

abbrev pub be_8 : ℕ → List ℕ
be_8 n = (n / 72057594037927936 % 256) ∷ (n / 281474976710656 % 256) ∷ (n / 1099511627776 % 256) ∷ (n / 4294967296 % 256) ∷ be_4 n
