-- FNV-1a. For each byte: exclusive or, then a product with the prime, of which the low bits stay.
use Rattle.std.specs.Prelude.{ℕ, ◌*◌, ◌%◌, ◌^◌, List, fold, bit_xor}

abbrev pub step_32 : ℕ → ℕ → ℕ
step_32 h b = (bit_xor h b * 16777619) % 2 ^ 32

abbrev pub fnv_1a_32 : List ℕ → ℕ
fnv_1a_32 bytes = fold step_32 2166136261 bytes
