-- Translators: what each makes of key bytes.
--   leading n key      the number of the first n bytes, highest byte first; zeros follow a key that is shorter
--   behind number b    the number and a byte behind it, in 64 bits
--   count_of l         how many bytes l takes
--   translated_by t    what any of the five makes of key bytes
use Rattle.std.specs.Prelude.{ℕ, ◌+◌, ◌*◌, ◌%◌, ◌^◌, List, ◌++◌, take, replicate, fold}
use Rattle.keys.specs.Fnv.{fnv_1a_32}
use Rattle.keys.specs.declared.translator.Leading.{Leading}
use Rattle.keys.specs.declared.translator.Leading.TheVariants.{One, Two, Four, Eight}
use Rattle.keys.specs.declared.translator.AnyTranslator.{AnyTranslator}
use Rattle.keys.specs.declared.translator.AnyTranslator.TheVariants as any

abbrev pub big_endian : List ℕ → ℕ
big_endian bytes = fold (λ a b. a * 256 + b) 0 bytes

-- One byte more in a word of 64 bits, which holds the number of eight bytes.
abbrev pub behind : ℕ → ℕ → ℕ
behind number b = (number * 256 % 2 ^ 64 + b) % 2 ^ 64

abbrev pub leading : ℕ → List ℕ → ℕ
leading n key = big_endian (take n (key ++ replicate n 0))

abbrev pub count_of : Leading → ℕ
count_of One = 1
count_of Two = 2
count_of Four = 4
count_of Eight = 8

abbrev pub translated_by : AnyTranslator → List ℕ → ℕ
translated_by (any.Leading l) = leading (count_of l)
translated_by (any.Fnv f) = fnv_1a_32
