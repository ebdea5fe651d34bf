-- That big-endian bytes give back the number they write, and what a slice's bytes write. Assumes nothing.
use Rattle.std.proofs.Common.{◌≡◌, ℕ, zero, suc, ◌+◌, ◌*◌, ◌-◌, ◌^◌, ◌<◌, ◌≤◌, List, [], ◌∷◌, length, get_or, fold, refl, add-zero, zero-add, add-one, pow-suc, arith}
use lib.Bits.{bit_xor}
use Rattle.std.proofs.lemmas.Nat.{mod_below, from_be_bytes-to_be_bytes_4, from_be_bytes-to_be_bytes_8}
use Rattle.std.proofs.lemmas.List.{drop_more}
use Rattle.std.specs.Int.{w64, from_be_bytes}
use Rattle.keys.specs.Fnv.{step_32}
use Rattle.journal.specs.Bytes.{chunk, put}
use Rattle.format.specs.Numbers.{be, be_4, be_8}
use Rattle.format.specs.Layout.{entry_check, value_check, value_seal}

pub be_be_4 : (v : ℕ) → v < 2 ^ 32 → be (be_4 v) ≡ v
be_be_4 v h = omega (arith, from_be_bytes-to_be_bytes_4 v h)

pub be_be_8 : (v : ℕ) → v < 2 ^ 64 → be (be_8 v) ≡ v
be_be_8 v h = omega (arith, from_be_bytes-to_be_bytes_8 v h)

-- Eight bytes at most, behind zeros that fill them up to eight.
pub be_filled : (xs : List ℕ) → length xs ≤ 8 → from_be_bytes w64 (put (0 ∷ 0 ∷ 0 ∷ 0 ∷ 0 ∷ 0 ∷ 0 ∷ 0 ∷ []) (8 - length xs) xs) ≡ be xs
unfolding put
be_filled [] h = refl
be_filled (a ∷ []) h = omega arith
be_filled (a ∷ b ∷ []) h = omega arith
be_filled (a ∷ b ∷ c ∷ []) h = omega arith
be_filled (a ∷ b ∷ c ∷ d ∷ []) h = omega arith
be_filled (a ∷ b ∷ c ∷ d ∷ e ∷ []) h = omega arith
be_filled (a ∷ b ∷ c ∷ d ∷ e ∷ f ∷ []) h = omega arith
be_filled (a ∷ b ∷ c ∷ d ∷ e ∷ f ∷ g ∷ []) h = omega arith
be_filled (a ∷ b ∷ c ∷ d ∷ e ∷ f ∷ g ∷ i ∷ []) h = omega arith
be_filled (a ∷ b ∷ c ∷ d ∷ e ∷ f ∷ g ∷ i ∷ j ∷ more) h = absurd (omega arith)

-- The bytes of a slice, one by one.
chunk_none : (xs : List ℕ) (a : ℕ) → chunk xs a 0 ≡ []
unfolding chunk
chunk_none xs a = refl

chunk_more : (xs : List ℕ) (a n : ℕ) → a < length xs → chunk xs a (suc n) ≡ get_or xs a 0 ∷ chunk xs (a + 1) n
unfolding chunk
chunk_more xs a n h = rw (drop_more xs a 0 h) refl

below_from : (n a k m : ℕ) (xs : List ℕ) → a + n ≤ length xs → ((i : ℕ) → get_or xs i 0 < 256) → k < 256 ^ m → fold (λ x y. x * 256 + y) k (chunk xs a n) < 256 ^ (m + n)
below_from zero a k m xs h b l = rw (chunk_none xs a, add-zero m) l
below_from (suc n) a k m xs h b l =
    let q = b a in
    let e : m + suc n ≡ m + 1 + n = omega arith in
    let w : k * 256 + get_or xs a 0 < 256 ^ (m + 1) = rw (add-one m, pow-suc 256 m) (omega arith) in
    rw (chunk_more xs a n (omega arith), e) (below_from n (a + 1) (k * 256 + get_or xs a 0) (m + 1) xs (omega arith) b w)

pub be_chunk_below : (n a : ℕ) (xs : List ℕ) → a + n ≤ length xs → ((i : ℕ) → get_or xs i 0 < 256) → be (chunk xs a n) < 256 ^ n
be_chunk_below n a xs h b = rw (zero-add n) at (below_from n a 0 0 xs h b (omega arith))

-- The checks are numbers of 32 bits, so that their bytes give them back.
step_below : (h : ℕ) (bs : List ℕ) → h < 2 ^ 32 → fold step_32 h bs < 2 ^ 32
step_below h [] l = l
step_below h (b ∷ bs) l = step_below (step_32 h b) bs (mod_below (bit_xor h b * 16777619) (2 ^ 32) (omega arith))

entry_check_below : (bs : List ℕ) → entry_check bs < 2 ^ 32
unfolding entry_check
entry_check_below bs = step_below 2166136261 bs (omega arith)

value_check_below : (bs : List ℕ) → value_check bs < 2 ^ 32
unfolding value_check
value_check_below bs = step_below 2166136261 bs (omega arith)

pub be_entry_check : (bs : List ℕ) → be (be_4 (entry_check bs)) ≡ entry_check bs
be_entry_check bs = be_be_4 (entry_check bs) (entry_check_below bs)

pub be_value_check : (bs : List ℕ) → be (value_seal bs) ≡ value_check bs
be_value_check bs = be_be_4 (value_check bs) (value_check_below bs)
