-- Laws of chunk and put, and of equal parts laid side by side. Assumes nothing.
use Rattle.std.proofs.Common.{◌≡◌, ℕ, ◌+◌, ◌*◌, ◌<◌, ◌≤◌, List, length, mul-le-mul_right, add-mul, one-mul, arith, rules}
use Rattle.std.proofs.lemmas.List.{places, same_lists}
use Rattle.journal.specs.Bytes.{chunk, put}

pub length_chunk : (xs : List ℕ) (a n : ℕ) → a + n ≤ length xs → length (chunk xs a n) ≡ n
unfolding chunk
length_chunk xs a n h = search (rules, places)

pub length_put : (xs : List ℕ) (a : ℕ) (ys : List ℕ) → a + length ys ≤ length xs → length (put xs a ys) ≡ length xs
unfolding put
length_put xs a ys h = search (rules, places)

-- What was written, what lies before it, and what lies behind it.
pub chunk_put_same : (xs : List ℕ) (a : ℕ) (ys : List ℕ) → a + length ys ≤ length xs → chunk (put xs a ys) a (length ys) ≡ ys
unfolding put chunk
chunk_put_same xs a ys h = same_lists _ _ (search (rules, places)) (λ k d m. grind (arith, places))

pub chunk_put_before : (xs : List ℕ) (a : ℕ) (ys : List ℕ) (b n : ℕ) → a + length ys ≤ length xs → b + n ≤ a → chunk (put xs a ys) b n ≡ chunk xs b n
unfolding put chunk
chunk_put_before xs a ys b n h l = same_lists _ _ (search (rules, places)) (λ k d m. grind (arith, places))

pub chunk_put_after : (xs : List ℕ) (a : ℕ) (ys : List ℕ) (b n : ℕ) → a + length ys ≤ length xs → a + length ys ≤ b → chunk (put xs a ys) b n ≡ chunk xs b n
unfolding put chunk
chunk_put_after xs a ys b n h l = same_lists _ _ (search (rules, places)) (λ k d m. grind (arith, places))

-- The part r of c parts of x ends within them all.
pub step_le : (r c x : ℕ) → r < c → r * x + x ≤ c * x
step_le r c x h = let m : (r + 1) * x ≤ c * x = mul-le-mul_right x (omega arith) in omega (arith, m, add-mul r 1 x, one-mul x)
