-- More laws of chunk and put: parts of parts, writes inside a part, and writes with their check behind. Assumes nothing.
use Rattle.std.proofs.Common.{◌≡◌, ℕ, ◌+◌, ◌-◌, ◌≤◌, List, [], ◌++◌, length, take, drop, sym, refl, ap, arith, length-append, drop-drop, rules}
use Rattle.std.proofs.lemmas.List.{places, same_lists, take_at, drop_at, append-nil}
use borrow.Rule.Slice.PartMut.{put_mid}
use Rattle.journal.specs.Bytes.{chunk, put}
use Rattle.journal.specs.Meaning.{check_size}
use Rattle.journal.proofs.Bytes.{chunk_put_same}
use Rattle.format.specs.Numbers.{be_4}
use Rattle.format.specs.Layout.{entry_check, value_seal, sealed, value_bytes}

-- A write inside a chunk, and a part of a part.
pub chunk_put_in : (xs : List ℕ) (a : ℕ) (ys : List ℕ) (b n : ℕ) → b + a + length ys ≤ b + n → b + n ≤ length xs → chunk (put xs (b + a) ys) b n ≡ put (chunk xs b n) a ys
unfolding put chunk
chunk_put_in xs a ys b n h l = same_lists _ _ (search (rules, places)) (λ k d m. grind (arith, places))

chunk_chunk : (xs : List ℕ) (a n b m : ℕ) → b + m ≤ n → chunk (chunk xs a n) b m ≡ chunk xs (a + b) m
unfolding chunk
chunk_chunk xs a n b m h = same_lists _ _ (search (rules, places)) (λ k d m. grind (arith, places))

pub chunk_inside : (xs : List ℕ) (a n b m c : ℕ) → c ≡ a + b → b + m ≤ n → chunk xs c m ≡ chunk (chunk xs a n) b m
chunk_inside xs a n b m c e h = rw e (sym (chunk_chunk xs a n b m h))

-- A slice's part, as code cuts it.
cut : (a n : ℕ) → a + n - a ≡ n
cut a n = omega arith

pub part_is : (xs : List ℕ) (a n : ℕ) → take (a + n - a) (drop a xs) ≡ chunk xs a n
unfolding chunk
part_is xs a n = ap (λ k. take k (drop a xs)) (cut a n)

pub front_is : (xs : List ℕ) (n : ℕ) → take n xs ≡ chunk xs 0 n
unfolding chunk
front_is xs n = refl

-- A write to the front of a buffer.
pub put_front : (xs ys : List ℕ) (n : ℕ) → length ys ≡ n → put xs 0 ys ≡ ys ++ drop n xs
unfolding put
put_front xs ys n e = ap (λ k. ys ++ drop k xs) (omega (arith, e))

-- A write to a slice's part, as code makes it, and a write of the whole.
pub put_part : (xs ys zs : List ℕ) (a b e : ℕ) → b ≡ a → e ≡ a + length zs → ys ≡ zs → put_mid b (e - b) xs ys ≡ put xs a zs
unfolding put
put_part xs ys zs a b e ha he h = rw (ha, he, h, cut a (length zs)) (ap (λ rest. take a xs ++ (zs ++ rest)) (drop-drop (length zs) a xs))

pub put_all : (xs ys : List ℕ) → length ys ≡ length xs → put xs 0 ys ≡ ys
unfolding put
put_all xs ys e = same_lists _ _ (search (rules, places)) (λ k d m. grind (arith, places))

-- One write behind another is one write.
put_join : (xs : List ℕ) (a : ℕ) (ys zs : List ℕ) → a + length ys + length zs ≤ length xs → put (put xs a ys) (a + length ys) zs ≡ put xs a (ys ++ zs)
unfolding put
put_join xs a ys zs h = same_lists _ _ (search (rules, places)) (λ k d m. grind (arith, places))

pub put_next : (xs : List ℕ) (a b : ℕ) (ys zs : List ℕ) → b ≡ a + length ys → b + length zs ≤ length xs → put (put xs a ys) b zs ≡ put xs a (ys ++ zs)
put_next xs a b ys zs e h = rw e (put_join xs a ys zs (omega arith))

pub chunk_put_whole : (xs : List ℕ) (a n : ℕ) (ys : List ℕ) → n ≡ length ys → a + n ≤ length xs → chunk (put xs a ys) a n ≡ ys
chunk_put_whole xs a n ys e h = rw e (chunk_put_same xs a ys (omega arith))

pub chunk_front : (ys zs all : List ℕ) → all ≡ ys ++ zs → (n : ℕ) → n ≡ length ys → chunk all 0 n ≡ ys
unfolding chunk
chunk_front ys zs all e n f = rw (e, f) (take_at ys zs (length ys) refl)

pub chunk_mid : (xs ys zs all : List ℕ) → all ≡ xs ++ (ys ++ zs) → (a n : ℕ) → a ≡ length xs → n ≡ length ys → chunk all a n ≡ ys
unfolding chunk
chunk_mid xs ys zs all e a n f g = rw (e, f, g, drop_at xs (ys ++ zs) (length xs) refl) (take_at ys zs (length ys) refl)

-- Bytes with the check of an entry behind them.
pub length_sealed : (ys : List ℕ) → length (sealed ys) ≡ length ys + 4
unfolding sealed
length_sealed ys = simp length-append

pub put_sealed : (xs : List ℕ) (a b n : ℕ) (ys : List ℕ) → n ≡ length ys → b ≡ a + n → b + 4 ≤ length xs → put (put xs a ys) b (be_4 (entry_check (chunk (put xs a ys) a n))) ≡ put xs a (sealed ys)
unfolding sealed
put_sealed xs a b n ys e f h =
    rw (chunk_put_whole xs a n ys e (omega arith)) (put_next xs a b ys (be_4 (entry_check ys)) (omega arith) (omega arith))

pub chunk_sealed_front : (ys : List ℕ) (n : ℕ) → n ≡ length ys → chunk (sealed ys) 0 n ≡ ys
unfolding sealed
chunk_sealed_front ys n e = chunk_front ys (be_4 (entry_check ys)) _ refl n e

pub chunk_sealed_check : (ys : List ℕ) (n : ℕ) → n ≡ length ys → chunk (sealed ys) n 4 ≡ be_4 (entry_check ys)
unfolding sealed
chunk_sealed_check ys n e = chunk_mid ys (be_4 (entry_check ys)) [] _ (simp append-nil) n 4 e refl

-- A value with its check behind it.
pub length_value_bytes : (ys : List ℕ) → length (value_bytes ys) ≡ length ys + check_size
unfolding value_bytes
length_value_bytes ys = simp length-append

pub put_value : (xs : List ℕ) (a b : ℕ) (ys : List ℕ) → b ≡ a + length ys → b + check_size ≤ length xs → put (put xs a ys) b (value_seal ys) ≡ put xs a (value_bytes ys)
unfolding value_bytes
put_value xs a b ys e h = put_next xs a b ys (value_seal ys) e h

pub chunk_value_front : (ys : List ℕ) (n : ℕ) → n ≡ length ys → chunk (value_bytes ys) 0 n ≡ ys
unfolding value_bytes
chunk_value_front ys n e = chunk_front ys (value_seal ys) _ refl n e

pub chunk_value_check : (ys : List ℕ) (n : ℕ) → n ≡ length ys → chunk (value_bytes ys) n check_size ≡ value_seal ys
unfolding value_bytes
chunk_value_check ys n e = chunk_mid ys (value_seal ys) [] _ (simp append-nil) n check_size e refl
