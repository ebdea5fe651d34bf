-- ISO 6346: which 11 bytes are a box number. Any bytes have counts and a sum; the flaw says whether they are a number.
--   categories        the letters allowed at place 3
--   letter_counts     what A to Z count: from 10 on, without the multiples of 11
--   count b           what the byte b counts
--   check_sum xs      the sum over places 0 to 9 of count × 2^place
--   digit_of r        the check digit of a remainder by 11, where there is one
--   place_ok xs p     the place p of xs holds what it may
--   flaw xs           none for a box number; else 11 for a wrong length, or the first bad place
use Rattle.std.specs.Prelude.{◌≡◌, ℕ, zero, suc, ◌+◌, ◌-◌, ◌*◌, ◌%◌, ◌^◌, ◌<◌, Bool, true, false, cond, ◌&&◌, ◌||◌, List, [], ◌∷◌, Some, None, codes, Option, ◌==◌, nat_le, nat_lt, slice_index}
use Rattle.keys.specs.Reading.{of_width}

abbrev pub is_letter : ℕ → Bool
is_letter b = nat_le 65 b && nat_le b 90

abbrev pub is_digit : ℕ → Bool
is_digit b = nat_le 48 b && nat_le b 57

abbrev pub categories : List ℕ
categories = codes "U"

abbrev pub among : ℕ → List ℕ → Bool
among b [] = false
among b (x ∷ xs) = b == x || among b xs

abbrev pub is_category : ℕ → Bool
is_category b = among b categories

-- The numbers from c on, without the multiples of 11: the first n of them.
abbrev pub skip_eleven : ℕ → ℕ
skip_eleven c = cond (c % 11 == 0) (c + 1) c

abbrev pub counts_from : ℕ → ℕ → List ℕ
counts_from c zero = []
counts_from c (suc n) = skip_eleven c ∷ counts_from (skip_eleven c + 1) n

abbrev pub letter_counts : List ℕ
letter_counts = counts_from 10 26

-- A digit counts as itself.
abbrev pub count : ℕ → ℕ
count b = cond (is_digit b) (b - 48) (cond (is_letter b) (slice_index letter_counts (b - 65)) 0)

-- The sum over the first n places.
abbrev pub sum_below : List ℕ → ℕ → ℕ
sum_below xs zero = 0
sum_below xs (suc p) = sum_below xs p + count (slice_index xs p) * 2 ^ p

abbrev pub check_sum : List ℕ → ℕ
check_sum xs = sum_below xs 10

-- Every remainder has a digit, and 10 has the digit 0.
abbrev pub digit_of : ℕ → Option ℕ
digit_of r = Some (cond (r == 10) 0 r)

-- Whether a byte is the digit, written.
abbrev pub shows : Option ℕ → ℕ → Bool
shows None b = false
shows (Some d) b = b == 48 + d

abbrev pub place_ok : List ℕ → ℕ → Bool
place_ok xs p =
    cond (nat_lt p 3) (is_letter (slice_index xs p))
    (cond (p == 3) (is_category (slice_index xs p))
    (cond (nat_lt p 10) (is_digit (slice_index xs p))
    (shows (digit_of (check_sum xs % 11)) (slice_index xs p))))

-- The first bad one of n places from p on.
abbrev pub first_bad : List ℕ → ℕ → ℕ → Option ℕ
first_bad xs p zero = None
first_bad xs p (suc n) = cond (place_ok xs p) (first_bad xs (p + 1) n) (Some p)

-- The same in a statement: each place before it is right, and it is bad itself; or all are right.
abbrev pub RightBelow : List ℕ → ℕ → Type 0
RightBelow xs p = (q : ℕ) → q < p → place_ok xs q ≡ true

abbrev pub FirstBad : List ℕ → Option ℕ → Type 0
FirstBad xs None = RightBelow xs 11
FirstBad xs (Some p) = (p < 11) × (place_ok xs p ≡ false) × RightBelow xs p

abbrev pub flaw : List ℕ → Option ℕ
flaw xs = of_width 11 (first_bad xs 0 11) xs
