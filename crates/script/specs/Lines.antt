-- Lines of the input, and which bytes are shown as they are.
--   ends_in n xs    whether the last byte of xs is n
--   without n xs    xs without its last byte, where that is n
--   content xs      a line without what ends it: a line feed, and a carriage return before that
--   spaces xs       whether there are spaces alone
--   is_silent xs    whether a line is passed over: a comment, or spaces alone
--   is_plain b      whether a byte is shown as it is: printable ASCII, and no backslash
use Rattle.std.specs.Prelude.{ℕ, ◌-◌, Bool, false, cond, not, ◌&&◌, ◌||◌, List, length, take, Some, None, Option, ◌==◌, nat_le}
use Rattle.std.specs.List.{list_all, slice_get}

abbrev pub is_that : Option ℕ → ℕ → Bool
is_that None n = false
is_that (Some x) n = x == n

abbrev pub ends_in : ℕ → List ℕ → Bool
ends_in n xs = is_that (slice_get xs (length xs - 1)) n

abbrev pub without : ℕ → List ℕ → List ℕ
without n xs = cond (ends_in n xs) (take (length xs - 1) xs) xs

-- 10 is the line feed, 13 the carriage return.
abbrev pub content : List ℕ → List ℕ
content xs = without 13 (without 10 xs)

-- 32 is the space, 35 is '#'.
abbrev pub spaces : List ℕ → Bool
spaces xs = list_all (λ b. b == 32) xs

abbrev pub is_silent : List ℕ → Bool
is_silent xs = is_that (slice_get xs 0) 35 || spaces xs

-- 92 is the backslash.
abbrev pub is_plain : ℕ → Bool
is_plain b = nat_le 32 b && (nat_le b 126 && not (b == 92))
