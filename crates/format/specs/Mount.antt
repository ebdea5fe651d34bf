-- Which bytes a mounting accepts, and the refusal of others.
--   earliest f n         the first answer of f at 0, 1, .. below n
--   found p n            the first number below n that passes p
--   passing p n          how many of 0, 1, .. below n pass p before one does not
--   bears l es k s       whether the page of the slot s has rows and the start k
--   empty_at l es s      whether it has none
--   head_right l p       whether a page's header is right by itself: its check and its row count
--   head_good l es s     whether it is, and no lower slot has its start
--   row_fits w n o b     whether a row's bytes b are right: their check, o as the offset, a size that leaves a length, and an end within n bytes
--   row_good w n p r     whether the row r of a page is right, its value behind those of the rows before it
--   sound_rows l p       how long the longest beginning of a page's rows is that is right throughout
--   slot_fault l es s    the refusal that a slot gives rise to, or None
--   sized l n m          whether the limits are in range, and the slices' lengths n and m are what they ask for
--   mount_fault l es vs  the first refusal of entries es and values vs under the limits l, or None
use Rattle.std.specs.Prelude.{ℕ, zero, suc, ◌+◌, ◌*◌, Bool, true, false, cond, ◌&&◌, List, length, Some, None, Option, ◌==◌, nat_le, nat_lt}
use Rattle.journal.specs.declared.limits.Limits.{Limits}
use Rattle.journal.specs.declared.fault.JournalFault.{JournalFault}
use Rattle.journal.specs.declared.fault.JournalFault.TheVariants.{WrongSizes, BadHeader, BadRow}
use Rattle.journal.specs.Bytes.{chunk}
use Rattle.journal.specs.Meaning.{check_size}
use Rattle.journal.specs.Making.{in_range}
use Rattle.format.specs.Numbers.{be}
use Rattle.format.specs.Layout.{head_check_at, row_check_at, page_size, entry_check}
use Rattle.format.specs.Decode.{page, start_of, count_of, is_free, row_at, offset_of, size_of, used}

-- The first of some, and how far they go.
abbrev pub or_else : {X : Type 0} → Option X → Option X → Option X
or_else (Some x) y = Some x
or_else None y = y

abbrev pub is_none : {X : Type 0} → Option X → Bool
is_none None = true
is_none (Some x) = false

abbrev pub earliest : {X : Type 0} → (ℕ → Option X) → ℕ → Option X
earliest f zero = None
earliest f (suc n) = or_else (earliest f n) (f n)

abbrev pub found : (ℕ → Bool) → ℕ → Option ℕ
found p n = earliest (λ s. cond (p s) (Some s) None) n

abbrev pub passing : (ℕ → Bool) → ℕ → ℕ
passing p zero = zero
passing p (suc n) = cond (passing p n == n) (cond (p n) (suc n) n) (passing p n)

-- Bytes whose check stands at the place n, over all that is before it.
abbrev pub checked_at : List ℕ → ℕ → Bool
checked_at b n = be (chunk b n 4) == entry_check (chunk b 0 n)

-- A header.
abbrev pub bears : Limits → List ℕ → ℕ → ℕ → Bool
bears l es start s = nat_lt 0 (count_of (page l es s)) && start_of (page l es s) == start

abbrev pub empty_at : Limits → List ℕ → ℕ → Bool
empty_at l es s = count_of (page l es s) == 0

unfoldable pub head_right : Limits → List ℕ → Bool
head_right l p = nat_lt 0 (count_of p) && (nat_le (count_of p) l.rows && checked_at p head_check_at)

unfoldable pub head_good : Limits → List ℕ → ℕ → Bool
head_good l es s = head_right l (page l es s) && is_none (found (bears l es (start_of (page l es s))) s)

-- A row.
unfoldable pub row_fits : ℕ → ℕ → ℕ → List ℕ → Bool
row_fits w bytes offset b =
    checked_at b (row_check_at w)
    && (offset_of w b == offset
    && (nat_le check_size (size_of w b)
    && nat_le (offset + size_of w b) bytes))

abbrev pub row_good : ℕ → ℕ → List ℕ → ℕ → Bool
row_good w bytes p r = row_fits w bytes (used w p r) (row_at w p r)

abbrev pub sound_rows : Limits → List ℕ → ℕ
sound_rows l p = passing (row_good l.width l.bytes p) (count_of p)

-- A slot, and all of them.
abbrev pub rows_fault : ℕ → ℕ → ℕ → Option JournalFault
rows_fault s good count = cond (nat_lt good count) (Some (BadRow s good)) None

abbrev pub slot_fault : Limits → List ℕ → ℕ → Option JournalFault
slot_fault l es s =
    cond (is_free (page l es s)) None
    (cond (head_good l es s) (rows_fault s (sound_rows l (page l es s)) (count_of (page l es s))) (Some (BadHeader s)))

unfoldable pub sized : Limits → ℕ → ℕ → Bool
sized l n m = in_range l && (n == l.slots * page_size l.rows l.width && m == l.slots * l.bytes)

abbrev pub mount_fault : Limits → List ℕ → List ℕ → Option JournalFault
mount_fault l es vs = cond (sized l (length es) (length vs)) (earliest (slot_fault l es) l.slots) (Some WrongSizes)
