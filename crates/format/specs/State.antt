-- Byte pages as plain data, and what each call makes of them.
--   View                  limits, floor, entries and values
--   page_in, vals_in, row_in, count_in, start_in, used_in   the parts of a slot
--   pages_in v            the section of each slot
--   meaning_of v          what the bytes mean
--   offered l es vs       the bytes es and vs under the limits l, their floor 0
--   decoded l es vs       what they mean
--   granted l es vs       the limits that a making gives: l, or 0 where a mounting is refused
--   mounted l es vs       what a making gives: the same bytes under the limits granted
--   remounted v           the same bytes and limits, with floor 0; unfloored m is the same of a meaning
--   Lasts v               mounting what v holds gives remounted v
--   is_sound v            what holds of byte pages always: a mounting accepts them, or their limits are 0; no kept start is below the floor
--   located v k p         the slot of the row at the position p of the section k, or None
--   first_from            the first start at or above a number among the first slots, or None
--   Takes v t k           a row of the section k goes to the slot t: the section lies there, or nowhere and the slot is free
--   stored v t ..         one row more in the slot t: a row, a header and a value with its check, and no other byte
--   Leaves v v' .. r      what an append with the answer r makes of v; which free slot a new section takes is left open
--   below l es min s      whether a prune by min takes the section of the slot s
--   pruned_entries        the entries once the first slots are pruned: the headers of sections below min zeroed, and no other byte
--   gone_below            whether one of the first slots went
--   pruned_by v min       byte pages after a prune by min
use Rattle.std.specs.Prelude.{◌≡◌, ℕ, zero, suc, ◌+◌, ◌^◌, ◌<◌, max, Bool, true, false, cond, ◌&&◌, ◌||◌, ◌⊎◌, List, length, Some, None, Ok, Err, Option, Result, ◌==◌, nat_le, nat_lt}
use Rattle.journal.specs.declared.limits.Limits.{Limits}
use Rattle.journal.specs.declared.row.Label.{Label}
use Rattle.journal.specs.declared.fault.JournalFault.{JournalFault}
use Rattle.journal.specs.Bytes.{put}
use Rattle.journal.specs.Meaning.{Meaning, cost_of}
use Rattle.journal.specs.Calls.{or_keep}
use Rattle.journal.specs.Making.{nothing}
use Rattle.journal.specs.Slots.{Pages, kept_in, nearest, goes}
use Rattle.format.specs.Layout.{row_place, row_bytes, head_bytes, value_bytes, free_head}
use Rattle.format.specs.Decode.{page_place, vals_place, page, vals, start_of, count_of, is_free, row_at, used, section_of}
use Rattle.format.specs.Mount.{is_none, found, bears, mount_fault}

pub record View : Type 0 where
  pub limits : Limits
  pub floor : ℕ
  pub entries : List ℕ
  pub values : List ℕ

abbrev pub page_in : View → ℕ → List ℕ
page_in v s = page v.limits v.entries s

abbrev pub vals_in : View → ℕ → List ℕ
vals_in v s = vals v.limits v.values s

abbrev pub pages_in : View → Pages
pages_in v s = section_of v.limits.width (page_in v s) (vals_in v s)

abbrev pub meaning_of : View → Meaning
meaning_of v = record { limits = v.limits; floor = v.floor; sections = kept_in (pages_in v) v.limits.slots }

abbrev pub row_in : View → ℕ → ℕ → List ℕ
row_in v s r = row_at v.limits.width (page_in v s) r

abbrev pub count_in : View → ℕ → ℕ
count_in v s = count_of (page_in v s)

abbrev pub start_in : View → ℕ → ℕ
start_in v s = start_of (page_in v s)

abbrev pub used_in : View → ℕ → ℕ
used_in v s = used v.limits.width (page_in v s) (count_in v s)

-- Mounting.
abbrev pub offered : Limits → List ℕ → List ℕ → View
offered l es vs = record { limits = l; floor = 0; entries = es; values = vs }

abbrev pub decoded : Limits → List ℕ → List ℕ → Meaning
decoded l es vs = meaning_of (offered l es vs)

abbrev pub granted : Limits → List ℕ → List ℕ → Limits
granted l es vs = or_keep (mount_fault l es vs) l nothing

unfoldable pub mounted : Limits → List ℕ → List ℕ → View
mounted l es vs = offered (granted l es vs) es vs

abbrev pub unfloored : Meaning → Meaning
unfloored m = record { limits = m.limits; floor = 0; sections = m.sections }

abbrev pub remounted : View → View
remounted v = offered v.limits v.entries v.values

-- The same bytes mounted again, wherever they then lie, give the same journal with floor 0.
abbrev pub Lasts : View → Type 0
Lasts v = mounted v.limits v.entries v.values ≡ remounted v

-- A start is a number of 64 bits.
abbrev pub starts_good : View → ℕ → Bool
starts_good v zero = true
starts_good v (suc n) = starts_good v n && (count_in v n == 0 || (nat_le v.floor (start_in v n) && nat_lt (start_in v n) (2 ^ 64)))

unfoldable pub no_limits : Limits → Bool
no_limits l = l.slots == 0 && (l.rows == 0 && (l.bytes == 0 && l.width == 0))

unfoldable pub is_sound : View → Bool
is_sound v = (no_limits v.limits || is_none (mount_fault v.limits v.entries v.values)) && starts_good v v.limits.slots

-- The slot of the row at a position of the section that starts at a number.
abbrev pub here_if : View → ℕ → Option ℕ → Option ℕ
here_if v position None = None
here_if v position (Some t) = cond (nat_lt position (count_in v t)) (Some t) None

abbrev pub located : View → ℕ → ℕ → Option ℕ
located v start position = here_if v position (found (bears v.limits v.entries start) v.limits.slots)

-- The first start at or above a number, slot after slot.
abbrev pub first_from : Limits → List ℕ → ℕ → ℕ → Option ℕ
first_from l es from zero = None
first_from l es from (suc n) = nearest (first_from l es from n) (count_of (page l es n)) (start_of (page l es n)) from

-- Append.
abbrev pub stored : View → ℕ → ℕ → Label → List ℕ → List ℕ → View
stored v t start label key value =
    record {
      limits = v.limits;
      floor = v.floor;
      entries =
          put (put v.entries (page_place v.limits t + row_place v.limits.width (count_in v t)) (row_bytes label key (used_in v t) (cost_of (length value))))
          (page_place v.limits t) (head_bytes start (count_in v t + 1));
      values = put v.values (vals_place v.limits t + used_in v t) (value_bytes value);
    }

pub record Takes (v : View) (t start : ℕ) : Type 0 where
  pub slot : t < v.limits.slots
  pub own : (bears v.limits v.entries start t ≡ true) ⊎ ((is_free (page_in v t) ≡ true) × (found (bears v.limits v.entries start) v.limits.slots ≡ None))

abbrev pub Leaves : View → View → ℕ → Label → List ℕ → List ℕ → Result ℕ JournalFault → Type 0
Leaves v v' start label key value (Err f) = v' ≡ v
Leaves v v' start label key value (Ok n) = (t : ℕ) × Takes v t start × (v' ≡ stored v t start label key value)

-- Prune.
abbrev pub below : Limits → List ℕ → ℕ → ℕ → Bool
below l es min s = goes min (count_of (page l es s)) (start_of (page l es s))

abbrev pub freed : Bool → Limits → List ℕ → ℕ → List ℕ
freed b l es s = cond b (put es (page_place l s) free_head) es

abbrev pub pruned_entries : Limits → List ℕ → ℕ → ℕ → List ℕ
pruned_entries l es min zero = es
pruned_entries l es min (suc n) = freed (below l es min n) l (pruned_entries l es min n) n

abbrev pub gone_below : Limits → List ℕ → ℕ → ℕ → Bool
gone_below l es min zero = false
gone_below l es min (suc n) = gone_below l es min n || below l es min n

abbrev pub pruned_by : View → ℕ → View
pruned_by v min = record { limits = v.limits; floor = max v.floor min; entries = pruned_entries v.limits v.entries min v.limits.slots; values = v.values }
