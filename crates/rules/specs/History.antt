-- What is kept after a history, read off its calls and answers alone, and by no rule.
--   Book              the section size and the floor as the history tells them, and the kept rows in order of arrival
--   is_accepted w     whether w is an answer and no refusal
--   is_stored w       whether w is "stored"
--   rows_in xs        the rows of the sections xs, by start and position
--   book m h          the book of the history h of an archive that was new over a journal of meaning m: an accepted load
--                     brings the journal's rows, a put that was stored its row behind them, an accepted prune strikes the
--                     numbers below its rounded minimum, which the floor is then at least; no other call changes it
--   in_section l s    whether a row's number belongs to the section s
--   arrived l ys rs   the rows rs, which arrived after ys, as records: the position of each is how many kept rows of its
--                     section came before it
--   kept_in l b       the kept records of the book b
use Rattle.std.specs.Prelude.{ℕ, max, Bool, true, false, cond, List, [], ◌∷◌, ◌++◌, length, Some, None, Ok, Err, Option, ◌==◌, nat_le}
use Rattle.journal.specs.Meaning.{Meaning, Section, Row}
use Rattle.journal.specs.Calls.{new_row}
use Rattle.rules.specs.declared.answer.Put.TheVariants.{BelowFloor, AlreadyThere, Stored}
use Rattle.rules.specs.declared.answer.Reply.{Reply}
use Rattle.rules.specs.declared.answer.Reply.TheVariants as reply
use Rattle.rules.specs.State.{section_of, Record, those}
use Rattle.rules.specs.Steps.{Says, Change, loads, puts, prunes, asks, change_of, Event}

pub record Book : Type 0 where
  pub size : Option ℕ
  pub floor : Option ℕ
  pub rows : List Row

abbrev pub blank : Book
blank = record { size = None; floor = None; rows = [] }

abbrev pub is_accepted : Says → Bool
is_accepted None = false
is_accepted (Some (Err fault)) = false
is_accepted (Some (Ok r)) = true

abbrev pub stored_reply : Reply → Bool
stored_reply (reply.Put (Stored s p)) = true
stored_reply (reply.Put BelowFloor) = false
stored_reply (reply.Put AlreadyThere) = false
stored_reply (reply.Loaded n) = false
stored_reply (reply.Pruned p) = false
stored_reply (reply.Found f) = false
stored_reply (reply.Has answer) = false
stored_reply (reply.ListedByNumber n) = false
stored_reply (reply.ListedByKey l) = false
stored_reply (reply.Counted c) = false

abbrev pub is_stored : Says → Bool
is_stored None = false
is_stored (Some (Err fault)) = false
is_stored (Some (Ok r)) = stored_reply r

abbrev pub rows_in : List Section → List Row
rows_in [] = []
rows_in (x ∷ xs) = x.rows ++ rows_in xs

abbrev pub first_book : Meaning → ℕ → Book
first_book m l = record { size = Some l; floor = None; rows = rows_in m.sections }

abbrev pub with_arrival : Book → Row → Book
with_arrival b r = record { size = b.size; floor = b.floor; rows = b.rows ++ r ∷ [] }

abbrev pub raised : Option ℕ → ℕ → ℕ
raised None m = m
raised (Some f) m = max f m

abbrev pub from_number : ℕ → Row → Bool
from_number m r = nat_le m r.label.number

abbrev pub struck_below : Book → ℕ → Book
struck_below b m = record { size = b.size; floor = Some (raised b.floor m); rows = those (from_number m) b.rows }

abbrev pub struck_by : Option ℕ → Book → ℕ → Book
struck_by None b min = b
struck_by (Some l) b min = struck_below b (section_of l min)

abbrev pub noted_by : Meaning → Book → Change → List ℕ → Says → Book
noted_by m b (loads l) bs w = cond (is_accepted w) (first_book m l) b
noted_by m b (puts multi label key) bs w = cond (is_stored w) (with_arrival b (new_row label key bs)) b
noted_by m b (prunes min) bs w = cond (is_accepted w) (struck_by b.size b min) b
noted_by m b asks bs w = b

abbrev pub noted : Meaning → Book → Event → Book
noted m b e = noted_by m b (change_of e.asked.call) e.asked.bytes e.answer.says

abbrev pub book_after : Meaning → Book → List Event → Book
book_after m b [] = b
book_after m b (e ∷ es) = book_after m (noted m b e) es

abbrev pub book : Meaning → List Event → Book
book m h = book_after m blank h

-- Positions, by arrival.
abbrev pub in_section : ℕ → ℕ → Row → Bool
in_section l s r = section_of l r.label.number == s

abbrev pub position_after : ℕ → List Row → ℕ → ℕ
position_after l before s = length (those (in_section l s) before)

abbrev pub arrival : ℕ → List Row → Row → Record
arrival l before r = record { start = section_of l r.label.number; position = position_after l before (section_of l r.label.number); row = r }

abbrev pub arrived : ℕ → List Row → List Row → List Record
arrived l before [] = []
arrived l before (r ∷ rs) = arrival l before r ∷ arrived l (before ++ r ∷ []) rs

abbrev pub kept_in : ℕ → Book → List Record
kept_in l b = arrived l [] b.rows
