-- What the slots of an index hold, by start.
--   holds s v           whether the slot v holds the section that starts at s
--   found vs s          the slot that holds s, or a free one
--   slot_of vs s        which slot that is; the first one
--   Crowded vs s        no slot holds s, and none is free
--   Opened vs vs' s i   the slot i was free, and is taken for s, which no slot held
--   Shut vs s           a slot holds s, or none is free
--   start_in vs i       the start that the slot i holds, or none
--   total h vs          the sum of h over the used slots
--   records, numbers    how many records a slot holds, and how many different numbers
--   under m h           h of what starts below m, else 0
--   begun s v           the slot v, or one just taken for s where v is free
--   has_room vs s o     whether there is room for one record more of the section s, with the offset o
--   Noted vs vs' s ..   vs' holds at each start what vs does, with one record more at s
--   Seated vs vs' s ..  the slot of vs that holds s, or a free one taken for s, has one record more in vs'
--   in_slot i o         the position o of the slot i as a handle
use Rattle.std.specs.Prelude.{◌≡◌, ℕ, ◌+◌, ◌*◌, ◌^◌, ◌<◌, Bool, true, false, cond, ◌&&◌, ◌||◌, ◌⊎◌, List, [], ◌∷◌, length, Some, None, Option, ◌==◌, nat_lt, slice_set}
use Rattle.index_layout.specs.Links.{fresh}
use Rattle.index_layout.specs.Views.{View, free_view, open_view, grown, takes, view_at, Holds, slot_count}

abbrev pub holds : ℕ → View → Bool
holds s v = v.used && v.start == s

abbrev pub found : List View → ℕ → View
found [] s = free_view
found (v ∷ vs) s = cond (holds s v) v (found vs s)

abbrev pub slot_from : ℕ → List View → ℕ → Option ℕ
slot_from i [] s = None
slot_from i (v ∷ vs) s = cond (holds s v) (Some i) (slot_from (i + 1) vs s)

abbrev pub slot_of : List View → ℕ → Option ℕ
slot_of vs s = slot_from 0 vs s

abbrev pub Absent : List View → ℕ → Type 0
Absent vs s = (i : ℕ) → i < slot_count → Holds vs i s → ⊥

pub record Crowded (vs : List View) (s : ℕ) : Type 0 where
  pub absent : Absent vs s
  pub full : (i : ℕ) → i < slot_count → (view_at vs i).used ≡ true

abbrev pub Shut : List View → ℕ → Type 0
Shut vs s = ((found vs s).used ≡ true) ⊎ Crowded vs s

abbrev pub start_in : List View → ℕ → Option ℕ
start_in vs i = cond (view_at vs i).used (Some (view_at vs i).start) None

pub record Opened (vs vs' : List View) (s i : ℕ) : Type 0 where
  pub slot : i < slot_count
  pub free : (view_at vs i).used ≡ false
  pub absent : Absent vs s
  pub after : vs' ≡ slice_set vs i (open_view s)

-- Sums.
abbrev pub weight : (View → ℕ) → View → ℕ
weight h v = cond v.used (h v) 0

abbrev pub total : (View → ℕ) → List View → ℕ
total h [] = 0
total h (v ∷ vs) = weight h v + total h vs

abbrev pub one : View → ℕ
one v = 1

abbrev pub records : View → ℕ
records v = length v.offsets

abbrev pub numbers : View → ℕ
numbers v = fresh v.offsets (length v.offsets)

abbrev pub under : ℕ → (View → ℕ) → View → ℕ
under m h v = cond (nat_lt v.start m) (h v) 0

-- One record more, by start.
abbrev pub begun : ℕ → View → View
begun s v = cond v.used v (open_view s)

abbrev pub has_room : List View → ℕ → ℕ → Bool
has_room vs s o = takes (begun s (found vs s)) o && ((found vs s).used || nat_lt (total one vs) slot_count)

abbrev pub Noted : List View → List View → ℕ → ℕ → ℕ → ℕ → Type 0
Noted vs vs' s o c b = (t : ℕ) → found vs' t ≡ cond (s == t) (grown (begun s (found vs s)) o c b) (found vs t)

pub record Seated (vs vs' : List View) (s o c b : ℕ) : Type 0 where
  pub slot : ℕ
  pub below : slot < slot_count
  pub home : Holds vs slot s ⊎ (((view_at vs slot).used ≡ false) × Absent vs s)
  pub after : vs' ≡ slice_set vs slot (grown (begun s (view_at vs slot)) o c b)

-- Handles.
abbrev pub in_slot : ℕ → Option ℕ → Option ℕ
in_slot i None = None
in_slot i (Some p) = Some (i * 2 ^ 40 + p)
