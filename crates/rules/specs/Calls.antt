-- The rules: what each call answers, what it leaves in its buffer, and the state after it.
--   if_loaded o f        f of the section size, or the refusal of a call before any load
--   load_check l m w     why a load is refused before any row is looked at, by the section size l, the journal's limits m and the
--                        kind's width w, or None; row_fault is why by its rows, and first_fault a b is a, or else b
--   load_fault           why a load is refused, the first reason in its order, or None
--   load_answer          how many records a load finds; load_after is the state after it
--   put_answer           multi: a put that does not ask whether a record has the number; put_after is the state after it
--   prune_answer         prune_after is the state after it
--   get_number_answer    with get_number_buffer: the earliest record that bears a number
--   GetsKey              a get by key: the answer and the buffer are those of some bearer
--   get_place_answer     with get_place_buffer: the record at a place
--   has_answer s t       whether a kept record passes the test t
--   list_number_answer   with list_places: the listing of the records that pass a test
--   list_key_answer      the same with the count of candidates
--   counts_answer        records, different numbers and floor
use Rattle.std.specs.Prelude.{◌≡◌, ℕ, Bool, true, false, cond, not, ◌&&◌, ◌||◌, ◌⊎◌, List, [], ◌∷◌, ◌++◌, length, drop, Some, None, Ok, Err, Option, Result, ◌==◌, nat_le, nat_lt}
use Rattle.keys.specs.declared.fault.KeyFault.TheVariants.{StoredKey}
use Rattle.journal.specs.declared.limits.Limits.{Limits}
use Rattle.journal.specs.declared.row.Label.{Label}
use Rattle.journal.specs.declared.fault.JournalFault.{JournalFault}
use Rattle.journal.specs.Meaning.{Meaning, check_size}
use Rattle.journal.specs.Making.{between}
use Rattle.journal.specs.Calls.{or_fault, or_keep, append_answer, appended, content_answer, content_fill, pruned}
use Rattle.rules.specs.declared.answer.Place.{Place}
use Rattle.rules.specs.declared.answer.Put.{Put}
use Rattle.rules.specs.declared.answer.Put.TheVariants.{BelowFloor, AlreadyThere, Stored}
use Rattle.rules.specs.declared.answer.Found.{Found}
use Rattle.rules.specs.declared.answer.Pruned.{Pruned}
use Rattle.rules.specs.declared.answer.Pruned.TheVariants.{Unchanged, Struck}
use Rattle.rules.specs.declared.answer.Listed.{Listed}
use Rattle.rules.specs.declared.answer.Counts.{Counts}
use Rattle.rules.specs.declared.fault.ArchiveFault.{ArchiveFault}
use Rattle.rules.specs.declared.fault.ArchiveFault.TheVariants.{SectionSize, JournalLimits, KeyWidth, WrongSection, NotLoaded, AlreadyLoaded, ShortListing, Key, Journal}
use Rattle.rules.specs.State.{Kind, State, section_of, or_zero, Record, number_of, place_of, kept, records_of, bears_number, bears_key, lies_at, is_candidate, those, some_in, by_number, places_of, distinct}

abbrev pub if_loaded : {X : Type 0} → Option ℕ → (ℕ → Result X ArchiveFault) → Result X ArchiveFault
if_loaded None f = Err NotLoaded
if_loaded (Some l) f = f l

abbrev pub changed_if_loaded : Option ℕ → (ℕ → State) → State → State
changed_if_loaded None f s = s
changed_if_loaded (Some l) f s = f l

-- Load. Its rows are gone through by start and position, each for its key first and then for its section.
abbrev pub archive_limits : Limits → Bool
archive_limits m = between 1 m.slots 16 && (between 1 m.rows 128 && between check_size m.bytes 4096)

abbrev pub is_key : Option ℕ → Bool
is_key None = true
is_key (Some place) = false

abbrev pub row_fault : Kind → ℕ → List Record → Option ArchiveFault
row_fault kind l [] = None
row_fault kind l (r ∷ rs) =
    cond (not (is_key (kind.flaw r.row.key))) (Some (Key (StoredKey r.start r.position)))
    (cond (not (section_of l (number_of r) == r.start)) (Some (WrongSection r.start r.position))
    (row_fault kind l rs))

abbrev pub load_check : ℕ → Limits → ℕ → Option ArchiveFault
load_check l m w =
    cond (not (between 1 l 64)) (Some SectionSize)
    (cond (not (archive_limits m)) (Some JournalLimits)
    (cond (not (w == m.width)) (Some KeyWidth) None))

abbrev pub first_fault : Option ArchiveFault → Option ArchiveFault → Option ArchiveFault
first_fault None o = o
first_fault (Some f) o = Some f

abbrev pub fresh_load_fault : Kind → Meaning → ℕ → Option ArchiveFault
fresh_load_fault kind m l = first_fault (load_check l m.limits kind.width) (row_fault kind l (records_of m.sections))

abbrev pub load_fault_by : Kind → Option ℕ → Meaning → ℕ → Option ArchiveFault
load_fault_by kind None m l = fresh_load_fault kind m l
load_fault_by kind (Some before) m l = Some AlreadyLoaded

abbrev pub load_fault : Kind → State → ℕ → Option ArchiveFault
load_fault kind s l = load_fault_by kind s.size s.journal l

abbrev pub load_answer : Kind → State → ℕ → Result ℕ ArchiveFault
load_answer kind s l = or_fault (load_fault kind s l) (length (kept s))

abbrev pub loaded : State → ℕ → State
loaded s l = record { size = Some l; floor = None; journal = s.journal }

abbrev pub load_after : Kind → State → ℕ → State
load_after kind s l = or_keep (load_fault kind s l) (loaded s l) s

-- Put.
abbrev pub is_below : State → ℕ → Bool
is_below s n = nat_lt n (or_zero s.floor)

abbrev pub is_there : Bool → State → ℕ → Bool
is_there multi s n = not multi && some_in (those (bears_number n) (kept s))

abbrev pub stored_by : ℕ → Result ℕ JournalFault → Result Put ArchiveFault
stored_by section (Ok position) = Ok (Stored section position)
stored_by section (Err fault) = Err (Journal fault)

abbrev pub put_at : ℕ → State → Bool → Label → List ℕ → List ℕ → Result Put ArchiveFault
put_at l s multi label key value =
    cond (is_below s label.number) (Ok BelowFloor)
    (cond (is_there multi s label.number) (Ok AlreadyThere)
    (stored_by (section_of l label.number) (append_answer s.journal (section_of l label.number) key value)))

abbrev pub put_answer : State → Bool → Label → List ℕ → List ℕ → Result Put ArchiveFault
put_answer s multi label key value = if_loaded s.size (λ l. put_at l s multi label key value)

abbrev pub with_journal : State → Meaning → State
with_journal s m = record { size = s.size; floor = s.floor; journal = m }

abbrev pub put_next : ℕ → State → Bool → Label → List ℕ → List ℕ → State
put_next l s multi label key value =
    cond (is_below s label.number || is_there multi s label.number) s
    (with_journal s (appended s.journal (section_of l label.number) label key value))

abbrev pub put_after : State → Bool → Label → List ℕ → List ℕ → State
put_after s multi label key value = changed_if_loaded s.size (λ l. put_next l s multi label key value) s

-- Prune.
abbrev pub floor_reaches : Option ℕ → ℕ → Bool
floor_reaches None m = false
floor_reaches (Some f) m = nat_le m f

abbrev pub starts_below : ℕ → Record → Bool
starts_below m r = nat_lt r.start m

abbrev pub struck : State → ℕ → List Record
struck s m = those (starts_below m) (kept s)

abbrev pub prune_at : State → ℕ → Result Pruned ArchiveFault
prune_at s m = cond (floor_reaches s.floor m) (Ok Unchanged) (Ok (Struck (distinct (struck s m)) (length (struck s m))))

abbrev pub prune_answer : State → ℕ → Result Pruned ArchiveFault
prune_answer s min = if_loaded s.size (λ l. prune_at s (section_of l min))

abbrev pub prune_next : State → ℕ → State
prune_next s m = cond (floor_reaches s.floor m) s (record { size = s.size; floor = Some m; journal = pruned s.journal m })

abbrev pub prune_after : State → ℕ → State
prune_after s min = changed_if_loaded s.size (λ l. prune_next s (section_of l min)) s

-- Gets. Of a record found the buffer's length is asked first, then whether the value is sound; a value fills the buffer's front alone.
abbrev pub found_by : Place → Result ℕ JournalFault → Result (Option Found) ArchiveFault
found_by place (Ok n) = Ok (Some (record { place = place; length = n }))
found_by place (Err fault) = Err (Journal fault)

abbrev pub found_answer : Record → ℕ → Result (Option Found) ArchiveFault
found_answer r room = found_by (place_of r) (content_answer r.row.content r.start r.position room)

abbrev pub found_buffer : Record → List ℕ → List ℕ
found_buffer r buffer = content_fill r.row.content buffer

abbrev pub first_answer : List Record → ℕ → Result (Option Found) ArchiveFault
first_answer [] room = Ok None
first_answer (r ∷ rs) room = found_answer r room

abbrev pub first_buffer : List Record → List ℕ → List ℕ
first_buffer [] buffer = buffer
first_buffer (r ∷ rs) buffer = found_buffer r buffer

abbrev pub buffer_if_loaded : {X : Type 0} → Option ℕ → X → X → X
buffer_if_loaded None new old = old
buffer_if_loaded (Some l) new old = new

abbrev pub get_number_answer : State → ℕ → ℕ → Result (Option Found) ArchiveFault
get_number_answer s n room = if_loaded s.size (λ _. first_answer (those (bears_number n) (kept s)) room)

abbrev pub get_number_buffer : State → ℕ → List ℕ → List ℕ
get_number_buffer s n buffer = buffer_if_loaded s.size (first_buffer (those (bears_number n) (kept s)) buffer) buffer

abbrev pub get_place_answer : State → Place → ℕ → Result (Option Found) ArchiveFault
get_place_answer s p room = if_loaded s.size (λ _. first_answer (those (lies_at p) (kept s)) room)

abbrev pub get_place_buffer : State → Place → List ℕ → List ℕ
get_place_buffer s p buffer = buffer_if_loaded s.size (first_buffer (those (lies_at p) (kept s)) buffer) buffer

abbrev pub Among : {X : Type 0} → X → List X → Type 0
Among x [] = ⊥
Among x (y ∷ ys) = (x ≡ y) ⊎ Among x ys

-- Absent where no record bears the key; else what some bearer gives. Which one is left open.
abbrev pub GetsOne : List Record → List ℕ → Result (Option Found) ArchiveFault → List ℕ → Type 0
GetsOne [] buffer r after = (r ≡ Ok None) × (after ≡ buffer)
GetsOne (x ∷ xs) buffer r after = (y : Record) × Among y (x ∷ xs) × (r ≡ found_answer y (length buffer)) × (after ≡ found_buffer y buffer)

abbrev pub GetsKeyBy : Option ℕ → List Record → List ℕ → Result (Option Found) ArchiveFault → List ℕ → Type 0
GetsKeyBy None rs buffer r after = (r ≡ Err NotLoaded) × (after ≡ buffer)
GetsKeyBy (Some l) rs buffer r after = GetsOne rs buffer r after

abbrev pub GetsKey : State → List ℕ → List ℕ → Result (Option Found) ArchiveFault → List ℕ → Type 0
GetsKey s k buffer r after = GetsKeyBy s.size (those (bears_key k) (kept s)) buffer r after

-- Has.
abbrev pub has_answer : State → (Record → Bool) → Result Bool ArchiveFault
has_answer s t = if_loaded s.size (λ _. Ok (some_in (those t (kept s))))

-- Listings. A slice that is too short stays as it was.
abbrev pub fitting : {X : Type 0} → ℕ → ℕ → X → Result X ArchiveFault
fitting count room x = cond (nat_lt room count) (Err (ShortListing count)) (Ok x)

abbrev pub listing_places : List Record → List Place → List Place
listing_places rs places = cond (nat_lt (length places) (length rs)) places (places_of (by_number rs) ++ drop (length rs) places)

abbrev pub list_places : State → (Record → Bool) → List Place → List Place
list_places s t places = buffer_if_loaded s.size (listing_places (those t (kept s)) places) places

abbrev pub list_number_answer : State → ℕ → ℕ → Result ℕ ArchiveFault
list_number_answer s n room = if_loaded s.size (λ _. fitting (length (those (bears_number n) (kept s))) room (length (those (bears_number n) (kept s))))

abbrev pub listed_key : Kind → State → List ℕ → Listed
listed_key kind s k = record { count = length (those (bears_key k) (kept s)); candidates = length (those (is_candidate kind k) (kept s)) }

abbrev pub list_key_answer : Kind → State → List ℕ → ℕ → Result Listed ArchiveFault
list_key_answer kind s k room = if_loaded s.size (λ _. fitting (length (those (bears_key k) (kept s))) room (listed_key kind s k))

-- Counts.
abbrev pub counts_answer : State → Result Counts ArchiveFault
counts_answer s = if_loaded s.size (λ _. Ok (record { records = length (kept s); numbers = distinct (kept s); floor = s.floor }))
