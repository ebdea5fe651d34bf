-- What the kept records require of an answer, in the words of the subject: no test of the rules is used here.
-- The records rs stand in order of arrival, and P says what a record is to be.
--   Borne P rs            some record of rs is P
--   Counted P xs c        c of xs are P
--   Earliest P rs r       r is the first of rs that is P
--   Rising ps             the places ps rise strictly, by number and then position
--   Lists P rs c ps       c records are P, the c places ps rise, and a place is among them exactly when a record that is P has it
--   Different d P rs      the records of rs that are P bear d different numbers
--   Reads r h a           the answer a is what the content of the record r requires
--   RowAt m s p r         r is the row at position p of a section of the journal m that starts at s
--   Loadable kind m l     what a first load asks: a section size and limits that an archive takes, the kind's width, and of each
--                         row that its bytes are a key and its number belongs to its section
--   Hinders kind m l f    the refusal f tells truly what stands against that
--   ToldLoad              a first load: accepted with the count of rows where it may be, else refused with what hinders it
--   Told                  what each call is told, by the book before it
use Rattle.std.specs.Prelude.{◌≡◌, ℕ, suc, ◌<◌, ◌≤◌, Bool, true, false, ◌⊎◌, List, [], ◌∷◌, ◌++◌, length, drop, Some, None, Ok, Err, Option}
use Rattle.std.specs.List.{slice_get}
use Rattle.keys.specs.declared.fault.KeyFault.{KeyFault}
use Rattle.keys.specs.declared.fault.KeyFault.TheVariants.{NotAKey, StoredKey}
use Rattle.journal.specs.declared.limits.Limits.{Limits}
use Rattle.journal.specs.declared.fault.JournalFault.{JournalFault}
use Rattle.journal.specs.declared.fault.JournalFault.TheVariants.{Short, Damaged}
use Rattle.journal.specs.Meaning.{Meaning, Section, Row, Content, sound, damaged}
use Rattle.rules.specs.declared.answer.Place.{Place}
use Rattle.rules.specs.declared.answer.Put.TheVariants.{BelowFloor, AlreadyThere, Stored}
use Rattle.rules.specs.declared.answer.Pruned.TheVariants.{Unchanged, Struck}
use Rattle.rules.specs.declared.answer.Reply.{Reply}
use Rattle.rules.specs.declared.answer.Reply.TheVariants as reply
use Rattle.rules.specs.declared.call.Call.{Call}
use Rattle.rules.specs.declared.call.Call.TheVariants.{Load, Put, PutMulti, Prune, GetNumber, GetKey, GetPlace, HasNumber, HasKey, HasBoth, ListNumber, ListKey, Counts}
use Rattle.rules.specs.declared.fault.ArchiveFault.{ArchiveFault}
use Rattle.rules.specs.declared.fault.ArchiveFault.TheVariants.{SectionSize, JournalLimits, KeyWidth, WrongSection, NotLoaded, AlreadyLoaded, ShortListing, SlotTooLarge, PositionTooLarge, Key, Journal}
use Rattle.rules.specs.State.{Kind, Record, section_of, or_zero, number_of, place_of}
use Rattle.rules.specs.Calls.{Among}
use Rattle.rules.specs.Steps.{Handed, Answer, answer, Change, loads, puts, prunes, asks, change_of}
use Rattle.rules.specs.History.{Book, rows_in, position_after, kept_in}

abbrev pub Exactly : Type 0 → Type 0 → Type 0
Exactly A B = (A → B) × (B → A)

-- What a record bears.
abbrev pub BearsNumber : ℕ → Record → Type 0
BearsNumber n r = number_of r ≡ n

abbrev pub BearsKey : List ℕ → Record → Type 0
BearsKey key r = r.row.key ≡ key

abbrev pub BearsBoth : ℕ → List ℕ → Record → Type 0
BearsBoth n key r = BearsNumber n r × BearsKey key r

abbrev pub LiesAt : Place → Record → Type 0
LiesAt p r = place_of r ≡ p

abbrev pub SameTranslated : Kind → List ℕ → Record → Type 0
SameTranslated kind key r = kind.translated r.row.key ≡ kind.translated key

abbrev pub Borne : (Record → Type 0) → List Record → Type 0
Borne P rs = (r : Record) × Among r rs × P r

abbrev pub Counted : {X : Type 0} → (X → Type 0) → List X → ℕ → Type 0
Counted P [] c = c ≡ 0
Counted P (x ∷ xs) c = (P x × ((n : ℕ) × (c ≡ suc n) × Counted P xs n)) ⊎ ((P x → ⊥) × Counted P xs c)

pub record Earliest (P : Record → Type 0) (rs : List Record) (r : Record) : Type 0 where
  pub before : List Record
  pub after : List Record
  pub here : rs ≡ before ++ r ∷ after
  pub bears : P r
  pub none_before : Borne P before → ⊥

-- Answers that come up again and again: nothing written, and a refusal.
abbrev pub plain : Handed → Reply → Answer
plain h r = answer (Some (Ok r)) h.bytes h.places

abbrev pub refused : Handed → ArchiveFault → Answer
refused h f = answer (Some (Err f)) h.bytes h.places

-- Listings.
abbrev pub Before : Place → Place → Type 0
Before p q = (p.number < q.number) ⊎ ((p.number ≡ q.number) × (p.position < q.position))

abbrev pub RisingFrom : Place → List Place → Type 0
RisingFrom p [] = Unit {0}
RisingFrom p (q ∷ qs) = Before p q × RisingFrom q qs

abbrev pub Rising : List Place → Type 0
Rising [] = Unit {0}
Rising (p ∷ ps) = RisingFrom p ps

pub record Lists (P : Record → Type 0) (rs : List Record) (c : ℕ) (ps : List Place) : Type 0 where
  pub count : Counted P rs c
  pub long : length ps ≡ c
  pub rising : Rising ps
  pub every : (r : Record) → Among r rs → P r → Among (place_of r) ps
  pub only : (p : Place) → Among p ps → (r : Record) × Among r rs × P r × (place_of r ≡ p)

pub record ToldListing (P : Record → Type 0) (rs : List Record) (says : ℕ → Reply) (h : Handed) (a : Answer) : Type 0 where
  pub count : ℕ
  pub listed : List Place
  pub lists : Lists P rs count listed
  pub answers :
      ((length h.places < count) × (a ≡ refused h (ShortListing count)))
      ⊎ ((count ≤ length h.places) × (a ≡ answer (Some (Ok (says count))) h.bytes (listed ++ drop count h.places)))

abbrev pub ToldKeyListing : Kind → List ℕ → List Record → Handed → Answer → Type 0
ToldKeyListing kind key rs h a =
    (d : ℕ) × Counted (SameTranslated kind key) rs d × ToldListing (BearsKey key) rs (λ c. reply.ListedByKey (record { count = c; candidates = d })) h a

-- Gets: a buffer that is too short, else a damaged value, else the value in the buffer's front.
abbrev pub ReadsContent : Content → Record → Handed → Answer → Type 0
ReadsContent (sound v) r h a =
    ((length h.bytes < length v) × (a ≡ refused h (Journal (Short r.start r.position (length v)))))
    ⊎ ((length v ≤ length h.bytes) × (a ≡ answer (Some (Ok (reply.Found (Some (record { place = place_of r; length = length v }))))) (v ++ drop (length v) h.bytes) h.places))
ReadsContent (damaged n) r h a =
    ((length h.bytes < n) × (a ≡ refused h (Journal (Short r.start r.position n))))
    ⊎ ((n ≤ length h.bytes) × (a ≡ refused h (Journal (Damaged r.start r.position))))

abbrev pub Reads : Record → Handed → Answer → Type 0
Reads r h a = ReadsContent r.row.content r h a

abbrev pub ToldAbsent : (Record → Type 0) → List Record → Handed → Answer → Type 0
ToldAbsent P rs h a = (Borne P rs → ⊥) × (a ≡ plain h (reply.Found None))

abbrev pub ToldEarliest : (Record → Type 0) → List Record → Handed → Answer → Type 0
ToldEarliest P rs h a = ToldAbsent P rs h a ⊎ ((r : Record) × Earliest P rs r × Reads r h a)

abbrev pub ToldSome : (Record → Type 0) → List Record → Handed → Answer → Type 0
ToldSome P rs h a = ToldAbsent P rs h a ⊎ ((r : Record) × Among r rs × P r × Reads r h a)

-- Has.
abbrev pub ToldHas : (Record → Type 0) → List Record → Handed → Answer → Type 0
ToldHas P rs h a = (told : Bool) × (a ≡ plain h (reply.Has told)) × Exactly (told ≡ true) (Borne P rs)

-- Different numbers: a list of them without repetition has that length.
abbrev pub Apart : List ℕ → Type 0
Apart [] = Unit {0}
Apart (n ∷ ns) = (Among n ns → ⊥) × Apart ns

pub record Different (d : ℕ) (P : Record → Type 0) (rs : List Record) : Type 0 where
  pub numbers : List ℕ
  pub apart : Apart numbers
  pub long : length numbers ≡ d
  pub borne : (n : ℕ) → Exactly (Among n numbers) (Borne (λ r. P r × BearsNumber n r) rs)

abbrev pub ToldCounts : List Record → Option ℕ → Handed → Answer → Type 0
ToldCounts rs floor h a =
    (d : ℕ) × Different d (λ _. Unit {0}) rs × (a ≡ plain h (reply.Counted (record { records = length rs; numbers = d; floor = floor })))

-- Put: n is the number, s its section, and position how many kept records of the section there are. What is neither below the
-- floor nor there already is stored, or the journal refuses it.
pub record ToldPut (multi : Bool) (n s : ℕ) (floor : Option ℕ) (rs : List Record) (position : ℕ) (h : Handed) (a : Answer) : Type 0 where
  pub below : Exactly (a.says ≡ Some (Ok (reply.Put BelowFloor))) (n < or_zero floor)
  pub there : Exactly (a.says ≡ Some (Ok (reply.Put AlreadyThere))) ((or_zero floor ≤ n) × (multi ≡ false) × Borne (BearsNumber n) rs)
  pub stored : (t p : ℕ) → a.says ≡ Some (Ok (reply.Put (Stored t p))) → (t ≡ s) × (p ≡ position)
  pub otherwise :
      or_zero floor ≤ n → ((multi ≡ false) × Borne (BearsNumber n) rs → ⊥)
      → (a.says ≡ Some (Ok (reply.Put (Stored s position)))) ⊎ ((f : JournalFault) × (a.says ≡ Some (Err (Journal f))))
  pub buffers : a ≡ answer a.says h.bytes h.places

-- Prune, by its minimum rounded down.
abbrev pub Reached : Option ℕ → ℕ → Type 0
Reached floor m = (f : ℕ) × (floor ≡ Some f) × (m ≤ f)

abbrev pub NumberedBelow : ℕ → Record → Type 0
NumberedBelow m r = number_of r < m

abbrev pub ToldPrune : ℕ → Option ℕ → List Record → Handed → Answer → Type 0
ToldPrune m floor rs h a =
    (Reached floor m × (a ≡ plain h (reply.Pruned Unchanged)))
    ⊎ ((Reached floor m → ⊥) × (d c : ℕ) × Different d (NumberedBelow m) rs × Counted (NumberedBelow m) rs c × (a ≡ plain h (reply.Pruned (Struck d c))))

-- By the section size l, and the book before the call.
abbrev pub ToldAt : Kind → ℕ → Book → Call (List ℕ) → Handed → Answer → Type 0
ToldAt kind l b (Load size) h a = a ≡ refused h AlreadyLoaded
ToldAt kind l b (Put label key) h a =
    ToldPut false label.number (section_of l label.number) b.floor (kept_in l b) (position_after l b.rows (section_of l label.number)) h a
ToldAt kind l b (PutMulti label key) h a =
    ToldPut true label.number (section_of l label.number) b.floor (kept_in l b) (position_after l b.rows (section_of l label.number)) h a
ToldAt kind l b (Prune min) h a = ToldPrune (section_of l min) b.floor (kept_in l b) h a
ToldAt kind l b (GetNumber n) h a = ToldEarliest (BearsNumber n) (kept_in l b) h a
ToldAt kind l b (GetKey key) h a = ToldSome (BearsKey key) (kept_in l b) h a
ToldAt kind l b (GetPlace p) h a = ToldSome (LiesAt p) (kept_in l b) h a
ToldAt kind l b (HasNumber n) h a = ToldHas (BearsNumber n) (kept_in l b) h a
ToldAt kind l b (HasKey key) h a = ToldHas (BearsKey key) (kept_in l b) h a
ToldAt kind l b (HasBoth n key) h a = ToldHas (BearsBoth n key) (kept_in l b) h a
ToldAt kind l b (ListNumber n) h a = ToldListing (BearsNumber n) (kept_in l b) (λ c. reply.ListedByNumber c) h a
ToldAt kind l b (ListKey key) h a = ToldKeyListing kind key (kept_in l b) h a
ToldAt kind l b Counts h a = ToldCounts (kept_in l b) b.floor h a

-- A first load, over the journal's sections and rows as they stand.
abbrev pub Ranges : ℕ → ℕ → ℕ → Type 0
Ranges low x high = (low ≤ x) × (x ≤ high)

pub record SuitsArchive (l : Limits) : Type 0 where
  pub slots : Ranges 1 l.slots 16
  pub rows : Ranges 1 l.rows 128
  pub bytes : Ranges 4 l.bytes 4096

abbrev pub RowAt : Meaning → ℕ → ℕ → Row → Type 0
RowAt m s p r = (x : Section) × Among x m.sections × (x.start ≡ s) × (slice_get x.rows p ≡ Some r)

pub record Loadable (kind : Kind) (m : Meaning) (l : ℕ) : Type 0 where
  pub sized : Ranges 1 l 64
  pub limits : SuitsArchive m.limits
  pub wide : kind.width ≡ m.limits.width
  pub keys : (s p : ℕ) (r : Row) → RowAt m s p r → kind.flaw r.key ≡ None
  pub homes : (s p : ℕ) (r : Row) → RowAt m s p r → section_of l r.label.number ≡ s

abbrev pub HindersKey : Kind → Meaning → KeyFault → Type 0
HindersKey kind m (NotAKey amount) = ⊥
HindersKey kind m (StoredKey s p) = (r : Row) × RowAt m s p r × (kind.flaw r.key ≡ None → ⊥)

abbrev pub Hinders : Kind → Meaning → ℕ → ArchiveFault → Type 0
Hinders kind m l SectionSize = Ranges 1 l 64 → ⊥
Hinders kind m l JournalLimits = SuitsArchive m.limits → ⊥
Hinders kind m l KeyWidth = kind.width ≡ m.limits.width → ⊥
Hinders kind m l (WrongSection s p) = (r : Row) × RowAt m s p r × (section_of l r.label.number ≡ s → ⊥)
Hinders kind m l (Key f) = HindersKey kind m f
Hinders kind m l NotLoaded = ⊥
Hinders kind m l AlreadyLoaded = ⊥
Hinders kind m l (ShortListing amount) = ⊥
Hinders kind m l SlotTooLarge = ⊥
Hinders kind m l PositionTooLarge = ⊥
Hinders kind m l (Journal f) = ⊥

abbrev pub ToldLoad : Kind → Meaning → ℕ → Handed → Answer → Type 0
ToldLoad kind m l h a =
    (Loadable kind m l × (a ≡ plain h (reply.Loaded (length (rows_in m.sections)))))
    ⊎ ((f : ArchiveFault) × Hinders kind m l f × (a ≡ refused h f))

-- Before any load every call but a load is refused.
abbrev pub ToldFirst : Kind → Meaning → Change → Handed → Answer → Type 0
ToldFirst kind m (loads size) h a = ToldLoad kind m size h a
ToldFirst kind m (puts multi label key) h a = a ≡ refused h NotLoaded
ToldFirst kind m (prunes min) h a = a ≡ refused h NotLoaded
ToldFirst kind m asks h a = a ≡ refused h NotLoaded

abbrev pub ToldBy : Kind → Meaning → Option ℕ → Book → Handed → Answer → Type 0
ToldBy kind m None b h a = ToldFirst kind m (change_of h.call) h a
ToldBy kind m (Some l) b h a = ToldAt kind l b h.call h a

abbrev pub Told : Kind → Meaning → Book → Handed → Answer → Type 0
Told kind m b h a = ToldBy kind m b.size b h a
