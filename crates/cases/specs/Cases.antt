-- The worked cases: one list, and what it is for each to hold, by the definitions that the contracts cite.
--   sums bytes s r d       the check sum of the bytes is s, its remainder by 11 is r, and the digit of that is d
--   box bytes              the bytes are read as a box number
--   no_box bytes parts     they are refused, and these are the five parts of the refusal
--   hashes bytes h         FNV-1a 32 of the bytes is h
--   packs i p h            the slot i and the position p make the handle h, which unpacks into them again
--   no_handle i p parts    the slot i and the position p make no handle, and these are the five parts of the refusal
--   prunes l ns m f ks ss  with l numbers to a section, and records of the numbers ns, a prune by m sets the floor f, keeps the
--                          numbers ks and strikes the numbers ss; the journal is lawful before
use Rattle.std.specs.Prelude.{◌≡◌, ℕ, ◌-◌, ◌%◌, ◌^◌, List, [], ◌∷◌, map, Some, Ok, Err, codes, Result}
use Rattle.keys.specs.Faults.{parts_of}
use Rattle.keys.specs.Fnv.{fnv_1a_32}
use Rattle.keys.specs.Iso.{check_sum, digit_of, flaw}
use Rattle.keys.specs.Reading.{read_answer}
use Rattle.keys.specs.declared.fault.FaultParts.{FaultParts}
use Rattle.keys.specs.declared.fault.KeyFault.{KeyFault}
use Rattle.journal.specs.Meaning.{Section, Lawful}
use Rattle.journal.specs.Calls.{placed, new_row}
use Rattle.rules.specs.Faults as archive
use Rattle.rules.specs.declared.fault.ArchiveFault.{ArchiveFault}
use Rattle.rules.specs.State.{State, new, section_of, number_of, kept}
use Rattle.rules.specs.Calls.{loaded, struck, prune_after}
use Rattle.index.specs.Handles.{packed, unpacked}

pub data Case : Type 0 where
  sums : List ℕ → ℕ → ℕ → ℕ → Case
  box : List ℕ → Case
  no_box : List ℕ → FaultParts → Case
  hashes : List ℕ → ℕ → Case
  packs : ℕ → ℕ → ℕ → Case
  no_handle : ℕ → ℕ → FaultParts → Case
  prunes : ℕ → List ℕ → ℕ → ℕ → List ℕ → List ℕ → Case

-- A read that was refused, with these parts.
abbrev pub RefusedWith : Result Unit KeyFault → FaultParts → Type 0
RefusedWith (Ok done) parts = ⊥
RefusedWith (Err fault) parts = parts_of fault ≡ parts

abbrev pub HandleRefusedWith : Result ℕ ArchiveFault → FaultParts → Type 0
HandleRefusedWith (Ok h) parts = ⊥
HandleRefusedWith (Err fault) parts = archive.parts_of fault ≡ parts

-- What a refusal of the archive comes to that names no part.
abbrev pub bare : ℕ → FaultParts
bare n = record { number = n; layer = 3; section = 0; position = 0; amount = 0 }

-- An archive that keeps a record of each number, all of one key, loaded with l numbers to a section.
abbrev pub sections_of : ℕ → List ℕ → List Section
sections_of l [] = []
sections_of l (n ∷ ns) = placed (sections_of l ns) (section_of l n) (new_row (record { number = n }) (codes "AAAU0000007") [])

abbrev pub keeping : ℕ → List ℕ → State
keeping l ns = loaded (new (record { limits = record { slots = 16; rows = 128; bytes = 4096; width = 11 }; floor = 0; sections = sections_of l ns })) l

abbrev pub Holds : Case → Type 0
Holds (sums bytes s r d) = (check_sum bytes ≡ s) × (s % 11 ≡ r) × (digit_of r ≡ Some d)
Holds (box bytes) = read_answer (flaw bytes) ≡ Ok tt
Holds (no_box bytes parts) = RefusedWith (read_answer (flaw bytes)) parts
Holds (hashes bytes h) = fnv_1a_32 bytes ≡ h
Holds (packs i p h) = (packed i p ≡ Ok h) × (unpacked h ≡ (i, p))
Holds (no_handle i p parts) = HandleRefusedWith (packed i p) parts
Holds (prunes l ns m f ks ss) =
    Lawful (keeping l ns).journal × ((prune_after (keeping l ns) m).floor ≡ Some f) × (map number_of (kept (prune_after (keeping l ns) m)) ≡ ks)
    × (map number_of (struck (keeping l ns) (section_of l m)) ≡ ss)

abbrev pub worked : List Case
worked =
    sums (codes "AAAU000000") 326 7 7
    ∷ (box (codes "AAAU0000007")
    ∷ (no_box (codes "AAAU0000008") (record { number = 17; layer = 1; section = 0; position = 0; amount = 10 })
    ∷ (sums (codes "AAAU000006") 3398 10 0
    ∷ (hashes (codes "a") 0xE40C292C
    ∷ (hashes [] 0x811C9DC5
    ∷ (prunes 10 (19 ∷ 20 ∷ []) 29 20 (20 ∷ []) (19 ∷ [])
    ∷ (prunes 10 [] 18_446_744_073_709_551_615 18_446_744_073_709_551_610 [] []
    ∷ (packs 3 5 3_298_534_883_333
    ∷ (packs 0 (2 ^ 40 - 1) (2 ^ 40 - 1)
    ∷ (no_handle 0 (2 ^ 40) (bare 19)
    ∷ (no_handle (2 ^ 24) 0 (bare 18)
    ∷ (no_handle (2 ^ 24) (2 ^ 40) (bare 18)
    ∷ []))))))))))))

abbrev pub AllHold : List Case → Type 0
AllHold [] = Unit {0}
AllHold (c ∷ cs) = Holds c × AllHold cs
