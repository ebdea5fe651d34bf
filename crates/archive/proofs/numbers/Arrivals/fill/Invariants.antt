use Rattle.std.proofs.Common.{◌≡◌, ℕ, List, length, take}
use Rattle.journal.specs.Meaning.{Meaning, Lawful, rows_of}
use Rattle.rules.specs.State.{Record, those, records_of, bears_number, places_of}
use Rattle.index.specs.Slots.{views}
use Rattle.archive_layout.specs.Fit.{Coding, Fit}
use Rattle.archive_layout.specs.Walks.{WalksNumber}
use Rattle.archive.proofs.numbers.Arrivals.fill.Given as goal

abbrev pub invariant-loop-place : goal.invariant-loop-place
invariant-loop-place l =
    let a = l.self in
    let i = l.place-index in
    (k : Coding) (width : ℕ) (m : Meaning) → Lawful m → Fit k width a.size m (views a.index.now)
    → (done : List Record) × WalksNumber a.number a.start (rows_of m.sections a.start) done l.at × (length done ≡ i)
    × (take i l.place-items ≡ take i (places_of (those (bears_number a.number) (records_of m.sections))))
