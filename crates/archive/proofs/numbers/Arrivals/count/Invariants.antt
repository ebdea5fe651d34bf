use Rattle.std.proofs.Common.{◌≡◌, ℕ, ◌-◌, ◌<◌, ◌≤◌, List, length, IfSome}
use Rattle.journal.specs.Meaning.{Meaning, Lawful, rows_of}
use Rattle.rules.specs.State.{Record}
use Rattle.index.specs.Slots.{views}
use Rattle.archive_layout.specs.Fit.{Coding, Fit}
use Rattle.archive_layout.specs.Walks.{WalksNumber, from_link}
use Rattle.archive.proofs.numbers.Arrivals.count.Given as goal

abbrev pub invariant-loop-at : goal.invariant-loop-at
invariant-loop-at l =
    let a = l.self in
    IfSome l.at (λ p. (l.count ≤ p) × (p < 128))
    × ((k : Coding) (width : ℕ) (m : Meaning) → Lawful m → Fit k width a.size m (views a.index.now)
    → (done : List Record) × WalksNumber a.number a.start (rows_of m.sections a.start) done l.at × (length done ≡ l.count))

abbrev pub decreases-loop-at : goal.decreases-loop-at
decreases-loop-at l = 128 - from_link l.at 128
