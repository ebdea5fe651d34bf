use Rattle.std.proofs.Common.{◌≡◌, ℕ, ◌-◌, ◌<◌, List, [], length, IfSome}
use Rattle.journal.specs.Meaning.{Lawful, rows_of}
use Rattle.rules.specs.State.{Record, those, bears_both}
use Rattle.index.specs.Slots.{views}
use Rattle.archive_layout.specs.Fit.{Coding, Fit}
use Rattle.archive_layout.specs.Walks.{WalksNumber, from_link}
use Rattle.archive_layout.specs.Promises.{Reads}
use Rattle.archive.proofs.numbers.Arrivals.has_key.Given as goal

abbrev pub invariant-loop-at : goal.invariant-loop-at
invariant-loop-at g l =
    let j = g.J.Journal in
    let a = l.self in
    IfSome l.at (λ p. p < 128)
    × Reads j.fits j.meaning l.initial.journal l.journal (λ m. (k : Coding) (width : ℕ) → Lawful m → Fit k width a.size m (views a.index.now)
    → (done : List Record) × WalksNumber a.number a.start (rows_of m.sections a.start) done l.at × (length l.key ≡ m.limits.width → those (bears_both a.number l.key) done ≡ []))

abbrev pub decreases-loop-at : goal.decreases-loop-at
decreases-loop-at g l = 128 - from_link l.at 128
