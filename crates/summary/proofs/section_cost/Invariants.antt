use Rattle.std.proofs.Common.{◌≡◌, length, take}
use Rattle.journal.specs.Meaning.{rows_of, cost}
use Rattle.summary.proofs.section_cost.Given as goal

abbrev pub invariant-loop-position : goal.invariant-loop-position
invariant-loop-position g l =
    let j = g.J.Journal in
    let m = j.meaning l.initial.journal in
    (length l.key ≡ 32)
    × ((o : j.past) → j.fits o l.initial.journal →
    j.fits o l.journal
    × (j.meaning l.journal ≡ m)
    × (l.cost ≡ cost (take l.position (rows_of m.sections l.start))))
