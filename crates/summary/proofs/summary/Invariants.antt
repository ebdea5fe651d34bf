use Rattle.journal.proofs.Walks.{from_or_end}
use Rattle.summary.proofs.Laying.{Walked}
use Rattle.summary.proofs.summary.Given as goal

abbrev pub invariant-loop-i : goal.invariant-loop-i
invariant-loop-i g l =
    let j = g.J.Journal in
    (o : j.past) → j.fits o l.initial.journal →
    j.fits o l.journal × Walked (j.meaning l.initial.journal) (j.meaning l.journal) (from_or_end l.from) l.i l.initial.out l.out
