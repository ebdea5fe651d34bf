use Rattle.std.proofs.Common.{Some}
use Rattle.index_layout.specs.Links.{link}
use Rattle.index.specs.Rows.{named}
use Rattle.index.proofs.Chains.{Walked}
use Rattle.index.proofs.section.Section.matched.Given as goal

abbrev pub invariant-loop-row : goal.invariant-loop-row
invariant-loop-row l = Walked l.self l.bucket l.code (link (named l.fn.from)) (Some l.at)

abbrev pub decreases-loop-row : goal.decreases-loop-row
decreases-loop-row l = l.at
