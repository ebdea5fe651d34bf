use Rattle.std.proofs.Common.{arith}
use Rattle.archive_layout.proofs.Reading.{read_so, read_on}
use Rattle.archive_layout.proofs.Searches.{listed_end, listed_more, listed_most}
use Rattle.archive.proofs.search.Search.count.Goals as goal

pub returns-in_default : goal.returns-in_default
returns-in_default g c = read_on c.loop-count.invariant c.next.ensures (λ m p q k width known. listed_end known (p k width known) (q k width known) c.in_default.is)

pub loop-count-preserved : goal.loop-count-preserved
loop-count-preserved g c = read_on c.loop-count.invariant c.next.ensures (λ m p q k width known. listed_more known (p k width known) (q k width known) c.in-Some.spot c.in-Some.is)

pub returns : goal.returns
returns g c = read_so c.loop-count.invariant (λ m p k width known. let b = listed_most known in let w = (p k width known).within in omega arith)
