use Rattle.archive_layout.proofs.Reading.{read_so}
use Rattle.archive_layout.proofs.Searches.{next_is}
use Rattle.archive.proofs.search.Search.next.Goals as goal

pub returns : goal.returns
returns g c = read_so c.least_bearer.ensures (λ m p k width known. next_is known c.start_behind.result c.args.after _ c.start_behind.ensures (p k width known))
