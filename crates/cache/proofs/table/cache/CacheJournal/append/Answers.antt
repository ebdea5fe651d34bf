use Rattle.cache.proofs.Keeps.{fits_appended}
use Rattle.cache.proofs.table.cache.CacheJournal.append.Goals as goal

pub returns-clause-promise : goal.returns-clause-promise
returns-clause-promise g c =
    let a = c.append.ensures in
    record {
      fit = λ o f. (a.fit o f.0, fits_appended _ _ _ _ _ _ _ f.1 (a.after o f.0));
      answer = λ o f. a.answer o f.0;
      after = λ o f. a.after o f.0;
    }
