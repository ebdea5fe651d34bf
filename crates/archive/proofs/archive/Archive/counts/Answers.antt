use Rattle.index.specs.Slots.{views}
use Rattle.archive_layout.proofs.Prunes.{counts_are}
use Rattle.archive.specs.Archives.{state_of}
use Rattle.archive.proofs.Fitting.{fit_of, size_of}
use Rattle.archive.proofs.archive.Archive.counts.Goals as goal

pub returns : goal.returns
returns g c o f =
    let a = c.args.self.now in
    let l = size_of a.size c.if-is_none.ensures in
    counts_are _ _ (state_of g.J.Journal.meaning a) l.0 c.counts-kept.result.numbers c.counts-kept.result.records (views a.index) l.1 (fit_of a l.0 f l.1) f.lawful a.index.apart
    c.counts-kept.ensures.numbers c.counts-kept.ensures.records
