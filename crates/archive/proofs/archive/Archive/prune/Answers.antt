use Rattle.std.proofs.Common.{◌≡◌, rules, sym, refl, ◌∙◌, subst}
use Rattle.index.specs.Slots.{views}
use Rattle.journal.specs.Meaning.{Lawful}
use Rattle.journal.proofs.Laws.{lawful_pruned}
use Rattle.rules.specs.Calls.{floor_reaches}
use Rattle.archive_layout.specs.Fit.{FitBy}
use Rattle.archive_layout.proofs.Fits.{fit_pruned}
use Rattle.archive_layout.proofs.Prunes.{prune_struck}
use Rattle.archive.specs.Parts.{coding_of}
use Rattle.archive.specs.Archives.{state_of, Fits}
use Rattle.archive.proofs.Fitting.{fit_of}
use Rattle.archive.proofs.archive.Archive.prune.Goals as goal

pub returns : goal.returns
returns g c =
    let a = c.args.self.now in
    let s = state_of g.J.Journal.meaning a in
    let k = coding_of g.T.Translator.translated g.T.Translator.hashed a.translator in
    let b = c.prune.ensures in
    let l = c.in-Some.size in
    let start = c.section_of-start.result in
    let m = g.J.Journal.meaning c.prune.new.self in
    let is = λ (o : g.J.Journal.past) (f : Fits g.J.Journal.fits g.J.Journal.meaning g.T.Translator.translated g.T.Translator.hashed g.K.Key.W o a).
    let is : c.is_some_and.result ≡ floor_reaches a.floor start = search rules in
    prune_struck s c.args.min l start c.in-Some.is c.section_of-start.ensures k g.K.Key.W c.strike-struck.result.numbers c.strike-struck.result.records m (views a.index)
    (sym is ∙ c.if-is_some_and.false) (fit_of a l f c.in-Some.is) f.lawful a.index.apart c.strike-struck.ensures.numbers c.strike-struck.ensures.records (b.after o f.journal) in
    record {
      fit = λ o f. record {
        journal = b.fit o f.journal;
        lawful = subst (λ x. Lawful x) (sym (b.after o f.journal)) (lawful_pruned s.journal start f.lawful);
        index = subst (λ x. FitBy k g.K.Key.W x m (views c.strike-struck.new.self)) (sym c.in-Some.is)
            (fit_pruned k g.K.Key.W l s.journal m (views a.index) (views c.strike-struck.new.self) start (fit_of a l f c.in-Some.is) (b.after o f.journal) c.strike-struck.ensures.views);
      };
      answer = λ o f. (is o f).answer;
      after = λ o f. (is o f).after;
      same = refl;
    }
