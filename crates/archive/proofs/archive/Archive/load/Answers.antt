use Rattle.std.proofs.Common.{ℕ, sym, refl, ap, ap₂, ◌∙◌, subst}
use Rattle.journal.specs.declared.limits.Limits.{Limits}
use Rattle.journal.specs.Meaning.{Lawful}
use Rattle.journal.specs.Calls.{or_fault}
use Rattle.index_layout.specs.Held.{found}
use Rattle.index.specs.Slots.{views}
use Rattle.rules.specs.Calls.{load_check, with_journal, loaded}
use Rattle.archive_layout.specs.Fit.{Fit, FitBy}
use Rattle.archive_layout.proofs.Loaded.{ready, indexed_fit, indexed, not_indexed}
use Rattle.archive.specs.Parts.{kind_of, coding_of}
use Rattle.archive.specs.Archives.{state_of, Fits}
use Rattle.archive.proofs.Fitting.{unloaded}
use Rattle.archive.proofs.archive.Archive.load.Goals as goal

pub returns-in-Ok : goal.returns-in-Ok
returns-in-Ok g c =
    let a = c.args.self.now in
    let s = state_of g.J.Journal.meaning a in
    let l = c.args.size in
    let k = coding_of g.T.Translator.translated g.T.Translator.hashed a.translator in
    let kind = kind_of g.T.Translator.translated g.K.Key.W g.K.Key.flaw a.translator in
    let b = c.take_all-loaded.ensures.reads in
    let vs = views a.index in
    let vs' = views c.take_all-loaded.new.self.index.now in
    let fresh = unloaded a.size (sym c.is_some.ensures ∙ c.if-is_some.false) in
    let is = λ (o : g.J.Journal.past) (f : Fits g.J.Journal.fits g.J.Journal.meaning g.T.Translator.translated g.T.Translator.hashed g.K.Key.W o a).
    c.check_load.ensures ∙ ap₂ (λ (m : Limits) (w : ℕ). or_fault (load_check l m w) tt) (c.limits.ensures.answer o f.journal) c.width.ensures in
    let empty = λ (o : g.J.Journal.past) (f : Fits g.J.Journal.fits g.J.Journal.meaning g.T.Translator.translated g.T.Translator.hashed g.K.Key.W o a).
    subst (λ z. FitBy k g.K.Key.W z s.journal vs) fresh f.index in
    let all = λ (o : g.J.Journal.past) (f : Fits g.J.Journal.fits g.J.Journal.meaning g.T.Translator.translated g.T.Translator.hashed g.K.Key.W o a).
    b.told o f.journal f.lawful (ready kind k s l fresh c.check_load.result (is o f) c.in_ok-check_load.was vs vs' (empty o f)) in
    record {
      fit = λ o f. record {
        journal = b.fit o f.journal;
        lawful = subst (λ m. Lawful m) (sym (b.after o f.journal)) f.lawful;
        index = subst (λ m. Fit k g.K.Key.W l m vs') (sym (b.after o f.journal))
            (indexed_fit kind k s l fresh c.check_load.result (is o f) c.in_ok-check_load.was vs vs' (empty o f) c.take_all-loaded.result (all o f) c.in-Ok.field-0 c.in-Ok.is);
      };
      answer = λ o f. (indexed kind k s l fresh c.check_load.result (is o f) c.in_ok-check_load.was vs vs' (empty o f) c.take_all-loaded.result (all o f) c.in-Ok.field-0 c.in-Ok.is).answer;
      after = λ o f.
          ap (with_journal (loaded s l)) (b.after o f.journal)
          ∙ (indexed kind k s l fresh c.check_load.result (is o f) c.in_ok-check_load.was vs vs' (empty o f) c.take_all-loaded.result (all o f) c.in-Ok.field-0 c.in-Ok.is).after;
      same = refl;
    }

pub returns-in-Err : goal.returns-in-Err
returns-in-Err g c =
    let a = c.args.self.now in
    let s = state_of g.J.Journal.meaning a in
    let l = c.args.size in
    let k = coding_of g.T.Translator.translated g.T.Translator.hashed a.translator in
    let kind = kind_of g.T.Translator.translated g.K.Key.W g.K.Key.flaw a.translator in
    let b = c.take_all-loaded.ensures.reads in
    let vs = views a.index in
    let vs' = views c.take_all-loaded.new.self.index.now in
    let fresh = unloaded a.size (sym c.is_some.ensures ∙ c.if-is_some.false) in
    let is = λ (o : g.J.Journal.past) (f : Fits g.J.Journal.fits g.J.Journal.meaning g.T.Translator.translated g.T.Translator.hashed g.K.Key.W o a).
    c.check_load.ensures ∙ ap₂ (λ (m : Limits) (w : ℕ). or_fault (load_check l m w) tt) (c.limits.ensures.answer o f.journal) c.width.ensures in
    let empty = λ (o : g.J.Journal.past) (f : Fits g.J.Journal.fits g.J.Journal.meaning g.T.Translator.translated g.T.Translator.hashed g.K.Key.W o a).
    subst (λ z. FitBy k g.K.Key.W z s.journal vs) fresh f.index in
    let all = λ (o : g.J.Journal.past) (f : Fits g.J.Journal.fits g.J.Journal.meaning g.T.Translator.translated g.T.Translator.hashed g.K.Key.W o a).
    b.told o f.journal f.lawful (ready kind k s l fresh c.check_load.result (is o f) c.in_ok-check_load.was vs vs' (empty o f)) in
    record {
      fit = λ o f. record {
        journal = b.fit o f.journal;
        lawful = subst (λ m. Lawful m) (sym (b.after o f.journal)) f.lawful;
        index = subst (λ z. FitBy k g.K.Key.W z (g.J.Journal.meaning c.take_all-loaded.new.journal) (views c.clear.new.self)) (sym fresh) (λ t. ap (λ xs. found xs t) c.clear.ensures.views);
      };
      answer = λ o f. (not_indexed kind k s l fresh c.check_load.result (is o f) c.in_ok-check_load.was vs vs' (empty o f) c.take_all-loaded.result (all o f) c.in-Err.field-0 c.in-Err.is).answer;
      after = λ o f.
          ap (with_journal s) (b.after o f.journal)
          ∙ (not_indexed kind k s l fresh c.check_load.result (is o f) c.in_ok-check_load.was vs vs' (empty o f) c.take_all-loaded.result (all o f) c.in-Err.field-0 c.in-Err.is).after;
      same = refl;
    }
