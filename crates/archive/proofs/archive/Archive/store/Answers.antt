use Rattle.std.proofs.Common.{◌-◌, ◌^◌, ◌<◌, sym, refl, ap, ◌∙◌, subst, arith}
use Rattle.std.proofs.lemmas.Result.{err_from_is_err_and}
use Rattle.std.proofs.lemmas.Bool.{both_ways}
use Rattle.journal.specs.Meaning.{Lawful}
use Rattle.journal.proofs.Laws.{lawful_appended}
use Rattle.rules.specs.Calls.{stored_by, with_journal}
use Rattle.index_layout.specs.Views.{bucket_of}
use Rattle.index_layout.specs.Held.{has_room, Noted}
use Rattle.index.specs.Slots.{views}
use Rattle.archive_layout.specs.Fit.{FitBy}
use Rattle.archive_layout.proofs.Fits.{room_for, fit_appended, refused}
use Rattle.archive.specs.Parts.{coding_of}
use Rattle.archive.specs.Archives.{state_of, Fits}
use Rattle.archive.proofs.Fitting.{fit_of, fit_read}
use Rattle.archive.proofs.archive.Archive.store.Goals as goal

pub returns-in_err-position : goal.returns-in_err-position
returns-in_err-position g c l size home =
    let a = c.args.self.now in
    let s = state_of g.J.Journal.meaning a in
    let key = g.K.Key.bytes c.args.key.now in
    let b = rw c.new-wanted.ensures.key at c.append.ensures in
    let m = g.J.Journal.meaning c.append.new.self in
    let fault = c.in_err-position.field-0.0 in
    let e = err_from_is_err_and c.from_residual.result c.from_residual.ensures.1 in
    record {
      fit = λ o f. fit_read a _ refl refl refl (refused s.journal m c.args.start c.args.label key c.args.value.now fault (sym (b.answer o f.journal) ∙ c.in_err-position.was) (b.after o f.journal)) (b.fit o f.journal) f;
      answer = λ o f. rw (e.1, e.2) (ap (stored_by c.args.start) (sym c.in_err-position.was ∙ b.answer o f.journal));
      after = λ o f. ap (with_journal s) (b.after o f.journal);
      same = refl;
    }

-- The index has room for what the journal took.
pub returns-in_err-map_err : goal.returns-in_err-map_err
returns-in_err-map_err g c l size home =
    let a = c.args.self.now in
    let s = state_of g.J.Journal.meaning a in
    let start = c.args.start in
    let b = rw c.new-wanted.ensures.key at c.append.ensures in
    let never = λ (o : g.J.Journal.past) (f : Fits g.J.Journal.fits g.J.Journal.meaning g.T.Translator.translated g.T.Translator.hashed g.K.Key.W o a).
    both_ways _ (sym c.in_err-map_err.ensures.variant)
    (c.note.ensures.is ∙ ap (has_room (views a.index) start) c.saturating_sub-offset.ensures
    ∙ room_for _ _ l s.journal (g.J.Journal.meaning c.append.new.self) (views a.index) start c.in_ok-position.position c.args.label (g.K.Key.bytes c.args.key.now) c.args.value.now
    (fit_of a l f size) f.lawful a.index.apart (sym home) (sym (b.answer o f.journal) ∙ c.in_ok-position.was) (b.after o f.journal)) in
    record { fit = λ o f. absurd (never o f); answer = λ o f. absurd (never o f); after = λ o f. absurd (never o f); same = refl }

pub returns : goal.returns
returns g c l size home =
    let a = c.args.self.now in
    let s = state_of g.J.Journal.meaning a in
    let k = coding_of g.T.Translator.translated g.T.Translator.hashed a.translator in
    let start = c.args.start in
    let key = g.K.Key.bytes c.args.key.now in
    let value = c.args.value.now in
    let b = rw c.new-wanted.ensures.key at c.append.ensures in
    let m = g.J.Journal.meaning c.append.new.self in
    let p = c.in_ok-position.position in
    let low : start < 2 ^ 64 = omega arith in
    let noted : Noted (views a.index) (views c.note.new.self) start (c.args.label.number - start) (k.translated key) (bucket_of (k.hashed (k.translated key))) =
    rw (← c.saturating_sub-offset.ensures, ← c.new-wanted.ensures.code, ← c.new-wanted.ensures.hash) (c.note.ensures.starts (sym c.in_ok-map_err.ensures.variant)) in
    record {
      fit = λ o f. record {
        journal = b.fit o f.journal;
        lawful = subst (λ x. Lawful x) (sym (b.after o f.journal)) (lawful_appended s.journal start c.args.label key value low f.lawful);
        index = subst (λ x. FitBy k g.K.Key.W x m (views c.note.new.self)) (sym size)
            (fit_appended k g.K.Key.W l s.journal m (views a.index) start p c.args.label key value (fit_of a l f size) f.lawful a.index.apart (sym home)
            (sym (b.answer o f.journal) ∙ c.in_ok-position.was) (b.after o f.journal) (views c.note.new.self) noted);
      };
      answer = λ o f. ap (stored_by start) (sym c.in_ok-position.was ∙ b.answer o f.journal);
      after = λ o f. ap (with_journal s) (b.after o f.journal);
      same = refl;
    }
