use Rattle.std.proofs.Common.{◌<◌, ◌≤◌, length, is_some, sym, refl, ap, ◌∙◌, arith}
use Rattle.std.proofs.lemmas.Bool.{both_ways}
use Rattle.cache.specs.declared.row_copy.RowCopy.{RowCopy}
use Rattle.cache.specs.Table.{Table}
use Rattle.cache.proofs.Finds.{held_after, read_held, read_new}
use Rattle.cache.proofs.Serves.{hit_answers, hit_fills, fits_filled}
use Rattle.cache.proofs.table.cache.Cache.fetch.Goals as goal

pub returns-in-Some : goal.returns-in-Some
returns-in-Some g c =
    let h = c.read.ensures in
    let w = c.key_width-width.ensures in
    let found = sym c.in-Some.ensures in
    record {
      fit = λ o f. f;
      answer = λ o f. h.answer ∙ hit_answers (g.J.Journal.meaning c.args.self.now.below) _ _ _ _ (w.width o f.0) f.1 _ _ found;
      after = λ o f. refl;
      buffer = λ o f. h.buffer ∙ hit_fills (g.J.Journal.meaning c.args.self.now.below) _ _ _ _ (w.width o f.0) f.1 _ _ found;
      filled = λ o f e q. ap is_some found;
      turned = λ o f. read_held _ _ _ _ _ (ap is_some found);
      untouched = λ q. refl;
    }

pub returns-then-width-key : goal.returns-then-width-key
returns-then-width-key g c =
    let a = c.read_entry.ensures in
    let w = c.key_width-width.ensures in
    let same = c.take_place.ensures.below in
    let turn = c.take_place.ensures.table in
    let slots = ap (λ (t : Table). t.slots) turn in
    let place : c.args.self.now.next < length c.args.self.now.slots = omega arith in
    let room : c.key_width-width.result ≤ length c.read_entry.new.key = omega arith in
    record {
      fit = λ o f. rw (same, slots) (a.fit o f.0, fits_filled (g.J.Journal.meaning c.args.self.now.below) _ _ _ _ (w.width o f.0) f.1 _ (w.lawful o f.0) _ _ _ _ _ (a.after o f.0) (sym (a.answer o f.0) ∙ c.in_ok-entry-in-None.was) (a.buffer o f.0) room c.new-copy.ensures);
      answer = λ o f. sym c.in_ok-entry-in-None.was ∙ a.answer o f.0;
      after = λ o f. ap g.J.Journal.meaning same ∙ a.after o f.0;
      buffer = λ o f. a.buffer o f.0;
      filled = λ o f e q. held_after c.args.self.now.slots _ c.args.self.now.next _ _ c.new-copy.result place (ap (λ (x : RowCopy). x.start) c.new-copy.ensures) (ap (λ (x : RowCopy). x.position) c.new-copy.ensures) slots;
      turned = λ o f. read_new _ _ _ _ _ _ _ _ c.new-copy.result (ap is_some (sym c.in-None.ensures)) (w.width o f.0) c.new-copy.ensures turn;
      untouched = λ q. absurd (both_ways _ (ap is_some (sym c.in-None.ensures)) q);
    }
