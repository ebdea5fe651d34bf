use Rattle.std.proofs.Common.{◌≡◌, true, sym, ap, ◌∙◌, subst}
use Rattle.format.specs.State.{View, is_sound, meaning_of}
use Rattle.format.proofs.Mounting.{sound_well}
use Rattle.format.proofs.Prunes.{sound_pruned, gone_any, meaning_pruned}
use Rattle.pages.specs.Raws.{view}
use Rattle.pages.proofs.pages.calls.PagesJournal.prune.Goals as goal

pub invariant_of-self : goal.invariant_of-self
invariant_of-self c = record { sound = subst (λ (v : View). is_sound v ≡ true) (sym c.prune.ensures.after) (sound_pruned (view c.args.self.now.raw) c.args.min c.args.self.now.sound) }

pub returns-clause-promise : goal.returns-clause-promise
returns-clause-promise c =
    let v = view c.args.self.now.raw in
    record {
      fit = λ o f. subst (λ (w : View). is_sound w ≡ true) (sym c.prune.ensures.after) (sound_pruned v c.args.min f);
      answer = λ o f. gone_any v c.args.min _ c.prune.ensures.answer;
      after = λ o f. ap meaning_of c.prune.ensures.after ∙ meaning_pruned v (sound_well v f) c.args.min;
    }
