use Rattle.std.proofs.Common.{◌∙◌}
use Rattle.format.proofs.Meanings.{count_none, count_some}
use Rattle.format.proofs.Mounting.{sound_well}
use Rattle.pages.specs.Raws.{view}
use Rattle.pages.proofs.pages.calls.PagesJournal.row_count.Goals as goal

pub returns-in-Some : goal.returns-in-Some
returns-in-Some c = let v = view c.args.self.now.raw in record { answer = λ o f. c.count_at.ensures.count ∙ count_some v (sound_well v f) c.args.start c.in-Some.slot c.in-Some.ensures.slot }

pub returns-in-None : goal.returns-in-None
returns-in-None c = record { answer = λ o f. count_none (view c.args.self.now.raw) c.args.start c.in-None.ensures.slot }
