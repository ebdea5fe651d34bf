use Rattle.std.proofs.Common.{refl}
use Rattle.format.proofs.Meanings.{lawful}
use Rattle.pages.specs.Raws.{view}
use Rattle.pages.proofs.pages.calls.PagesJournal.limits.Goals as goal

pub returns : goal.returns
returns c = record { answer = λ o f. refl; lawful = λ o f. lawful (view c.args.self.now.raw) f }
