use Rattle.format.proofs.Makes as makes
use Rattle.pages.specs.Raws.{view}
use Rattle.pages.proofs.pages.Pages.entries.Goals as goal

pub returns-clause-lasts : goal.returns-clause-lasts
returns-clause-lasts c = makes.lasts (view c.args.self.now.raw) c.args.self.now.sound
