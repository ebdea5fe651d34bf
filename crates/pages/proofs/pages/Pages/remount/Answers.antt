use Rattle.std.proofs.Common.{ap, ◌∙◌}
use Rattle.format.specs.State.{meaning_of}
use Rattle.format.proofs.Makes.{lasts}
use Rattle.pages.specs.Raws.{view}
use Rattle.pages.proofs.pages.Pages.remount.Goals as goal

pub returns-clause-meaning : goal.returns-clause-meaning
returns-clause-meaning c = ap meaning_of (c.mount.ensures.bytes ∙ lasts (view c.args.self.raw) c.args.self.sound)

pub returns-clause-bytes : goal.returns-clause-bytes
returns-clause-bytes c = c.mount.ensures.bytes ∙ lasts (view c.args.self.raw) c.args.self.sound
