use Rattle.law.proofs.Whole.{runs_obey}
use Rattle.law.proofs.runs_obey.Goals as goal

pub returns : goal.returns
returns c = runs_obey
