use Rattle.voyage.proofs.run_mounted.Goals as goal

pub returns : goal.returns
returns g c = c.run_cached.ensures.law tt c.args.pages.sound
