use Rattle.lent.proofs.run.serve_mounted.Goals as goal

pub returns-clause-law : goal.returns-clause-law
returns-clause-law g c = c.serve_cached.ensures.law tt c.args.pages.sound
