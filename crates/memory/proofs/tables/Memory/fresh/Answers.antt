use Rattle.std.proofs.Common.{refl}
use Rattle.memory_layout.proofs.Fresh.{fresh_well, fresh_means}
use Rattle.memory.proofs.tables.Memory.fresh.Goals as goal

pub invariant_of-result : goal.invariant_of-result
invariant_of-result c = fresh_well _ c.requires.small refl c.requires.places c.requires.room refl refl

pub returns : goal.returns
returns c = fresh_means _ c.requires.small refl c.requires.places c.requires.room refl refl
