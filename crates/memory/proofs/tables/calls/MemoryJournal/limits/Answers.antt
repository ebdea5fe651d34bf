use Rattle.std.proofs.Common.{ap, subst}
use Rattle.memory_layout.specs.View.{View, Well, limits_of}
use Rattle.memory_layout.proofs.Seen.{lawful}
use Rattle.memory.proofs.tables.calls.MemoryJournal.limits.Goals as goal

pub returns : goal.returns
returns c = record {
  promise = record { answer = λ o f. ap (λ (v : View). limits_of v) c.self.view_is; lawful = λ o f. lawful c.args.self.now f };
  well = subst Well c.self.view_is c.self.invariant;
}
