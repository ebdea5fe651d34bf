use Rattle.std.proofs.Common.{◌≡◌}
use Rattle.format.specs.State.{pruned_entries, gone_below}
use Rattle.pages.specs.Raws.{view}
use Rattle.pages.proofs.raw.Raw.prune.Given as goal

abbrev pub invariant-loop-slot : goal.invariant-loop-slot
invariant-loop-slot l = record {
  end : l.slot-end ≡ l.initial.self.layout.limits.slots;
  bytes : view l.self ≡ record (view l.initial.self) { entries = pruned_entries l.initial.self.layout.limits l.initial.self.entries.now l.min l.slot };
  gone : l.gone ≡ gone_below l.initial.self.layout.limits l.initial.self.entries.now l.min l.slot;
}
