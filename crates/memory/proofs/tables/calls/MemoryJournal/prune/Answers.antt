use Rattle.memory.proofs.Opened.{pruned_so}
use Rattle.memory.proofs.tables.calls.MemoryJournal.prune.Goals as goal

pub invariant_of-self : goal.invariant_of-self
invariant_of-self c = (pruned_so _ _ c.self.view_is c.self.invariant c.args.min _ _ _ c.prune_heads-gone.ensures.gone c.prune_heads-gone.ensures.left c.max-self-inside.ensures).well

pub returns : goal.returns
returns c =
    let d = pruned_so _ _ c.self.view_is c.self.invariant c.args.min _ _ _ c.prune_heads-gone.ensures.gone c.prune_heads-gone.ensures.left c.max-self-inside.ensures in
    record { fit = λ o f. d.well; answer = λ o f. d.answer; after = λ o f. d.after }
