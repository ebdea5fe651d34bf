use Rattle.std.proofs.Common.{◌≡◌}
use Rattle.script.proofs.input.Script.next_line.Given as goal

abbrev pub invariant-loop : goal.invariant-loop
invariant-loop l = l.self.counts ≡ l.initial.self.counts
