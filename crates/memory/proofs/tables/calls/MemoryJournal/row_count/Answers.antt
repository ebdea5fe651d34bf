use Rattle.std.proofs.Common.{length, sym, ap}
use Rattle.memory_layout.proofs.Seen.{missing}
use Rattle.memory.proofs.Opened.{counted_rows}
use Rattle.memory.proofs.tables.calls.MemoryJournal.row_count.Goals as goal

pub returns-in-Some : goal.returns-in-Some
returns-in-Some c = record { answer = λ o f. counted_rows _ _ c.self.view_is c.self.invariant c.in-Some.slot c.args.start c.in-Some.ensures }

pub returns-in-None : goal.returns-in-None
returns-in-None c = record { answer = λ o f. sym (ap length (missing c.args.self.now c.args.start c.in-None.ensures)) }
