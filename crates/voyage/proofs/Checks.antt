-- What an accepted check tells. Assumes nothing.
use Rattle.std.proofs.Common.{◌≡◌, ℕ, Some, None, Ok, Option, Result, sym, refl, ◌∙◌, arith}
use Rattle.journal.specs.declared.fault.JournalFault.{JournalFault}
use Rattle.journal.specs.Making.{checked}

pub no_fault : (o : Option JournalFault) (r : Result Unit JournalFault) → r ≡ checked o → r ≡ Ok tt → o ≡ None
no_fault None r is e = refl
no_fault (Some f) r is e = let q = sym is ∙ e in let z : ◌≡◌ {A = ℕ} 0 1 = cc in absurd (omega arith)
