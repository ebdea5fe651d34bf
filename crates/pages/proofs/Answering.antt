-- What a read that leaves byte pages as they are promises, from its answer and its buffer. Assumes nothing.
use Rattle.std.proofs.Common.{◌≡◌, ℕ, List, length, Result, refl}
use Rattle.journal.specs.declared.row.Entry.{Entry}
use Rattle.journal.specs.declared.fault.JournalFault.{JournalFault}
use Rattle.journal.specs.Calls.{entry_read, entry_buffer, value_read, value_buffer}
use Rattle.journal.specs.Promises.{ReadsEntry, ReadsValue}
use Rattle.pages.specs.declared.pages.Pages.{Pages}
use Rattle.pages.specs.Journals.{means, Fits}

module _ (p : Pages) {start position : ℕ} {old new : List ℕ} where
  pub reads_entry : {r : Result Entry JournalFault} → (r ≡ entry_read (means p) start position (length old)) × (new ≡ entry_buffer (means p) start position old)
      → ReadsEntry Fits means p p start position old new r
  reads_entry e = record { fit = λ o f. f; answer = λ o f. e.0; after = λ o f. refl; buffer = λ o f. e.1 }

  pub reads_value : {r : Result ℕ JournalFault} → (r ≡ value_read (means p) start position (length old)) × (new ≡ value_buffer (means p) start position old)
      → ReadsValue Fits means p p start position old new r
  reads_value e = record { fit = λ o f. f; answer = λ o f. e.0; after = λ o f. refl; buffer = λ o f. e.1 }
