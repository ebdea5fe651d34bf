-- What a read answers, from the record that the code finds. Assumes nothing.
use Rattle.std.proofs.Common.{◌≡◌, ℕ, ◌+◌, ◌<◌, ◌≤◌, List, length, Ok, Err, Option, sym, ap, ◌∙◌, arith}
use Rattle.std.proofs.lemmas.Bool.{cond-true, cond-false, lt-ltb, le-ltb}
use Rattle.journal.specs.Bytes.{chunk}
use Rattle.journal.proofs.Bytes.{length_chunk}
use Rattle.journal.specs.declared.fault.JournalFault.TheVariants.{Short}
use Rattle.journal.specs.Meaning.{Row}
use Rattle.journal.specs.Calls.{entry_answer, entry_read, value_answer, value_fill, value_read, value_buffer}
use Rattle.memory_layout.specs.declared.record.RowRecord.{RowRecord}
use Rattle.memory_layout.specs.View.{View, Lies, meaning_of}

module _ (v : View) (s p : ℕ) (r : RowRecord) (lies : Lies v s p r) where
  long : length (chunk v.bytes (r.at + v.width) r.length) ≡ r.length
  long = length_chunk v.bytes (r.at + v.width) r.length lies.within

  pub entry_ok : (room : ℕ) → v.width ≤ room → Ok (record { label = r.label; length = r.length }) ≡ entry_read (meaning_of v) s p room
  entry_ok room h =
      sym (ap (λ (o : Option Row). entry_answer o v.width s p room) lies.row ∙ cond-false _ _ _ (le-ltb _ _ h)
      ∙ ap (λ (n : ℕ). Ok (record { label = r.label; length = n })) long)

  pub value_short : (room : ℕ) → room < r.length → Err (Short s p r.length) ≡ value_read (meaning_of v) s p room
  value_short room h =
      let l : room < length (chunk v.bytes (r.at + v.width) r.length) = omega (arith, long) in
      sym (ap (λ (o : Option Row). value_answer o s p room) lies.row ∙ cond-true _ _ _ (lt-ltb _ _ l)
      ∙ ap (λ (n : ℕ). Err (Short s p n)) long)

  pub value_kept : (before : List ℕ) → length before < r.length → before ≡ value_buffer (meaning_of v) s p before
  value_kept before h =
      let l : length before < length (chunk v.bytes (r.at + v.width) r.length) = omega (arith, long) in
      sym (ap (λ (o : Option Row). value_fill o before) lies.row ∙ cond-true _ _ _ (lt-ltb _ _ l))
