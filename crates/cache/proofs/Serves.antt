-- That a copy answers as the journal below would, and that a place filled from an answer fits. Assumes nothing.
use Rattle.std.proofs.Common.{◌≡◌, ℕ, ◌≤◌, ltb, List, ◌++◌, length, take, drop, set, Some, Ok, Option, sym, ap, ◌∙◌, arith}
use Rattle.std.proofs.ByRecursion.{All-set}
use Rattle.std.proofs.lemmas.Bool.{cond-false, le-ltb}
use Rattle.std.proofs.lemmas.List.{take_at}
use Rattle.journal.specs.declared.row.Entry.{Entry}
use Rattle.journal.specs.Meaning.{Meaning, Row, Lawful, row_at}
use Rattle.journal.specs.Calls.{entry_read, entry_answer, entry_buffer, entry_fill}
use Rattle.journal.proofs.Rows.{key_width, entry_found}
use Rattle.cache.specs.Fit.{SlotFits, TableFits, Copies}
use Rattle.cache.specs.Row.{copy_answer, copy_fill, padding, copy_of}
use Rattle.cache.specs.Table.{find_slot}
use Rattle.cache.specs.declared.row_copy.RowCopy.{RowCopy}
use Rattle.cache.proofs.Finds.{found}

module _ (m : Meaning) (w s p : ℕ) (xs : List (Option RowCopy)) (wide : w ≡ m.limits.width) (fits : TableFits m xs) where
  -- The row that a copy found is of.
  the_row : (x : RowCopy) → find_slot xs s p ≡ Some x → (r : Row) × (row_at m s p ≡ Some r) × Copies m.limits.width x r × (x.start ≡ s) × (x.position ≡ p)
  the_row x e =
      let f = found (SlotFits m) xs s p x fits e in
      let k = f.known in
      (k.0, sym (ap (λ a. row_at m a x.position) f.start ∙ ap (λ b. row_at m s b) f.position) ∙ k.1, k.2, f.start, f.position)

  pub hit_answers : (x : RowCopy) (room : ℕ) → find_slot xs s p ≡ Some x → copy_answer x w room ≡ entry_read m s p room
  hit_answers x room f =
      let k = the_row x f in
      let a : entry_read m s p room ≡ entry_answer (Some k.0) m.limits.width s p room = ap (λ o. entry_answer o m.limits.width s p room) k.1 in
      cc (k.2.entry, k.3, k.4)

  pub hit_fills : (x : RowCopy) (buffer : List ℕ) → find_slot xs s p ≡ Some x → copy_fill x w buffer ≡ entry_buffer m s p buffer
  hit_fills x buffer f =
      let k = the_row x f in
      let a : entry_buffer m s p buffer ≡ entry_fill (Some k.0) m.limits.width buffer = ap (λ o. entry_fill o m.limits.width buffer) k.1 in
      cc k.2.key

  -- From what the reading below promises.
  pub fits_filled : (m' : Meaning) (lawful : Lawful m) (at : ℕ) (e : Entry) (before after : List ℕ) (x : RowCopy)
      → m' ≡ m → entry_read m s p (length before) ≡ Ok e → after ≡ entry_buffer m s p before → w ≤ length after
      → x ≡ copy_of s p e (take w after) → TableFits m' (set xs at (Some x))
  fits_filled m' lawful at e before after x to answer buffer room is =
      let k = entry_found (row_at m s p) m.limits.width s p (length before) e answer in
      let b : after ≡ k.0.key ++ drop m.limits.width before =
      buffer ∙ ap (λ o. entry_fill o m.limits.width before) k.1
      ∙ cond-false (ltb (length before) m.limits.width) before (k.0.key ++ drop m.limits.width before) (le-ltb _ _ k.2) in
      let n : length k.0.key ≡ m.limits.width = key_width m s p k.0 lawful k.1 in
      let t : take w after ≡ k.0.key = ap (take w) b ∙ take_at k.0.key (drop m.limits.width before) w (omega (arith, n, wide)) in
      let q : take m.limits.width (padding (take w after)) ≡ k.0.key =
      ap (λ ks. take m.limits.width (padding ks)) t ∙ take_at k.0.key _ m.limits.width n in
      rw (is, to) (All-set (SlotFits m) xs at _ (k.0, k.1, record { entry = sym k.3; key = q }) fits)
