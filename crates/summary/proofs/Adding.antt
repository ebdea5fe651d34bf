-- Adding up the rows of a section, one read after another. Assumes nothing.
use Rattle.std.proofs.Common.{◌≡◌, ℕ, zero, suc, ◌+◌, ◌-◌, ◌^◌, ◌<◌, ◌≤◌, min, List, [], ◌∷◌, length, get_or, take, Ok, Result, sym, ap, ◌∙◌, arith}
use Rattle.std.proofs.lemmas.List.{take_more}
use Rattle.std.proofs.lemmas.Option.{slice_get-get_or}
use Rattle.std.proofs.lemmas.Bool.{cond-false, le-ltb}
use Rattle.journal.specs.declared.row.Entry.{Entry}
use Rattle.journal.specs.declared.fault.JournalFault.{JournalFault}
use Rattle.journal.specs.Meaning.{Meaning, Row, Lawful, damaged, size, cost, cost_of, rows_of}
use Rattle.journal.specs.Calls.{entry_read, entry_answer, entry_of}
use Rattle.journal.proofs.Laws.{cost_push}
use Rattle.journal.proofs.Rows.{rows_cost}

cost_take : (n : ℕ) (xs : List Row) → cost (take n xs) ≤ cost xs
cost_take zero xs = omega arith
cost_take (suc n) [] = omega arith
cost_take (suc n) (x ∷ xs) = let i = cost_take n xs in omega arith

no_row : Row
no_row = record { label = record { number = 0 }; key = []; content = damaged 0 }

module _ (m m' : Meaning) (s p room : ℕ) (to : m' ≡ m) (lawful : Lawful m) (wide : room ≡ 32) (inside : p < length (rows_of m.sections s)) where
  the_row : Row
  the_row = get_or (rows_of m.sections s) p no_row

  -- The read is accepted.
  reads : entry_read m' s p room ≡ Ok (entry_of the_row)
  unfolding the_row
  reads =
      let fit : m.limits.width ≤ room = omega (arith, lawful.narrow, wide) in
      ap (λ (k : Meaning). entry_read k s p room) to
      ∙ ap (λ o. entry_answer o m.limits.width s p room) (slice_get-get_or (rows_of m.sections s) p no_row inside)
      ∙ cond-false _ _ _ (le-ltb _ _ fit)

  more : cost (take (p + 1) (rows_of m.sections s)) ≡ cost (take p (rows_of m.sections s)) + cost_of (size the_row.content)
  unfolding the_row
  more = ap cost (take_more (rows_of m.sections s) p no_row inside) ∙ cost_push (take p (rows_of m.sections s)) (get_or (rows_of m.sections s) p no_row)

  pub step : (top before one now : ℕ) (e : Entry) → m.limits.bytes ≡ top → top < 2 ^ 64 → entry_read m' s p room ≡ Ok e → before ≡ cost (take p (rows_of m.sections s))
      → one ≡ min (cost_of e.length) (2 ^ 64 - 1) → now ≡ min (one + before) (2 ^ 64 - 1) → now ≡ cost (take (p + 1) (rows_of m.sections s))
  step top before one now e lim low answer was is sum =
      let k : ◌≡◌ {A = Result Entry JournalFault} (Ok (entry_of the_row)) (Ok e) = sym reads ∙ answer in
      let q : entry_of the_row ≡ e = cc in
      let n : size the_row.content ≡ e.length = ap (λ (y : Entry). y.length) q in
      let b : cost (rows_of m.sections s) ≤ m.limits.bytes = rows_cost m.limits m.sections s lawful.within in
      let t = cost_take (p + 1) (rows_of m.sections s) in
      omega (arith, more, n, b, t, lim, low, was, is, sum)
