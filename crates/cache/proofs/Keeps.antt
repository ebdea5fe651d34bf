-- That the table goes on fitting the journal below. Assumes nothing.
use Rattle.std.proofs.Common.{◌≡◌, ℕ, ltb, List, map, Some, None, Option, sym, ap, ◌∙◌, subst}
use Rattle.std.specs.List.{slice_get}
use Rattle.std.proofs.ByRecursion.{All-weaker, All-map}
use Rattle.std.proofs.lemmas.Bool.{cond_both, ltb-false}
use Rattle.journal.specs.declared.row.Label.{Label}
use Rattle.journal.specs.declared.fault.JournalFault.{JournalFault}
use Rattle.journal.specs.Meaning.{Meaning, Row, row_at}
use Rattle.journal.specs.Calls.{append_fault, appended, or_keep, with_row, new_row, pruned}
use Rattle.journal.proofs.Rows.{row_stays, rows_kept_from}
use Rattle.journal.proofs.Laws.{limits_appended}
use Rattle.cache.specs.Fit.{SlotFits, TableFits}
use Rattle.cache.specs.Table.{forgotten}
use Rattle.cache.specs.declared.row_copy.RowCopy.{RowCopy}

-- An append leaves the rows that there are.
module _ (m : Meaning) (s : ℕ) (label : Label) (key value : List ℕ) where
  row_kept : (f : Option JournalFault) (t p : ℕ) (r : Row) → row_at m t p ≡ Some r → row_at (or_keep f (with_row m s (new_row label key value)) m) t p ≡ Some r
  row_kept (Some f) t p r h = h
  row_kept None t p r h = row_stays m.sections s t p (new_row label key value) r h

  slot_appended : (x : Option RowCopy) → SlotFits m x → SlotFits (appended m s label key value) x
  slot_appended None k = k
  slot_appended (Some x) k =
      (k.0, row_kept (append_fault m s key value) x.start x.position k.0 k.1, rw (limits_appended m s label key value) k.2)

-- From what an append below promises.
pub fits_appended : (m m' : Meaning) (s : ℕ) (label : Label) (key value : List ℕ) (xs : List (Option RowCopy)) → TableFits m xs → m' ≡ appended m s label key value → TableFits m' xs
fits_appended m m' s label key value xs fits to =
    subst (λ (n : Meaning). TableFits n xs) (sym to) (All-weaker (SlotFits m) (SlotFits (appended m s label key value)) (slot_appended m s label key value) xs fits)

-- A prune leaves the rows of the sections that stay, and the places of the others are emptied.
slot_pruned : (m : Meaning) (n : ℕ) (x : Option RowCopy) → SlotFits m x → SlotFits (pruned m n) (forgotten n x)
slot_pruned m n None k = k
slot_pruned m n (Some x) k =
    cond_both (ltb x.start n) None (Some x) (SlotFits (pruned m n)) (λ _. tt)
    (λ e. (k.0, ap (λ rs. slice_get rs x.position) (rows_kept_from m.sections n x.start (ltb-false _ _ e)) ∙ k.1, record { entry = k.2.entry; key = k.2.key }))

-- From what a prune below promises.
pub fits_pruned : (m m' : Meaning) (n : ℕ) (xs ys : List (Option RowCopy)) → TableFits m xs → m' ≡ pruned m n → ys ≡ map (forgotten n) xs → TableFits m' ys
fits_pruned m m' n xs ys fits to slots =
    subst (λ (zs : List (Option RowCopy)). TableFits m' zs) (sym slots) (subst (λ (k : Meaning). TableFits k (map (forgotten n) xs)) (sym to)
    (All-map (SlotFits (pruned m n)) (forgotten n) xs (All-weaker (SlotFits m) (λ x. SlotFits (pruned m n) (forgotten n x)) (slot_pruned m n) xs fits)))
