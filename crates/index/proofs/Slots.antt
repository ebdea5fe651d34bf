-- Searches among the slots. Assumes nothing.
--   free_place   where the search for a free slot ends
use Rattle.std.proofs.Common.{◌≡◌, ℕ, ◌<◌, true, false, List, map, length, Some, None, Option, MatchOption, ap, ◌∙◌, arith}
use Rattle.std.specs.List.{AllWithin, HoldsAt}
use Rattle.index_layout.specs.Views.{view_at}
use Rattle.index_layout.proofs.Through.{at_view}
use Rattle.index.specs.declared.section.Section.{Section}
use Rattle.index.specs.Viewed.{slot_view}

pub free_place : (xs : List (Option Section)) (r : Option ℕ) → length xs ≡ 16
    → MatchOption r (AllWithin (λ o. (slot_view o).used ≡ true) xs 0 (length xs))
    (λ i. (i < length xs) × HoldsAt (λ o. (slot_view o).used ≡ false) xs i × AllWithin (λ o. (slot_view o).used ≡ true) xs 0 i)
    → MatchOption r ((k : ℕ) → k < 16 → (view_at (map slot_view xs) k).used ≡ true) (λ i. (i < 16) × ((view_at (map slot_view xs) i).used ≡ false))
free_place xs None n all = λ k l. ap (λ v. v.used) (at_view slot_view xs k None (omega arith)) ∙ all k None (omega arith) (omega arith)
free_place xs (Some i) n h = (omega (arith, h.0), ap (λ v. v.used) (at_view slot_view xs i None h.0) ∙ h.1 None)
