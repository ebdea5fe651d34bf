use Rattle.std.proofs.Common.{◌≡◌, ℕ, ◌<◌, get_or, length, List, Option, None, MatchOption, rules, tests, subst, ◌∙◌}
use Rattle.std.proofs.lemmas.Iterator.{YieldsList-from_slice}
use Rattle.std.proofs.lemmas.Iterator.Adapters.{position_from-zero}
use Rattle.std.proofs.lemmas.Iterator.Search.{position_from_yields_List}
use Rattle.cache.specs.declared.row_copy.RowCopy.{RowCopy}
use Rattle.cache.specs.Table.{find_slot}
use Rattle.cache.proofs.Finds.{has_copy, place_found}
use Rattle.cache.proofs.table.find.Goals as goal

-- What the place that the search names has.
abbrev Tells : List (Option RowCopy) → ℕ → ℕ → Option ℕ → Type 0
Tells xs s p o = MatchOption o (None ≡ find_slot xs s p) (λ i. (i < length xs) × ((d : Option RowCopy) → get_or xs i d ≡ find_slot xs s p))

pub returns : goal.returns
returns c =
    let xs = c.args.slots.now in
    let s = c.args.start in
    let p = c.args.position in
    let at = position_from_yields_List (has_copy s p) _ _ _ c.position.ensures.ran (YieldsList-from_slice xs cc) (λ o b q k. search (rules, tests)) ∙ position_from-zero (has_copy s p) xs in
    (subst (Tells xs s p) c.in_ok-at.was (place_found s p xs c.position.result at)).1 None

pub returns-in_err-at : goal.returns-in_err-at
returns-in_err-at c =
    let xs = c.args.slots.now in
    let s = c.args.start in
    let p = c.args.position in
    let at = position_from_yields_List (has_copy s p) _ _ _ c.position.ensures.ran (YieldsList-from_slice xs cc) (λ o b q k. search (rules, tests)) ∙ position_from-zero (has_copy s p) xs in
    let none : c.from_residual.result ≡ None = search rules in
    none ∙ subst (Tells xs s p) c.in_err-at.was (place_found s p xs c.position.result at)
