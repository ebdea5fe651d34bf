use Rattle.std.proofs.Common.{◌≡◌, length, replicate, arith, ap}
use Rattle.std.proofs.lemmas.List.{get_or-replicate}
use Rattle.index.specs.Rows.{no_link, no_ends}
use Rattle.index.proofs.Rows.{linked_none}
use Rattle.index.proofs.section.Section.open.Goals as goal

pub invariant_of-result : goal.invariant_of-result
invariant_of-result c =
    let none : c.none-none.result ≡ no_link = ap (λ b. record { byte = b }) c.none-none.ensures in
    record {
      few = omega (arith, ap length c.new.ensures);
      linked = rw (c.new.ensures, none) (linked_none (replicate 64 no_ends) (replicate 128 no_link) (λ o l. get_or-replicate 64 o no_ends no_ends l) (λ b l. get_or-replicate 128 b no_link no_link l));
    }
