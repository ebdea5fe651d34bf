use Rattle.std.proofs.Common.{◌-◌, length, nat_eq, sym, ap, ap₂, ◌∙◌, zero-add}
use Rattle.journal.specs.Bytes.{chunk}
use Rattle.journal.specs.Meaning.{check_size}
use Rattle.format.specs.Numbers.{be}
use Rattle.format.specs.Layout.{value_check}
use Rattle.pages.proofs.Checking.{bytes_where_checked}
use Rattle.pages.proofs.value.is_value_checked.Goals as goal

pub returns : goal.returns
returns c =
    let xs = c.args.stored.now in
    let n = length xs - check_size in
    ap₂ (λ a b. nat_eq a b) (c.number_at.ensures.number ∙ ap (λ k. be (chunk xs k check_size)) (sym (zero-add n)))
    (c.from.ensures ∙ (c.value_check.ensures ∙ ap value_check c.part.ensures.part))
    ∙ sym (bytes_where_checked xs 0 n)
