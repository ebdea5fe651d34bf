use Rattle.std.proofs.Common.{◌<◌, length, IfSome, refl, subst, sym, ap, ◌∙◌, arith}
use Rattle.index.proofs.Columns.{rows_length, led_on}
use Rattle.index.specs.Rows.{columns_of, held, followed}
use Rattle.index.proofs.row_table.RowTable.follow.Goals as goal

pub bounds-self-last : goal.bounds-self-last
bounds-self-last c =
    let s = c.args.self.now in
    omega (arith, subst (λ o. IfSome o (λ p. p < length (held s))) (sym c.position.ensures ∙ c.in-Some.is) c.requires, rows_length (columns_of s) s.count, s.few)

pub returns-in-Some : goal.returns-in-Some
returns-in-Some c =
    let s = c.args.self.now in
    let p = c.in-Some.last in
    let is = sym c.position.ensures ∙ c.in-Some.is in
    let there : p < length (held s) = subst (λ o. IfSome o (λ q. q < length (held s))) is c.requires in
    let low : p < s.count = omega (arith, there, rows_length (columns_of s) s.count) in
    led_on (columns_of s) _ s.count p c.args.next refl refl refl refl refl (omega (arith, low, s.few)) low ∙ sym (ap (λ o. followed (held s) o c.args.next) is)
