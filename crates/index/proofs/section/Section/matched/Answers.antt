use Rattle.std.proofs.Common.{◌≡◌, ℕ, Some, None, Option, sym, refl, subst, ap, ◌∙◌, arith}
use Rattle.index_layout.specs.Links.{link, linked}
use Rattle.index.specs.Rows.{named}
use Rattle.index.proofs.Chains.{Walked, matching_in, walked_here, walked_on}
use Rattle.index.proofs.section.Section.matched.Goals as goal

pub loop-row-init : goal.loop-row-init
loop-row-init c =
    subst (λ (o : Option ℕ). Walked c.args.self.now c.args.bucket c.args.code (link (named c.args.from)) o) (sym c.position.ensures ∙ c.in_ok-at.was)
    (record { within = c.requires.0; before = omega arith; own = c.requires.1; same = refl })

pub row-row-requires : goal.row-row-requires
row-row-requires c = omega (arith, c.loop-row.invariant.within)

pub returns-then-row-code-clause-is : goal.returns-then-row-code-clause-is
returns-then-row-code-clause-is c =
    ap (λ p. Some p) c.from.ensures
    ∙ walked_here c.args.self.now c.args.bucket c.args.code (link (named c.args.from)) c.row-row.result c.loop-row.at c.row-row.ensures c.loop-row.invariant c.if-row-code.true

pub returns-then-row-code-clause-before : goal.returns-then-row-code-clause-before
returns-then-row-code-clause-before c = omega (arith, c.from.ensures, c.loop-row.invariant.before)

pub returns-in_err-at-2-clause-is : goal.returns-in_err-at-2-clause-is
returns-in_err-at-2-clause-is c =
    let s = c.args.self.now in
    let on = walked_on s c.args.bucket c.args.code (link (named c.args.from)) c.row-row.result c.loop-row.at c.row-row.ensures c.loop-row.invariant c.if-row-code.false in
    let end : named c.row-row.result.below ≡ None = sym c.position-in-loop-row.ensures ∙ c.in_err-at-2.was in
    c.from_residual-in_err-at-2.ensures ∙ ap (λ o. linked (matching_in s c.args.bucket c.args.code (link o))) (sym end) ∙ ap linked on.1.same

pub loop-row-smaller : goal.loop-row-smaller
loop-row-smaller c =
    let on = walked_on c.args.self.now c.args.bucket c.args.code (link (named c.args.from)) c.row-row.result c.loop-row.at c.row-row.ensures c.loop-row.invariant c.if-row-code.false in
    omega (arith, on.0, ap link (sym c.position-in-loop-row.ensures ∙ c.in_ok-at-2.was))

pub loop-row-preserved : goal.loop-row-preserved
loop-row-preserved c =
    let on = walked_on c.args.self.now c.args.bucket c.args.code (link (named c.args.from)) c.row-row.result c.loop-row.at c.row-row.ensures c.loop-row.invariant c.if-row-code.false in
    subst (λ (o : Option ℕ). Walked c.args.self.now c.args.bucket c.args.code (link (named c.args.from)) o) (sym c.position-in-loop-row.ensures ∙ c.in_ok-at-2.was) on.1
