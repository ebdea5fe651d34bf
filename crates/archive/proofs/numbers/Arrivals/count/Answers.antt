use Rattle.std.proofs.Common.{◌≡◌, ℕ, ◌+◌, ◌<◌, ◌≤◌, [], ◌∷◌, ◌++◌, length, IfSome, Some, None, Option, sym, refl, ap, ◌∙◌, arith}
use Rattle.std.proofs.lemmas.List.{length_push}
use Rattle.archive_layout.proofs.Numbered.{came_none, came_at, came_more, came_all}
use Rattle.archive.proofs.Fitting.{numbered}
use Rattle.archive.proofs.numbers.Arrivals.count.Goals as goal

pub loop-at-init : goal.loop-at-init
loop-at-init c = (
  from_zero c.first_of-at.result c.first_of-at.ensures.within,
  λ k width m law fit. ([], came_none (numbered c.args.self.now law fit) c.first_of-at.result c.first_of-at.ensures.is, refl),
)
  where
    from_zero : (r : Option ℕ) → IfSome r (λ p. p < 128) → IfSome r (λ p. (0 ≤ p) × (p < 128))
    from_zero None h = tt
    from_zero (Some p) h = (omega arith, h)

pub loop-at-preserved : goal.loop-at-preserved
loop-at-preserved c =
    let p = c.in-Some.position in (
      later c.loop-at.count p c.loop-at.at c.next_of-at.result c.in-Some.is c.loop-at.invariant.0 c.next_of-at.ensures.within,
      λ k width m law fit. (let i = c.loop-at.invariant.1 k width m law fit in
          let at = numbered c.args.self.now law fit in
          let x = came_at at i.0 c.loop-at.at p i.1 c.in-Some.is in
          (i.0 ++ x ∷ [], came_more at i.0 c.loop-at.at p i.1 c.in-Some.is c.next_of-at.result c.next_of-at.ensures.is, length_push i.0 x ∙ ap (λ j. j + 1) i.2)),
    )
  where
    -- The positions rise, and so the count stays below them.
    later : (count p : ℕ) (at r : Option ℕ) → at ≡ Some p → IfSome at (λ q. (count ≤ q) × (q < 128)) → IfSome r (λ q. (p < q) × (q < 128)) → IfSome r (λ q. (count + 1 ≤ q) × (q < 128))
    later count p at None e h f = tt
    later count p None (Some q) e h f = let z : ◌≡◌ {A = ℕ} 0 1 = cc in absurd (omega arith)
    later count p (Some n) (Some q) e h f = let z : n ≡ p = cc in (omega (arith, h, f), f.1)

pub returns : goal.returns
returns c k width m law fit =
    let at = numbered c.args.self.now law fit in
    let i = c.loop-at.invariant.1 k width m law fit in
    sym i.2 ∙ ap length (sym (came_all at i.0 c.loop-at.at c.in_default.is i.1))
