use Rattle.std.proofs.Common.{◌^◌, ◌<◌, length, sym, ap, ◌∙◌, arith}
use Rattle.journal.specs.declared.limits.Limits.{Limits}
use Rattle.journal.specs.Meaning.{rows_of}
use Rattle.summary.proofs.Adding.{step}
use Rattle.summary.proofs.section_cost.Goals as goal

pub loop-position-preserved : goal.loop-position-preserved
loop-position-preserved g c =
    let m = g.J.Journal.meaning c.args.journal.now in
    let a = c.read_entry.ensures in
    let inv = c.loop-position.invariant in (
      omega (arith, c.read_entry.auto.key, inv.0),
      λ o f.
          let i = inv.1 o f in
          let inside : c.loop-position.position < length (rows_of m.sections c.args.start) = omega (arith, c.row_count-rows.ensures.answer o f) in
          let low : c.limits.result.bytes < 2 ^ 64 = omega arith in (
            a.fit o i.0,
            a.after o i.0 ∙ i.1,
            step m _ c.args.start c.loop-position.position _ i.1 (c.limits.ensures.lawful o f) inv.0 inside
                _ _ _ _ _ (sym (ap (λ (l : Limits). l.bytes) (c.limits.ensures.answer o f))) low
                (sym (a.answer o i.0) ∙ c.in_ok-entry.was) i.2 c.cost.ensures c.saturating_add-cost.ensures,
          ),
    )
