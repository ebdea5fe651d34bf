use Rattle.std.proofs.Common.{◌≡◌, ◌^◌, ◌<◌, ◌≤◌, sym, ap, ◌∙◌, arith}
use Rattle.journal.specs.declared.limits.Limits.{Limits}
use Rattle.journal.proofs.Walks.{next_from, comes, stops}
use Rattle.summary.proofs.Laying.{begun, went, at_rest, at_slots, ended}
use Rattle.summary.proofs.summary.Goals as goal

pub loop-i-init : goal.loop-i-init
loop-i-init g c = λ o f. (f, begun _ _ (c.limits-slots.ensures.lawful o f))

pub loop-i-preserved : goal.loop-i-preserved
loop-i-preserved g c =
    let m = g.J.Journal.meaning c.args.journal.now in
    let a = c.section_cost.ensures in
    let low : c.in-Some.start < 2 ^ 64 = omega arith in
    λ o f.
    let i = c.loop-i.invariant o f in
    let n = comes g.J.Journal.fits g.J.Journal.meaning _ o i.0 m i.1.same c.loop-i.from _ _ c.start_from.ensures c.in-Some.is in (
      a.fit o i.0,
      rw (next_from c.in-Some.start c.checked_add-from.result low c.checked_add-from.ensures)
          (went m _ _ _ _ _ _ (c.limits-slots.ensures.lawful o f) i.1 n
          _ _ _ _ (a.after o i.0) (c.row_count-rows.ensures.answer o i.0) (sym c.in_ok-cost.was ∙ a.answer o i.0) c.place_total.ensures),
    )

pub returns-in_default : goal.returns-in_default
returns-in_default g c =
    let m = g.J.Journal.meaning c.args.journal.now in
    ended _ _ _ _ _ _ _ c.loop-i.i (λ o f.
    let i = c.loop-i.invariant o f in
    let law = c.limits-slots.ensures.lawful o f in
    (i.0, i.1, at_rest m _ _ _ _ _ law i.1 (stops g.J.Journal.fits g.J.Journal.meaning _ o i.0 m i.1.same c.loop-i.from _ law c.start_from.ensures c.in_default.is)))

pub returns : goal.returns
returns g c =
    let m = g.J.Journal.meaning c.args.journal.now in
    let e : c.loop-i.i ≡ c.limits-slots.result.slots = omega arith in
    rw (← e) (ended _ _ _ _ _ _ _ c.loop-i.i (λ o f.
    let i = c.loop-i.invariant o f in
    let slots : m.limits.slots ≤ c.loop-i.i = omega (arith, ap (λ (l : Limits). l.slots) (c.limits-slots.ensures.answer o f)) in
    (i.0, i.1, at_slots m _ _ _ _ _ (c.limits-slots.ensures.lawful o f) i.1 slots)))
