use Rattle.std.proofs.Common.{◌≡◌, ◌*◌, length, refl, sym, ◌∙◌}
use Rattle.format.specs.Layout.{page_size}
use Rattle.format.proofs.Mounting.{out_of_range, right_lengths, wrong_lengths}
use Rattle.pages.proofs.check.sized.Goals as goal
use Rattle.pages.proofs.check.sized.Goals.{then-entries-entries_size-via-then-entries-entries_size, then-entries-entries_size-via-else-entries-entries_size+then-values-values_size}

pub returns-in_err-layout : goal.returns-in_err-layout
returns-in_err-layout c = rw c.from_residual.ensures (out_of_range c.args.limits (length c.args.entries.now) (length c.args.values.now) c.in_err-layout.ensures)

pub returns-then-entries-entries_size : goal.returns-then-entries-entries_size
returns-then-entries-entries_size c =
    let l = c.args.limits in
    let same = c.in_ok-layout.ensures.1 in
    let pages : c.entries_size.result ≡ l.slots * page_size l.rows l.width = cc in
    wrong_lengths l (length c.args.entries.now) (length c.args.values.now)
    (λ r. elim c.then-entries-entries_size.branch [
      | then-entries-entries_size-via-then-entries-entries_size w ↦ w.if-entries-entries_size.true (r.entries ∙ sym pages)
      | then-entries-entries_size-via-else-entries-entries_size+then-values-values_size w ↦ let values : w.values_size.result ≡ l.slots * l.bytes = cc in w.if-values-values_size.true (r.values ∙ sym values)
    ])

pub returns : goal.returns
returns c =
    let l = c.args.limits in
    let same = c.in_ok-layout.ensures.1 in (
      right_lengths l (length c.args.entries.now) (length c.args.values.now) c.in_ok-layout.ensures.0 (cc) (cc),
      refl,
      same,
    )
