use Rattle.std.proofs.Common.{length, Some, sym, ap, ◌∙◌, arith}
use Rattle.index_layout.proofs.Offsets.{first_within}
use Rattle.index.specs.Rows.{held, offsets_of, no_ends, first_in}
use Rattle.index.proofs.section.Section.first_of.Goals as goal

pub returns-clause-within : goal.returns-clause-within
returns-clause-within c =
    let s = c.args.self.now in
    let low = first_within (offsets_of (held s.rows)) c.args.offset (length (held s.rows)) 128 (Some c.in_ok-first.first) (omega arith)
    (sym c.in_ok-first.was ∙ c.position.ensures ∙ ap first_in (c.in_ok-ends.ensures.lookup.3.1 no_ends) ∙ s.linked.begun c.args.offset (omega (arith, c.in_ok-ends.ensures.lookup.3.0))) in
    omega (arith, low)
