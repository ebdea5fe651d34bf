use Rattle.std.proofs.Common.{◌<◌, length, ◌∙◌, arith}
use Rattle.std.proofs.lemmas.Result.{err_from_is_err_and}
use Rattle.journal.specs.Meaning.{rows_of}
use Rattle.archive_layout.proofs.Loads.{part_row, part_there, part_room, part_more, part_fault, section_refused}
use Rattle.archive_layout.proofs.Reading.{read_on, read_both, read_count}
use Rattle.archive.specs.Parts.{kind_of}
use Rattle.archive.proofs.loading.Loader.take_section.Goals as goal

pub returns-in_err-take_row-clause-reads : goal.returns-in_err-take_row-clause-reads
returns-in_err-take_row-clause-reads g c =
    let kind = kind_of g.T.Translator.translated g.K.Key.W g.K.Key.flaw c.args.self.now.translator.now in
    let inv = c.loop-position.invariant in
    let x = c.loop-position.self.index.now in
    let f = c.in_err-take_row.field-0.0 in
    let taken = rw (inv.0, inv.1) at c.take_row.ensures.reads in
    let e = err_from_is_err_and c.from_residual.result c.from_residual.ensures.1 in
    rw (e.1, e.2)
    (read_on (read_count c.row_count-rows.ensures) (read_both inv.2 taken) (λ m n pq law ys ready.
    let lt : c.loop-position.position < length (rows_of m.sections c.args.start) = omega arith in
    let p = pq.0 law ys ready in
    let row = pq.1 law ready.wide (part_row kind ready x.apart p lt) (part_there kind ready x.apart p lt) (part_room kind ready x.apart p lt) in
    section_refused kind ready _ f (part_fault kind ready x.apart p lt row f c.in_err-take_row.was)))

pub loop-position-preserved : goal.loop-position-preserved
loop-position-preserved g c =
    let kind = kind_of g.T.Translator.translated g.K.Key.W g.K.Key.flaw c.args.self.now.translator.now in
    let inv = c.loop-position.invariant in
    let x = c.loop-position.self.index.now in
    let taken = rw (inv.0, inv.1) at c.take_row.ensures.reads in (
      c.take_row.ensures.same.0 ∙ inv.0,
      c.take_row.ensures.same.1 ∙ inv.1,
      read_on (read_count c.row_count-rows.ensures) (read_both inv.2 taken) (λ m n pq law ys ready.
          let lt : c.loop-position.position < length (rows_of m.sections c.args.start) = omega arith in
          let p = pq.0 law ys ready in
          part_more kind ready x.apart p lt (pq.1 law ready.wide (part_row kind ready x.apart p lt) (part_there kind ready x.apart p lt) (part_room kind ready x.apart p lt)) c.in_ok-take_row.was),
      c.take_row.ensures.same_references.0 ∙ inv.3,
      c.take_row.ensures.same_references.1 ∙ inv.4,
    )
