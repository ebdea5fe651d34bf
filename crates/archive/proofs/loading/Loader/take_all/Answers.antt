use Rattle.std.proofs.Common.{◌^◌, ◌<◌, refl, ◌∙◌, arith}
use Rattle.std.proofs.lemmas.Result.{err_from_is_err_and}
use Rattle.journal.proofs.Walks.{next_from}
use Rattle.archive_layout.proofs.LoadWalk.{load_begins, load_end, load_ready, load_more, load_fault_at}
use Rattle.archive_layout.proofs.Reading.{read_none, read_on, read_both, read_start}
use Rattle.archive.proofs.loading.Loader.take_all.Goals as goal

pub returns-in_err-rows : goal.returns-in_err-rows
returns-in_err-rows g c =
    let inv = c.loop-turn.invariant in
    let f = c.in_err-rows.field-0.0 in
    let taken = rw (inv.0, inv.1) at c.take_section.ensures.reads in
    let e = err_from_is_err_and c.from_residual.result c.from_residual.ensures.1 in
    record {
      reads = rw (e.1, e.2)
          (read_on inv.2 (read_both (read_start _ c.loop-turn.from c.start_from.result c.start_from.ensures) taken) (λ m p q law ready.
          let comes = q.0.comes c.in-Some.start c.in-Some.is in
          load_fault_at law ready (p law ready) c.in-Some.start comes (q.1 law _ (load_ready law ready (p law ready) c.in-Some.start comes)) f c.in_err-rows.was));
      same = (c.take_section.ensures.same.0 ∙ inv.0, c.take_section.ensures.same.1 ∙ inv.1);
      same_references = (c.take_section.ensures.same_references.0 ∙ inv.3, c.take_section.ensures.same_references.1 ∙ inv.4);
    }

pub loop-turn-preserved : goal.loop-turn-preserved
loop-turn-preserved g c =
    let inv = c.loop-turn.invariant in
    let low : c.in-Some.start < 2 ^ 64 = omega arith in
    let taken = rw (inv.0, inv.1) at c.take_section.ensures.reads in (
      c.take_section.ensures.same.0 ∙ inv.0,
      c.take_section.ensures.same.1 ∙ inv.1,
      read_on inv.2 (read_both (read_start _ c.loop-turn.from c.start_from.result c.start_from.ensures) taken) (λ m p q law ready.
          let comes = q.0.comes c.in-Some.start c.in-Some.is in
          rw (next_from c.in-Some.start c.checked_add-from.result low c.checked_add-from.ensures)
          (load_more law ready (p law ready) c.in-Some.start comes (q.1 law _ (load_ready law ready (p law ready) c.in-Some.start comes)) c.in_ok-rows.rows _ c.in_ok-rows.was c.saturating_add-count.ensures)),
      c.take_section.ensures.same_references.0 ∙ inv.3,
      c.take_section.ensures.same_references.1 ∙ inv.4,
    )

pub loop-turn-init : goal.loop-turn-init
loop-turn-init g c = (refl, refl, read_none (λ m law ready. load_begins _ _ law ready), refl, refl)

pub returns-in_default : goal.returns-in_default
returns-in_default g c =
    let inv = c.loop-turn.invariant in
    record {
      reads = read_on inv.2 (read_start _ c.loop-turn.from c.start_from.result c.start_from.ensures) (λ m p q law ready. load_end law ready (p law ready) (q.stops law c.in_default.is));
      same = (inv.0, inv.1);
      same_references = (inv.3, inv.4);
    }
