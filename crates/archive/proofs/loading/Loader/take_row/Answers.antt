use Rattle.std.proofs.Common.{sym, ◌∙◌}
use Rattle.archive_layout.proofs.Loading.{row_in}
use Rattle.archive_layout.proofs.Reading.{read_so, read_entry}
use Rattle.archive.specs.Parts.{kind_of, coding_of}
use Rattle.archive.proofs.loading.Loader.take_row.Goals as goal

pub returns-clause-reads : goal.returns-clause-reads
returns-clause-reads g c =
    let s = c.args.self.now in
    let kind = kind_of g.T.Translator.translated g.K.Key.W g.K.Key.flaw s.translator.now in
    let k = coding_of g.T.Translator.translated g.T.Translator.hashed s.translator.now in
    read_so (read_entry c.read_entry.ensures) (λ m p law wide row there room.
    row_in kind k s.size (p law c.in_ok-entry.entry c.in_ok-entry.was) (c.width.ensures ∙ sym wide) there c.read.result c.read.ensures.answer (sym c.in_ok-map_err.ensures.variant)
    _ _ c.section_of.result c.saturating_sub-offset.result c.coded.result.code c.coded.result.hash c.section_of.ensures c.if-section_of-start.false c.saturating_sub-offset.ensures c.coded.ensures.code c.coded.ensures.hash
    (c.note.ensures.starts (sym c.in_ok-map_err-2.ensures.variant)))
