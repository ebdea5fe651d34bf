use Rattle.std.proofs.Common.{◌≡◌, List}
use Rattle.journal.specs.Meaning.{Section, Lawful, rows_of}
use Rattle.index.specs.Slots.{views}
use Rattle.archive_layout.specs.Loads.{SectionReady}
use Rattle.archive_layout.specs.Promises.{Reads}
use Rattle.archive_layout.proofs.Loads.{PartIn}
use Rattle.archive.specs.Parts.{kind_of, coding_of}
use Rattle.archive.proofs.loading.Loader.take_section.Given as goal

abbrev pub invariant-loop-position : goal.invariant-loop-position
invariant-loop-position g l =
    let j = g.J.Journal in
    let s = l.initial.self in
    let k = coding_of g.T.Translator.translated g.T.Translator.hashed s.translator.now in
    let kind = kind_of g.T.Translator.translated g.K.Key.W g.K.Key.flaw s.translator.now in
    (l.self.translator.now ≡ s.translator.now)
    × (l.self.size ≡ s.size)
    × Reads j.fits j.meaning l.initial.journal l.journal (λ m. Lawful m → (ys : List Section) → SectionReady k m (views s.index.now) ys s.size g.K.Key.W l.start
    → PartIn kind k s.size l.start (rows_of m.sections l.start) ys (views l.self.index.now) l.position)
    × (l.self.key.ghost_name ≡ s.key.ghost_name)
    × (l.self.index.ghost_name ≡ s.index.ghost_name)
