use Rattle.std.proofs.Common.{◌≡◌}
use Rattle.journal.specs.Meaning.{Lawful}
use Rattle.journal.proofs.Walks.{from_or_end}
use Rattle.index.specs.Slots.{views}
use Rattle.archive_layout.specs.Loads.{IndexReady}
use Rattle.archive_layout.specs.Promises.{Reads}
use Rattle.archive_layout.proofs.LoadWalk.{LoadedTo}
use Rattle.archive.specs.Parts.{kind_of, coding_of}
use Rattle.archive.proofs.loading.Loader.take_all.Given as goal

abbrev pub invariant-loop-turn : goal.invariant-loop-turn
invariant-loop-turn g l =
    let j = g.J.Journal in
    let s = l.initial.self in
    let k = coding_of g.T.Translator.translated g.T.Translator.hashed s.translator.now in
    let kind = kind_of g.T.Translator.translated g.K.Key.W g.K.Key.flaw s.translator.now in
    (l.self.translator.now ≡ s.translator.now)
    × (l.self.size ≡ s.size)
    × Reads j.fits j.meaning l.initial.journal l.journal (λ m. Lawful m → IndexReady m (views s.index.now) s.size g.K.Key.W → LoadedTo kind k s.size m (views l.self.index.now) (from_or_end l.from) l.turn l.count)
    × (l.self.key.ghost_name ≡ s.key.ghost_name)
    × (l.self.index.ghost_name ≡ s.index.ghost_name)
