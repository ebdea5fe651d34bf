use Rattle.std.proofs.Common.{◌≡◌, map, take, drop}
use Rattle.archive.specs.Parts.{kind_of}
use Rattle.archive.specs.Archives.{state_of, Fits}
use Rattle.lent.specs.Seen.{seen}
use Rattle.lent.proofs.Going.{Going}
use Rattle.lent.proofs.run.serve.Given as goal

abbrev pub invariant-loop-turn : goal.invariant-loop-turn
invariant-loop-turn g l =
    let a = l.initial.archive in
    let kind = kind_of g.T.Translator.translated g.K.Key.W g.K.Key.flaw a.translator in
    (drop l.turn-index l.turns ≡ drop l.turn-index l.initial.turns)
    × (map (λ u. u.bytes.ghost_name) l.turns ≡ map (λ u. u.bytes.ghost_name) l.initial.turns)
    × (map (λ u. u.places.ghost_name) l.turns ≡ map (λ u. u.places.ghost_name) l.initial.turns)
    × (l.archive.translator ≡ a.translator)
    × ((o : g.J.Journal.past) → Fits g.J.Journal.fits g.J.Journal.meaning g.T.Translator.translated g.T.Translator.hashed g.K.Key.W o a
    → Fits g.J.Journal.fits g.J.Journal.meaning g.T.Translator.translated g.T.Translator.hashed g.K.Key.W o l.archive
    × Going kind (state_of g.J.Journal.meaning a) (map seen (take l.turn-index l.initial.turns)) (map seen (take l.turn-index l.turns)) (state_of g.J.Journal.meaning l.archive))
