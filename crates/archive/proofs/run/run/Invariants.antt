use Rattle.std.proofs.Common.{◌≡◌, map, take, drop}
use Rattle.law.proofs.Runs.{Sofar}
use Rattle.rules.specs.Turns.{handed, answered}
use Rattle.archive.specs.Parts.{kind_of}
use Rattle.archive.specs.Archives.{state_of, Fits}
use Rattle.archive.proofs.run.run.Given as goal

abbrev pub invariant-loop-turn : goal.invariant-loop-turn
invariant-loop-turn g l =
    let a = l.initial.archive in
    let kind = kind_of g.T.Translator.translated g.K.Key.W g.K.Key.flaw a.translator in
    (drop l.turn-index l.turn-items ≡ drop l.turn-index l.initial.turn-items)
    × (map (λ u. u.call) l.turn-items ≡ map (λ u. u.call) l.initial.turn-items)
    × (l.archive.translator ≡ a.translator)
    × ((o : g.J.Journal.past) → Fits g.J.Journal.fits g.J.Journal.meaning g.T.Translator.translated g.T.Translator.hashed g.K.Key.W o a
    → Fits g.J.Journal.fits g.J.Journal.meaning g.T.Translator.translated g.T.Translator.hashed g.K.Key.W o l.archive
    × Sofar kind (state_of g.J.Journal.meaning a) (map (handed g.K.Key.bytes) (take l.turn-index l.initial.turn-items)) (map answered (take l.turn-index l.turn-items)) (state_of g.J.Journal.meaning l.archive))
