use Rattle.std.proofs.Common.{◌≡◌, ◌+◌, ◌≤◌, length, map, get_or, take, drop, sym, refl, ap, ◌∙◌, subst, arith}
use Rattle.std.proofs.Math.Seq.{map-set_same}
use Rattle.std.proofs.lemmas.List.{take_all, drop-drop, drop-set-lt}
use Rattle.journal.specs.Meaning.{Lawful}
use Rattle.archive.specs.Parts.{kind_of}
use Rattle.archive.specs.Archives.{state_of, Does}
use Rattle.lent.specs.Seen.{seen}
use Rattle.lent.specs.Runs.{Takes, after}
use Rattle.lent.proofs.Going.{blank, Going, going_none, going_turn, served}
use Rattle.lent.proofs.run.serve.Goals as goal

pub loop-turn-init : goal.loop-turn-init
loop-turn-init g c = (refl, refl, refl, refl, λ o f. (f, going_none _ _))

pub loop-turn-preserved : goal.loop-turn-preserved
loop-turn-preserved g c =
    let i = c.loop-turn.invariant in
    let at = c.loop-turn.turn-index in
    let begun = c.args.turns.now in
    let items = c.loop-turn.turns in
    let turn = c.take.new.turn in
    let made = c.new-archive.result in
    let kind = kind_of g.T.Translator.translated g.K.Key.W g.K.Key.flaw made.translator in
    let asked = get_or items at blank in
    let loaded = c.loop-turn.archive in
    let own = kind_of g.T.Translator.translated g.K.Key.W g.K.Key.flaw loaded.translator in
    let t = state_of g.J.Journal.meaning loaded in
    let h : Does g.J.Journal.fits g.J.Journal.meaning g.T.Translator.translated g.T.Translator.hashed g.K.Key.W loaded c.take.new.archive (λ s. Takes own s (seen asked)) (λ s. after own s (seen asked)) (seen turn) = c.take.ensures.answers in
    let on = sym (drop-drop 1 at items) ∙ ap (drop 1) i.0 ∙ drop-drop 1 at begun in (
      drop-set-lt (at + 1) items at turn (omega arith) ∙ on,
      map-set_same (λ u. u.bytes.ghost_name) items at turn blank c.take.ensures.bytes ∙ i.1,
      map-set_same (λ u. u.places.ghost_name) items at turn blank c.take.ensures.places ∙ i.2,
      h.same ∙ i.3,
      λ o f.
          let k = i.4 o f in (
            h.fit o k.0,
            going_turn kind _ begun items at blank turn t _ c.loop-turn-test.true c.loop-turn.auto.turns i.0 k.1
                (subst (λ z. Takes (kind_of g.T.Translator.translated g.K.Key.W g.K.Key.flaw z) t (seen asked) (seen turn)) i.3 (h.answer o k.0))
                (subst (λ z. state_of g.J.Journal.meaning c.take.new.archive ≡ after (kind_of g.T.Translator.translated g.K.Key.W g.K.Key.flaw z) t (seen asked)) i.3 (h.after o k.0)),
          ),
    )

pub returns-clause-law : goal.returns-clause-law
returns-clause-law g c o f =
    let i = c.loop-turn.invariant in
    let at = c.loop-turn.turn-index in
    let items = c.loop-turn.turns in
    let begun = c.args.turns.now in
    let all : length items ≤ at = omega (arith, c.loop-turn.auto.turns, c.loop-turn-test.false) in
    let made = c.new-archive.ensures in
    let m = g.J.Journal.meaning c.args.journal in
    let fit = made.fit o f in
    let kind = kind_of g.T.Translator.translated g.K.Key.W g.K.Key.flaw c.new-archive.result.translator in
    let t = state_of g.J.Journal.meaning c.loop-turn.archive in
    let s = state_of g.J.Journal.meaning c.new-archive.result in
    rw (← made.parts.1)
    (served kind m s (map seen begun) (map seen items) t made.state (subst (λ j. Lawful (g.J.Journal.meaning j)) made.parts.0 fit.lawful)
    (subst (λ us. Going kind s (map seen us) (map seen items) t) (take_all at begun c.loop-turn-test.false)
    (subst (λ vs. Going kind s (map seen (take at begun)) (map seen vs) t) (take_all at items all) (i.4 o fit).1)))
