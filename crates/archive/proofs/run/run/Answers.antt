use Rattle.std.proofs.Common.{◌≡◌, ◌+◌, ◌≤◌, length, map, get_or, drop, sym, refl, ap, ◌∙◌, subst, arith}
use Rattle.std.proofs.Math.Seq.{map-set_same}
use Rattle.std.proofs.lemmas.List.{take_all, drop-drop, drop-set-lt, with_items_is}
use Rattle.journal.specs.Meaning.{Lawful}
use Rattle.rules.specs.Steps.{Answers, next}
use Rattle.rules.specs.Turns.{handed, answered}
use Rattle.law.proofs.Runs.{sofar_none, sofar_turn, sofar_at, whole}
use Rattle.archive.specs.Parts.{kind_of}
use Rattle.archive.specs.Archives.{state_of, Does}
use Rattle.archive.proofs.run.run.Goals as goal

pub loop-turn-init : goal.loop-turn-init
loop-turn-init g c = (refl, refl, refl, λ o f. (f, sofar_none _ _))

pub loop-turn-preserved : goal.loop-turn-preserved
loop-turn-preserved g c =
    let i = c.loop-turn.invariant in
    let at = c.loop-turn.turn-index in
    let begun = c.deref_mut-turn-items.result.now in
    let items = c.loop-turn.turn-items in
    let turn = c.turn-item.result in
    let kind = kind_of g.T.Translator.translated g.K.Key.W g.K.Key.flaw c.new-archive.result.translator in
    let asked = get_or items at turn in
    let loaded = c.loop-turn.archive in
    let own = kind_of g.T.Translator.translated g.K.Key.W g.K.Key.flaw loaded.translator in
    let h : Does g.J.Journal.fits g.J.Journal.meaning g.T.Translator.translated g.T.Translator.hashed g.K.Key.W loaded c.take.new.self (λ s. Answers own s (handed g.K.Key.bytes asked)) (λ s. next own s (handed g.K.Key.bytes asked)) (answered c.take.new.turn) = c.take.ensures.answers in
    let on = sym (drop-drop 1 at items) ∙ ap (drop 1) i.0 ∙ drop-drop 1 at begun in (
      drop-set-lt (at + 1) items at c.take.new.turn (omega arith) ∙ on,
      map-set_same (λ u. u.call) items at c.take.new.turn turn c.take.ensures.call ∙ i.1,
      h.same ∙ i.2,
      λ o f.
          let k = i.3 o f in
          let t = state_of g.J.Journal.meaning c.loop-turn.archive in (
            h.fit o k.0,
            sofar_turn kind (handed g.K.Key.bytes) answered _ begun items at turn c.take.new.turn t _ c.loop-turn-test.true c.loop-turn.auto.turn-items i.0 k.1
                (subst (λ z. Answers (kind_of g.T.Translator.translated g.K.Key.W g.K.Key.flaw z) t (handed g.K.Key.bytes asked) (answered c.take.new.turn)) i.2 (h.answer o k.0))
                (subst (λ z. state_of g.J.Journal.meaning c.take.new.self ≡ next (kind_of g.T.Translator.translated g.K.Key.W g.K.Key.flaw z) t (handed g.K.Key.bytes asked)) i.2 (h.after o k.0)),
          ),
    )

pub returns-clause-law : goal.returns-clause-law
returns-clause-law g c o f =
    let i = c.loop-turn.invariant in
    let at = c.loop-turn.turn-index in
    let items = c.loop-turn.turn-items in
    let turns = c.args.turns.now in
    let v = c.deref_mut-turn-items.ensures in
    let n : length items ≡ turns.len = omega (arith, c.loop-turn.auto.turn-items, v.len) in
    let all : length items ≤ at = omega (arith, c.loop-turn.auto.turn-items, c.loop-turn-test.false) in
    let made = c.new-archive.ensures in
    let m = g.J.Journal.meaning c.args.journal in
    let fit = made.fit o f in
    let kind = kind_of g.T.Translator.translated g.K.Key.W g.K.Key.flaw c.new-archive.result.translator in
    rw (← made.parts.1)
    (whole kind m _ _ _ _ made.state (subst (λ j. Lawful (g.J.Journal.meaning j)) made.parts.0 fit.lawful)
    (sofar_at kind _ refl (ap (map (handed g.K.Key.bytes)) (take_all at c.deref_mut-turn-items.result.now c.loop-turn-test.false ∙ v.value)) (ap (map answered) (take_all at items all ∙ sym (with_items_is turns items n)))
    (i.3 o fit).1))

pub returns-clause-fit : goal.returns-clause-fit
returns-clause-fit g c o f = (c.loop-turn.invariant.3 o (c.new-archive.ensures.fit o f)).0

pub returns-clause-turns : goal.returns-clause-turns
returns-clause-turns g c =
    let items = c.loop-turn.turn-items in
    let turns = c.args.turns.now in
    let v = c.deref_mut-turn-items.ensures in
    let n : length items ≡ turns.len = omega (arith, c.loop-turn.auto.turn-items, v.len) in
    ap (map (λ u. u.call)) (with_items_is turns items n) ∙ c.loop-turn.invariant.1 ∙ ap (map (λ u. u.call)) v.value

pub returns-clause-translator : goal.returns-clause-translator
returns-clause-translator g c = c.loop-turn.invariant.2 ∙ c.new-archive.ensures.parts.1
