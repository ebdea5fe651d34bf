use Rattle.std.proofs.Common.{sym, ◌∙◌, arith}
use Rattle.std.proofs.lemmas.Bool.{leb-false, leb-true}
use Rattle.format.proofs.Appends.{rows_full, bytes_full, takes}
use Rattle.pages.specs.Raws.{view}
use Rattle.pages.proofs.pages.Pages.push.Goals as goal

pub returns-then-count-limits : goal.returns-then-count-limits
returns-then-count-limits c = rows_full (view c.args.self.now.raw) c.args.start c.args.label c.args.key.now c.args.value.now c.args.self.now.sound c.requires.key c.requires.floor c.args.slot c.requires.takes (omega arith)

pub returns-then-not-has_room : goal.returns-then-not-has_room
returns-then-not-has_room c =
    bytes_full (view c.args.self.now.raw) c.args.start c.args.label c.args.key.now c.args.value.now c.args.self.now.sound c.requires.key c.requires.floor c.args.slot c.requires.takes (omega arith)
    (omega (arith, leb-false _ _ (sym c.has_room.ensures ∙ c.if-not-has_room.true)))

pub invariant_of-self : goal.invariant_of-self
invariant_of-self c = record {
  sound = (takes (view c.args.self.now.raw) c.args.start c.args.label c.args.key.now c.args.value.now c.args.self.now.sound c.requires.key c.requires.floor c.args.slot c.requires.takes (omega arith)
      (omega (arith, leb-true _ _ (sym c.has_room.ensures ∙ c.if-not-has_room.false))) (omega arith) (omega arith) _ c.count_at-count.result c.store.ensures c.count_at-count.ensures.count).sound;
}

pub returns : goal.returns
returns c =
    takes (view c.args.self.now.raw) c.args.start c.args.label c.args.key.now c.args.value.now c.args.self.now.sound c.requires.key c.requires.floor c.args.slot c.requires.takes (omega arith)
    (omega (arith, leb-true _ _ (sym c.has_room.ensures ∙ c.if-not-has_room.false))) (omega arith) (omega arith) _ _ c.store.ensures c.count_at-count.ensures.count
