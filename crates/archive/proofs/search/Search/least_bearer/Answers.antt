use Rattle.std.proofs.Common.{◌^◌, ◌<◌, sym, ◌∙◌, arith}
use Rattle.journal.proofs.Walks.{next_from}
use Rattle.archive_layout.proofs.Reading.{read_none, read_so, read_on}
use Rattle.archive_layout.proofs.Searches.{none_passed, shown, passed_more, passed_found, passed_rest, passed_all}
use Rattle.archive.proofs.Fitting.{sixteen}
use Rattle.archive.proofs.search.Search.least_bearer.Goals as goal

pub loop-turn-preserved : goal.loop-turn-preserved
loop-turn-preserved g c =
    let x = c.args.self.now.index.now in
    let from = c.loop-turn.from in
    let low : c.in_ok-slot.start < 2 ^ 64 = omega arith in
    read_on c.loop-turn.invariant c.least_in.ensures (λ m p q k width known.
    let view = shown known x.apart (sixteen x) c.args.after from (p k width known) c.slot_with.result c.slot_with.ensures c.in_ok-slot.slot c.in_ok-slot.start c.in_ok-slot.was in
    passed_more known x.apart (sixteen x) c.args.after from (p k width known) c.slot_with.result c.slot_with.ensures c.in_ok-slot.slot c.in_ok-slot.start c.in_ok-slot.was
    c.checked_add-from.result (next_from c.in_ok-slot.start c.checked_add-from.result low c.checked_add-from.ensures) (sym c.in_default.is ∙ q known.lawful k known.coded view))

pub returns-in-Some : goal.returns-in-Some
returns-in-Some g c =
    let x = c.args.self.now.index.now in
    let from = c.loop-turn.from in
    read_on c.loop-turn.invariant c.least_in.ensures (λ m p q k width known.
    let view = shown known x.apart (sixteen x) c.args.after from (p k width known) c.slot_with.result c.slot_with.ensures c.in_ok-slot.slot c.in_ok-slot.start c.in_ok-slot.was in
    passed_found known x.apart (sixteen x) c.args.after from (p k width known) c.slot_with.result c.slot_with.ensures c.in_ok-slot.slot c.in_ok-slot.start c.in_ok-slot.was
    c.in-Some.place (sym c.in-Some.is ∙ q known.lawful k known.coded view))

pub returns-in_err-slot : goal.returns-in_err-slot
returns-in_err-slot g c =
    let x = c.args.self.now.index.now in
    let from = c.loop-turn.from in
    read_so c.loop-turn.invariant (λ m p k width known.
    c.from_residual.ensures ∙ passed_rest known x.apart (sixteen x) c.args.after from (p k width known) c.slot_with.result c.slot_with.ensures c.in_err-slot.was)

pub loop-turn-init : goal.loop-turn-init
loop-turn-init g c = read_none (λ m k width known. none_passed known _ _)

pub returns : goal.returns
returns g c =
    let x = c.args.self.now.index.now in
    read_so c.loop-turn.invariant (λ m p k width known. passed_all known x.apart (sixteen x) c.args.after c.loop-turn.from (p k width known) (omega arith))
