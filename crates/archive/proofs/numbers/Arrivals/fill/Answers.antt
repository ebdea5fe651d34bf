use Rattle.std.proofs.Common.{◌≡◌, ◌+◌, ◌<◌, [], ◌∷◌, ◌++◌, length, take, drop, sym, refl, ap, ◌∙◌, arith}
use Rattle.std.proofs.lemmas.List.{length_push, take_all}
use Rattle.rules.specs.State.{those, records_of, bears_number, places_of}
use Rattle.archive_layout.proofs.Listing.{fill_more}
use Rattle.archive_layout.proofs.Numbered.{came_none, came_at, came_more, came_all, listed_there}
use Rattle.archive.proofs.Fitting.{numbered}
use Rattle.archive.proofs.numbers.Arrivals.fill.Goals as goal

pub loop-place-init : goal.loop-place-init
loop-place-init c k width m law fit = ([], came_none (numbered c.args.self.now law fit) c.first_of-at.result c.first_of-at.ensures.is, refl, refl)

-- No place is left empty.
pub returns-in_default : goal.returns-in_default
returns-in_default c k width m law fit le =
    let i = c.loop-place.invariant k width m law fit in
    let e = ap length (came_all (numbered c.args.self.now law fit) i.0 c.loop-place.at c.in_default.is i.1) in
    absurd (omega (arith, e, le, i.2))

pub loop-place-preserved : goal.loop-place-preserved
loop-place-preserved c k width m law fit =
    let i = c.loop-place.invariant k width m law fit in
    let at = numbered c.args.self.now law fit in
    let all = places_of (those (bears_number c.args.self.now.number) (records_of m.sections)) in
    let p = c.in-Some.position in
    let x = came_at at i.0 c.loop-place.at p i.1 c.in-Some.is in
    let lt : c.loop-place.place-index < length c.loop-place.place-items = omega arith in (
      i.0 ++ x ∷ [],
      came_more at i.0 c.loop-place.at p i.1 c.in-Some.is c.next_of-at.result c.next_of-at.ensures.is,
      length_push i.0 x ∙ ap (λ j. j + 1) i.2,
      fill_more c.loop-place.place-items all _ c.loop-place.place-index _ lt i.3 (ap (λ j. drop j all) (sym i.2) ∙ listed_there at i.0 c.loop-place.at p i.1 c.in-Some.is),
    )

pub returns : goal.returns
returns c k width m law fit le =
    let i = c.loop-place.invariant k width m law fit in
    let e : c.loop-place.place-index ≡ length c.args.places.now = omega arith in
    sym (take_all c.loop-place.place-index c.loop-place.place-items (omega arith)) ∙ i.3 ∙ ap (λ n. take n (places_of (those (bears_number c.args.self.now.number) (records_of m.sections)))) e
