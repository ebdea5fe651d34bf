use Rattle.std.proofs.Common.{◌≡◌, ◌<◌, length, take, None, sym, ap, ◌∙◌, arith}
use Rattle.std.proofs.lemmas.List.{take_all}
use Rattle.archive_layout.specs.Keys.{listed_from}
use Rattle.archive_layout.proofs.Listing.{fill_more}
use Rattle.archive_layout.proofs.Reading.{read_so, read_on}
use Rattle.archive_layout.proofs.Searches.{listed_end, listed_more, listed_at}
use Rattle.archive.proofs.search.Search.fill.Goals as goal

-- No place is left empty.
pub returns-in_default : goal.returns-in_default
returns-in_default g c =
    read_on c.loop-place.invariant c.next.ensures (λ m p q k width known le. let e = listed_end known (p k width known).0 (q k width known) c.in_default.is in absurd (omega (arith, e, le)))

pub loop-place-preserved : goal.loop-place-preserved
loop-place-preserved g c =
    let items = c.loop-place.place-items in
    let lt : c.loop-place.place-index < length items = omega arith in
    read_on c.loop-place.invariant c.next.ensures (λ m p q k width known. (
      listed_more known (p k width known).0 (q k width known) c.in-Some.spot c.in-Some.is,
      fill_more items (listed_from m.sections c.args.self.now.wanted.key.now None) _ c.loop-place.place-index c.in-Some.spot.place lt (p k width known).1
          (listed_at known (p k width known).0 (q k width known) c.in-Some.spot c.in-Some.is),
    ))

pub returns : goal.returns
returns g c =
    let e : c.loop-place.place-index ≡ length c.args.places.now = omega arith in
    read_so c.loop-place.invariant (λ m p k width known le.
    sym (take_all c.loop-place.place-index c.loop-place.place-items (omega arith)) ∙ (p k width known).1 ∙ ap (λ n. take n (listed_from m.sections c.args.self.now.wanted.key.now None)) e)
