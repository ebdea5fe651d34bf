use Rattle.std.proofs.Common.{length, Ok, ap, ◌∙◌, arith}
use Rattle.std.proofs.lemmas.List.{length-take-le}
use Rattle.rules.specs.State.{records_of, those, bears_number}
use Rattle.archive_layout.proofs.Gets.{listing_short}
use Rattle.archive_layout.proofs.Listed.{listed_by_number}
use Rattle.archive.specs.Archives.{state_of}
use Rattle.archive.proofs.Fitting.{fit_of}
use Rattle.archive.proofs.archive.Archive.list_index.Goals as goal

pub returns-then-places-count : goal.returns-then-places-count
returns-then-places-count g c o f =
    let a = c.args.self.now in
    let s = state_of g.J.Journal.meaning a in
    let n = c.args.number in
    let l = c.in-Some.size in
    let count = rw (c.new-arrivals.ensures.index, c.new-arrivals.ensures.parts.0, c.new-arrivals.ensures.parts.1) at c.count-count.ensures in
    let is = listing_short s (bears_number n) (length (those (bears_number n) (records_of s.journal.sections))) l c.in-Some.is c.args.places.now c.count-count.result
    (count _ g.K.Key.W s.journal f.lawful (fit_of a l f c.in-Some.is)) c.if-places-count.true in
    (is.answer, is.places)

pub returns : goal.returns
returns g c o f =
    let a = c.args.self.now in
    let s = state_of g.J.Journal.meaning a in
    let m = s.journal in
    let n = c.args.number in
    let l = c.in-Some.size in
    let fit = fit_of a l f c.in-Some.is in
    let count = rw (c.new-arrivals.ensures.index, c.new-arrivals.ensures.parts.0, c.new-arrivals.ensures.parts.1) at c.count-count.ensures in
    let fill = rw (c.new-arrivals.ensures.index, c.new-arrivals.ensures.parts.0, c.new-arrivals.ensures.parts.1) at c.fill.ensures in
    let taken = length-take-le c.count-count.result c.args.places.now c.if-places-count.false in
    let all = count _ g.K.Key.W m f.lawful fit in
    let is = listed_by_number s (length (those (bears_number n) (records_of m.sections))) l c.in-Some.is c.args.places.now c.fill.new.places c.count-count.result _ c.if-places-count.false taken n all
    (fill _ g.K.Key.W m f.lawful fit (omega (arith, all, taken))) in
    (ap (λ i. Ok i) all ∙ is.answer, is.places)
