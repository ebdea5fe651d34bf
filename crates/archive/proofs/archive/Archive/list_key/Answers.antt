use Rattle.std.proofs.Common.{ℕ, Ok, refl, ap₂, ◌∙◌, arith}
use Rattle.std.proofs.lemmas.List.{length-take-le}
use Rattle.rules.specs.State.{bears_key}
use Rattle.rules.specs.Calls.{listed_key}
use Rattle.index.specs.Slots.{views}
use Rattle.archive_layout.proofs.Candidates.{counted_candidates}
use Rattle.archive_layout.proofs.Gets.{listing_short}
use Rattle.archive_layout.proofs.Listed.{listed_by_key}
use Rattle.archive_layout.proofs.Reading.{read_both}
use Rattle.archive_layout.proofs.Searches.{listed_length}
use Rattle.archive.specs.Parts.{kind_of, coding_of}
use Rattle.archive.specs.Archives.{state_of}
use Rattle.archive.proofs.Fitting.{known, does_read}
use Rattle.archive.proofs.archive.Archive.list_key.Goals as goal

pub returns-then-places-count : goal.returns-then-places-count
returns-then-places-count g c =
    let a = c.args.self.now in
    let s = state_of g.J.Journal.meaning a in
    let kind = kind_of g.T.Translator.translated g.K.Key.W g.K.Key.flaw a.translator in
    let key = g.K.Key.bytes c.args.key.now in
    let count = rw c.new.ensures.key at c.count-count.ensures in
    does_read count (λ o f p.
    let w = known a c.in-Some.size key _ _ f c.in-Some.is (g.met.K.Key.long c.args.key.now) c.new.ensures.code c.new.ensures.hash in
    let is = listing_short s (bears_key key) (listed_key kind s key) c.in-Some.size c.in-Some.is c.args.places.now c.count-count.result
    (p _ g.K.Key.W w ∙ listed_length s.journal key) c.if-places-count.true in
    (is.answer, is.places))

pub returns : goal.returns
returns g c =
    let a = c.args.self.now in
    let s = state_of g.J.Journal.meaning a in
    let m = s.journal in
    let k = coding_of g.T.Translator.translated g.T.Translator.hashed a.translator in
    let kind = kind_of g.T.Translator.translated g.K.Key.W g.K.Key.flaw a.translator in
    let key = g.K.Key.bytes c.args.key.now in
    let count = rw c.new.ensures.key at c.count-count.ensures in
    let fill = rw c.new.ensures.key at c.fill.ensures in
    let taken = length-take-le c.count-count.result c.args.places.now c.if-places-count.false in
    does_read (read_both count fill) (λ o f p.
    let w = known a c.in-Some.size key _ _ f c.in-Some.is (g.met.K.Key.long c.args.key.now) c.new.ensures.code c.new.ensures.hash in
    let n = p.0 _ g.K.Key.W w in
    let all = n ∙ listed_length m key in
    let is = listed_by_key s (listed_key kind s key) c.in-Some.size c.in-Some.is c.args.places.now c.fill.new.places c.count-count.result _ c.if-places-count.false taken key all
    (p.1 _ g.K.Key.W w (omega (arith, n, taken))) in
    let among = c.candidates.ensures ∙ counted_candidates kind k m key _ _ refl w.coded (views a.index) w.fit.held f.lawful a.index.apart in
    (ap₂ (λ (x y : ℕ). Ok (record { count = x; candidates = y })) all among ∙ is.answer, is.places))
