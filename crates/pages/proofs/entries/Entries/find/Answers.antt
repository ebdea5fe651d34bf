use Rattle.std.proofs.Common.{◌≡◌, true, false, rules, tests}
use Rattle.std.proofs.lemmas.Iterator.{first_from_Range}
use Rattle.format.specs.Mount.{bears}
use Rattle.format.proofs.Firsts.{found_is, found_within}
use Rattle.pages.proofs.entries.Entries.find.Goals as goal

pub returns : goal.returns
returns c =
    let p = bears c.args.self.now.layout.limits c.args.self.now.bytes.now c.args.start in
    let first = first_from_Range _ _ _ c.find.result (λ k. p k ≡ true) (λ k. p k ≡ false) c.find.ensures.ran (λ x q k. search (rules, tests)) (λ x q k. search (rules, tests)) in
    let e = found_is p c.args.n c.find.result first in
    record { slot = e; within = found_within p c.args.n c.find.result e }
