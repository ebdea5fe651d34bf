use Rattle.std.proofs.Common.{◌≡◌, ℕ, ◌∷◌, [], None, Option, rules, refl, ap, ◌∙◌, sym}
use borrow.Author.Tests.{tests}
use Rattle.std.specs.List.{fold}
use Rattle.std.proofs.lemmas.Fn.{fold_over, slice_gives, fronts}
use Rattle.std.proofs.lemmas.List.Sums.{fold-append}
use Rattle.journal.specs.Slots.{nearest}
use Rattle.memory_layout.specs.declared.head.Head.{Head}
use Rattle.memory.proofs.Opened.{first_seen}
use Rattle.memory.proofs.tables.calls.MemoryJournal.first_start.Goals as goal

pub returns : goal.returns
returns c =
    let near : Option ℕ → Head → Option ℕ = λ b h. nearest b h.count h.start c.args.from in
    let e : c.fold.result ≡ fold near None c.iter.result.rest.now =
    fold_over fronts (λ y. y.now) _ (λ ys a. a ≡ fold near None ys) _
    (λ ys a x b f' j k. let m : b ≡ near a x.now = search (rules, tests) in (m ∙ ap (λ o. near o x.now) j ∙ sym (fold-append near None ys (x.now ∷ [])), search (rules, tests)))
    c.iter.result _ None c.fold.result (slice_gives c.iter.result) refl c.fold.ensures.ran in
    record { answer = λ o f. e ∙ ap (fold near None) c.iter.ensures.rest ∙ first_seen _ _ c.self.view_is c.self.invariant c.args.from }
