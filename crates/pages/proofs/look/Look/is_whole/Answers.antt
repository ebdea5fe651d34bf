use Rattle.std.proofs.Common.{◌≡◌, ℕ, ◌+◌, ◌-◌, List, ap, ap₂, ◌∙◌, rules, arith}
use Rattle.journal.specs.Bytes.{chunk}
use Rattle.journal.specs.Meaning.{check_size}
use Rattle.format.specs.Decode.{vals_place, vals, content_of}
use Rattle.format.proofs.Bytes.{chunk_inside}
use Rattle.format.proofs.Reading.{content_inside}
use Rattle.pages.specs.Looks.{is_bytes}
use Rattle.pages.proofs.look.Look.is_whole.Goals as goal

pub returns : goal.returns
returns c =
    let l = c.args.self.now.layout.limits in
    let vs = c.args.self.now.values.now in
    let s = c.args.slot in
    let a = c.args.offset in
    let z = c.args.size in
    let e : c.part.result.now ≡ chunk (vals l vs s) a z = c.part.ensures.part ∙ chunk_inside vs (vals_place l s) l.bytes a z _ (ap (λ (n : ℕ). n + a) c.values_place-at.ensures) (omega arith) in
    let f : c.is_value_checked.result ≡ is_bytes (content_of (vals l vs s) a (z - check_size)) =
    c.is_value_checked.ensures
    ∙ (ap₂ (λ (xs : List ℕ) (n : ℕ). is_bytes (content_of xs 0 (n - check_size))) e c.part.ensures.long
    ∙ ap is_bytes (content_inside (vals l vs s) a z (omega arith))) in
    search rules
