use Rattle.std.proofs.Common.{ℕ, Option, length, sym, ap, ◌∙◌}
use Rattle.keys.specs.Iso.{first_bad, flaw}
use Rattle.keys.specs.Reading.{read_answer, read_bytes}
use Rattle.keys.specs.Flaws.{taken_flaw, flawless, width_right}
use Rattle.keys.proofs.box_number.BoxNumberKey.read.Goals as goal

pub returns-in-Some : goal.returns-in-Some
returns-in-Some c =
    let t = taken_flaw 11 (λ xs. first_bad xs 0 11) c.args.from.now c.in_ok-bytes.bytes.now _ c.in_ok-bytes.ensures c.in-Some.ensures in
    record { answer = sym (ap read_answer t.0); after = sym (ap (λ (o : Option ℕ). read_bytes o c.args.from.now c.args.self.now.bytes) t.0) }

pub returns : goal.returns
returns c =
    let t = taken_flaw 11 (λ xs. first_bad xs 0 11) c.args.from.now c.in_ok-bytes.bytes.now _ c.in_ok-bytes.ensures c.in_default.ensures in
    record { answer = sym (ap read_answer t.0); after = t.1 ∙ sym (ap (λ (o : Option ℕ). read_bytes o c.args.from.now c.args.self.now.bytes) t.0) }

pub invariant_of-self : goal.invariant_of-self
invariant_of-self c =
    let t = taken_flaw 11 (λ xs. first_bad xs 0 11) c.args.from.now c.in_ok-bytes.bytes.now _ c.in_ok-bytes.ensures c.in_default.ensures in
    record { long = ap length t.1 ∙ width_right 11 (first_bad c.args.from.now 0 11) c.args.from.now t.0; valid = flawless (flaw c.in_ok-bytes.bytes.now) (ap flaw t.1 ∙ t.0) }
