use Rattle.std.proofs.Common.{◌-◌, length, refl, sym, ap, ◌∙◌, arith}
use Rattle.journal.specs.Bytes.{put}
use Rattle.journal.specs.Meaning.{check_size}
use Rattle.format.proofs.Reading.{content_short, content_damaged, content_sound}
use Rattle.pages.proofs.Checking.{checked_same, checked_apart}
use Rattle.pages.proofs.value.copy_value.Goals as goal

pub returns-then-value-size : goal.returns-then-value-size
returns-then-value-size c =
    let n = length c.args.stored.now - check_size in
    let r = content_short c.args.stored.now 0 n (omega (arith, c.requires)) c.args.section c.args.position c.args.value.now (omega arith) in
    record { answer = r.0; buffer = r.1 }

pub returns-then-not-is_value_checked : goal.returns-then-not-is_value_checked
returns-then-not-is_value_checked c =
    let xs = c.args.stored.now in
    let n = length xs - check_size in
    let r = content_damaged xs 0 n (omega (arith, c.requires)) c.args.section c.args.position c.args.value.now (omega arith) _ _ refl refl
    (checked_apart xs 0 n (sym c.is_value_checked.ensures ∙ c.if-not-is_value_checked.true)) in
    record { answer = r.0; buffer = r.1 }

pub returns : goal.returns
returns c =
    let xs = c.args.stored.now in
    let n = length xs - check_size in
    let r = content_sound xs 0 n (omega (arith, c.requires)) c.args.section c.args.position c.args.value.now (omega arith) _ _ refl refl
    (checked_same xs 0 n (sym c.is_value_checked.ensures ∙ c.if-not-is_value_checked.false))
    c.write.new.bytes (c.write.ensures ∙ ap (put c.args.value.now 0) c.part.ensures.part) in
    record { answer = r.0; buffer = r.1 }
