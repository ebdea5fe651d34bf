use Rattle.std.proofs.Common.{◌≡◌, ℕ, ◌-◌, length, ap, ap₂, ◌∙◌, arith}
use Rattle.std.proofs.lemmas.Result.{err_from_is_err_and}
use Rattle.journal.specs.Calls.{content_answer, content_fill}
use Rattle.journal.specs.Meaning.{Content, check_size}
use Rattle.format.specs.Decode.{content_of, offset_of, size_of}
use Rattle.format.specs.State.{row_in, vals_in}
use Rattle.format.proofs.Mounting.{sound_well}
use Rattle.format.proofs.Reading.{a_value, content_inside, no_value}
use Rattle.pages.proofs.Answering.{reads_value}
use Rattle.pages.specs.Raws.{view}
use Rattle.pages.proofs.pages.calls.PagesJournal.read_value.Goals as goal

pub returns-in_err-slot-clause-promise : goal.returns-in_err-slot-clause-promise
returns-in_err-slot-clause-promise c =
    let v = view c.args.self.now.raw in
    let p = err_from_is_err_and c.from_residual.result c.from_residual.ensures.1 in
    rw (p.1, p.2, c.in_err-slot.ensures.0) (reads_value c.args.self.now (no_value v (sound_well v c.args.self.now.sound) c.args.start c.args.position c.args.value.now c.in_err-slot.ensures.1))

pub returns-clause-promise : goal.returns-clause-promise
returns-clause-promise c =
    let v = view c.args.self.now.raw in
    let t = c.in_ok-slot.slot in
    let w = v.limits.width in
    let row = row_in v t c.args.position in
    let at : c.offset-offset.result ≡ offset_of w row = cc in
    let size : c.size-size.result ≡ size_of w row = cc in
    let e : size_of w c.row-row.result.bytes.now ≡ size_of w row = cc in
    let n = c.size-size.result - check_size in
    let stored : content_of c.stored.result.now 0 (length c.stored.result.now - check_size) ≡ content_of (vals_in v t) c.offset-offset.result n =
    ap₂ (λ s (k : ℕ). content_of s 0 (k - check_size)) c.stored.ensures.stored c.stored.ensures.long ∙ content_inside (vals_in v t) c.offset-offset.result c.size-size.result (omega (arith, c.row-row.ensures.some, size, e)) in
    reads_value c.args.self.now (a_value v (sound_well v c.args.self.now.sound) c.args.start c.args.position c.args.value.now t c.in_ok-slot.ensures.found c.copy_value.result c.copy_value.new.value c.offset-offset.result n
    at (ap (λ (z : ℕ). z - check_size) size)
    (c.copy_value.ensures.answer ∙ ap (λ (x : Content). content_answer x c.args.start c.args.position (length c.args.value.now)) stored)
    (c.copy_value.ensures.buffer ∙ ap (λ (x : Content). content_fill x c.args.value.now) stored))
