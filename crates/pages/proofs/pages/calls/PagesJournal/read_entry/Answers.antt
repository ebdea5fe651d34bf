use Rattle.std.proofs.Common.{◌≡◌, ℕ, ◌-◌, ap₂, arith}
use Rattle.std.proofs.lemmas.Result.{err_from_is_err_and}
use Rattle.journal.specs.declared.row.Label.{Label}
use Rattle.journal.specs.Bytes.{put}
use Rattle.journal.specs.Meaning.{check_size}
use Rattle.format.specs.Decode.{key_of, label_of, size_of}
use Rattle.format.specs.State.{row_in}
use Rattle.format.proofs.Mounting.{sound_well}
use Rattle.format.proofs.Reading.{an_entry, no_entry, short_entry}
use Rattle.pages.proofs.Answering.{reads_entry}
use Rattle.pages.specs.Raws.{view}
use Rattle.pages.proofs.pages.calls.PagesJournal.read_entry.Goals as goal

pub returns-in_err-slot-clause-promise : goal.returns-in_err-slot-clause-promise
returns-in_err-slot-clause-promise c =
    let v = view c.args.self.now.raw in
    let p = err_from_is_err_and c.from_residual.result c.from_residual.ensures.1 in
    rw (p.1, p.2, c.in_err-slot.ensures.0) (reads_entry c.args.self.now (no_entry v (sound_well v c.args.self.now.sound) c.args.start c.args.position c.args.key.now c.in_err-slot.ensures.1))

pub returns-then-key-width-clause-promise : goal.returns-then-key-width-clause-promise
returns-then-key-width-clause-promise c =
    let v = view c.args.self.now.raw in
    rw c.width-width.ensures (reads_entry c.args.self.now (short_entry v (sound_well v c.args.self.now.sound) c.args.start c.args.position c.args.key.now c.in_ok-slot.slot c.in_ok-slot.ensures.found (omega arith)))

pub returns-clause-promise : goal.returns-clause-promise
returns-clause-promise c =
    let v = view c.args.self.now.raw in
    let t = c.in_ok-slot.slot in
    let w = v.limits.width in
    let row = row_in v t c.args.position in
    let label : c.label.result ≡ label_of w row = cc in
    let size : c.size.result ≡ size_of w row = cc in
    let key : c.write.new.bytes ≡ put c.args.key.now 0 (key_of w row) = cc in
    reads_entry c.args.self.now (an_entry v (sound_well v c.args.self.now.sound) c.args.start c.args.position c.args.key.now t c.in_ok-slot.ensures.found (omega arith) _ _
    (ap₂ (λ (a : Label) (z : ℕ). record { label = a; length = z - check_size }) label size) key)
