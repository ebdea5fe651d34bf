use Rattle.std.proofs.Common.{◌≡◌}
use Rattle.format.specs.State.{first_from}
use Rattle.format.proofs.Meanings.{first_meant}
use Rattle.format.proofs.Mounting.{sound_well}
use Rattle.pages.specs.Raws.{view}
use Rattle.pages.proofs.pages.calls.PagesJournal.first_start.Goals as goal

pub returns : goal.returns
returns c =
    let v = view c.args.self.now.raw in
    let e : c.first_from.result ≡ first_from v.limits v.entries c.args.from v.limits.slots = cc in
    record { answer = λ o f. first_meant v (sound_well v f) c.args.from c.first_from.result e }
