use Rattle.std.proofs.Common.{◌≡◌, arith}
use Rattle.format.specs.State.{count_in}
use Rattle.format.proofs.Mounting.{sound_well}
use Rattle.pages.specs.Raws.{view}
use Rattle.pages.proofs.pages.Pages.count_at.Goals as goal

pub returns-clause-few : goal.returns-clause-few
returns-clause-few c =
    let v = view c.args.self.now.raw in
    let e : c.count.result ≡ count_in v c.args.slot = cc in
    omega (arith, e, ((sound_well v c.args.self.now.sound).pages c.args.slot c.requires).few)
