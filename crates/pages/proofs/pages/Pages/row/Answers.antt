use Rattle.std.proofs.Common.{◌≡◌, arith}
use Rattle.format.specs.State.{row_in}
use Rattle.format.proofs.Mounting.{sound_well}
use Rattle.pages.specs.Raws.{view}
use Rattle.pages.proofs.pages.Pages.row.Goals as goal

pub row-requires : goal.row-requires
row-requires c =
    let v = view c.args.self.now.raw in
    let l : c.page.result.layout.limits ≡ v.limits = cc in
    rw l (omega (arith, c.requires.position, ((sound_well v c.args.self.now.sound).pages c.args.slot c.requires.slot).few))

pub returns-clause-some : goal.returns-clause-some
returns-clause-some c =
    let v = view c.args.self.now.raw in
    let g = ((sound_well v c.args.self.now.sound).pages c.args.slot c.requires.slot).each c.args.position c.requires.position in
    let e : c.row.result.bytes.now ≡ row_in v c.args.slot c.args.position = cc in
    rw e g.some

pub returns-clause-room : goal.returns-clause-room
returns-clause-room c =
    let v = view c.args.self.now.raw in
    let g = ((sound_well v c.args.self.now.sound).pages c.args.slot c.requires.slot).each c.args.position c.requires.position in
    let e : c.row.result.bytes.now ≡ row_in v c.args.slot c.args.position = cc in
    rw e (omega (arith, g.place, g.room))
