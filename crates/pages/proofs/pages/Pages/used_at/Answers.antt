use Rattle.std.proofs.Common.{◌≡◌}
use Rattle.format.specs.State.{page_in}
use Rattle.format.proofs.Mounting.{sound_well}
use Rattle.pages.specs.Raws.{view}
use Rattle.pages.proofs.pages.Pages.used_at.Goals as goal

pub next_offset-requires : goal.next_offset-requires
next_offset-requires c =
    let v = view c.args.self.now.raw in
    let l : c.page.result.layout.limits ≡ v.limits = cc in
    let p : c.page.result.bytes.now ≡ page_in v c.args.slot = cc in
    rw (l, p) ((sound_well v c.args.self.now.sound).pages c.args.slot c.requires)
