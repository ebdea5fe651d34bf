use Rattle.std.proofs.Common.{◌≡◌}
use Rattle.format.specs.Mount.{empty_at, found}
use Rattle.format.proofs.Appends.{takes_found, vacant_or}
use Rattle.format.proofs.Mounting.{sound_well}
use Rattle.pages.specs.Raws.{view}
use Rattle.pages.proofs.pages.Pages.slot_for.Goals as goal

pub returns-in-Some : goal.returns-in-Some
returns-in-Some c = takes_found (view c.args.self.now.raw) c.in-Some.slot c.args.start c.in-Some.ensures.slot

pub returns-in-None : goal.returns-in-None
returns-in-None c =
    let v = view c.args.self.now.raw in
    let e : c.vacant.result ≡ found (empty_at v.limits v.entries) v.limits.slots = cc in
    vacant_or v c.args.start (sound_well v c.args.self.now.sound) c.vacant.result c.ok_or.result c.in-None.ensures.slot e c.ok_or.ensures.value
