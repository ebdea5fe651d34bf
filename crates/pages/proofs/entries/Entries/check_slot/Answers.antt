use Rattle.std.proofs.Common.{sym, ◌∙◌}
use Rattle.format.proofs.Mounting.{head_is}
use Rattle.pages.proofs.entries.Entries.check_slot.Goals as goal

pub bad_row-requires : goal.bad_row-requires
bad_row-requires c =
    let h = head_is c.args.self.now.layout.limits c.args.self.now.bytes.now c.args.slot (sym c.is_head_good.ensures ∙ c.if-not-is_head_good.false) in
    rw (c.page-page.ensures.limits, c.page-page.ensures.page) h.few
