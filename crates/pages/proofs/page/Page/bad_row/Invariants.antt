use Rattle.std.proofs.Common.{◌≡◌, ◌≤◌}
use Rattle.format.specs.Decode.{count_of, used}
use Rattle.format.specs.Mount.{passing, row_good}
use Rattle.pages.proofs.page.Page.bad_row.Given as goal

abbrev pub invariant-loop-r : goal.invariant-loop-r
invariant-loop-r l = record {
  end : l.r-end ≡ count_of l.self.bytes.now;
  place : l.used ≡ used l.self.layout.limits.width l.self.bytes.now l.r;
  room : l.used ≤ l.self.layout.limits.bytes;
  sound : passing (row_good l.self.layout.limits.width l.self.layout.limits.bytes l.self.bytes.now) l.r ≡ l.r;
}
