use Rattle.std.proofs.Common.{rules}
use Rattle.format.specs.Mount.{row_fits}
use Rattle.pages.proofs.row.Row.fits.Goals as goal

pub returns-then-size-ge-CHECK_SIZE : goal.returns-then-size-ge-CHECK_SIZE
unfolding row_fits
returns-then-size-ge-CHECK_SIZE c = search rules

pub returns-else-size-ge-CHECK_SIZE : goal.returns-else-size-ge-CHECK_SIZE
unfolding row_fits
returns-else-size-ge-CHECK_SIZE c = search rules
