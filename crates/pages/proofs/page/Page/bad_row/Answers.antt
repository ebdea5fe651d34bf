use Rattle.std.proofs.Common.{◌≡◌, ℕ, ◌+◌, ◌<◌, true, false, ap, ◌∙◌, sym, add-one, arith}
use Rattle.format.specs.Decode.{count_of, used, row_at, size_of}
use Rattle.format.specs.Mount.{row_good}
use Rattle.format.proofs.Firsts.{passing_stops, passing_more}
use Rattle.format.proofs.Mounting.{fits_is}
use Rattle.pages.proofs.page.Page.bad_row.Goals as goal

pub returns-then-not-fits : goal.returns-then-not-fits
returns-then-not-fits c =
    let l = c.args.self.now.layout.limits in
    let p = c.args.self.now.bytes.now in
    let g : row_good l.width l.bytes p c.loop-r.r ≡ false = cc in
    let h : c.loop-r.r < count_of p = omega arith in
    (h, passing_stops (row_good l.width l.bytes p) (count_of p) c.loop-r.r h c.loop-r.invariant.sound g)

pub loop-r-preserved : goal.loop-r-preserved
loop-r-preserved c =
    let l = c.args.self.now.layout.limits in
    let p = c.args.self.now.bytes.now in
    let r = c.loop-r.r in
    let g : row_good l.width l.bytes p r ≡ true = cc in
    let f = fits_is l.width l.bytes (used l.width p r) (row_at l.width p r) g in
    let z : c.size-used.result ≡ size_of l.width (row_at l.width p r) = cc in
    record {
      end = c.loop-r.invariant.end;
      place = ap (λ (n : ℕ). n + c.size-used.result) c.loop-r.invariant.place ∙ (ap (λ (n : ℕ). used l.width p r + n) z ∙ ap (used l.width p) (sym (add-one r)));
      room = omega (arith, f.room, z, c.loop-r.invariant.place);
      sound = passing_more (row_good l.width l.bytes p) r c.loop-r.invariant.sound g;
    }
