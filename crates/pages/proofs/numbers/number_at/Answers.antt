use Rattle.std.proofs.Common.{◌≡◌, ℕ, ◌-◌, ◌^◌, ◌<◌, [], ◌∷◌, sym, ap, ◌∙◌, subst, arith}
use Rattle.std.specs.Int.{w64, from_be_bytes}
use Rattle.journal.specs.Bytes.{chunk, put}
use Rattle.format.specs.Numbers.{be}
use Rattle.format.proofs.Numbers.{be_filled, be_chunk_below}
use Rattle.pages.proofs.numbers.number_at.Goals as goal

pub returns : goal.returns
returns g c =
    let xs = c.part.result.now in
    let long = c.part.ensures.long in
    let e : c.from_be_bytes.result ≡ be (chunk c.args.bytes.now c.args.at g.row.N) =
    c.from_be_bytes.ensures
    ∙ ap (from_be_bytes w64) (c.write.ensures ∙ ap (λ n. put (0 ∷ 0 ∷ 0 ∷ 0 ∷ 0 ∷ 0 ∷ 0 ∷ 0 ∷ []) (8 - n) xs) (sym long))
    ∙ be_filled xs (omega arith)
    ∙ ap be c.part.ensures.part in
    record {
      number = e;
      bound = subst (λ (n : ℕ). n < 256 ^ g.row.N) (sym e) (be_chunk_below g.row.N c.args.at c.args.bytes.now c.requires.inside (λ i. (c.type_inv.bytes i).fits));
    }
