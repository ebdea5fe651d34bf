use Rattle.std.proofs.Common.{◌≡◌, ◌-◌, min, length, take, drop, replicate, fold, refl, arith, rules}
use Rattle.keys.specs.Translators.{behind, count_of}
use Rattle.keys.proofs.Front.{front_folds}
use Rattle.keys.proofs.translator.LeadingTranslator.translate.Goals as goal

pub returns : goal.returns
returns c =
    let n = count_of c.args.self.now in
    let g = min (length c.args.key.now) n in
    let first : c.fold-number.result ≡ fold behind 0 (take g c.args.key.now) = search rules in
    let zeros : c.fold.result ≡ fold behind c.fold-number.result (take (n - g) (drop g (replicate 8 0))) = search rules in
    front_folds c.args.key.now n g c.fold-number.result c.fold.result (omega (arith, c.count-count.ensures)) refl (λ i. omega (arith, c.type_inv.key i)) first zeros
