use Rattle.std.proofs.Common.{length, ap, ◌∙◌, arith}
use Rattle.std.proofs.lemmas.Option.{IfSome_then}
use Rattle.index_layout.specs.Links.{linked}
use Rattle.index.specs.Rows.{held, codes_of}
use Rattle.index.proofs.Chains.{matching_in, newest_from}
use Rattle.index.proofs.section.Section.newest.Goals as goal

pub matched-requires : goal.matched-requires
matched-requires c = (newest_from c.args.self.now c.bucket-bucket.result c.args.key.code c.bucket-bucket.ensures.below).0

pub returns-clause-is : goal.returns-clause-is
returns-clause-is c =
    let s = c.args.self.now in
    c.matched.ensures.is ∙ ap linked (newest_from s c.bucket-bucket.result c.args.key.code c.bucket-bucket.ensures.below).1
    ∙ ap (λ b. linked (matching_in s b c.args.key.code (length (codes_of (held s.rows))))) c.bucket-bucket.ensures.is

pub returns-clause-few : goal.returns-clause-few
returns-clause-few c =
    let lead = newest_from c.args.self.now c.bucket-bucket.result c.args.key.code c.bucket-bucket.ensures.below in
    IfSome_then c.matched.result c.matched.ensures.before (λ p h. omega (arith, lead.0.0))
