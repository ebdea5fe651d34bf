use Rattle.std.proofs.Common.{refl, ◌∙◌, ap, arith}
use Rattle.std.proofs.lemmas.Option.{IfSome_then}
use Rattle.index_layout.specs.Views.{older_in}
use Rattle.index.specs.Viewed.{viewed}
use Rattle.index.proofs.Chains.{older_from}
use Rattle.index.proofs.section.Section.older.Goals as goal

pub matched-requires : goal.matched-requires
matched-requires c = (older_from c.args.self.now c.in_ok-row.row.bucket c.args.key.code c.in_ok-row.row c.args.position c.in_ok-row.ensures refl).0

pub returns-clause-is : goal.returns-clause-is
returns-clause-is c =
    let s = c.args.self.now in
    c.matched.ensures.is
    ∙ (older_from s c.in_ok-row.row.bucket c.args.key.code c.in_ok-row.row c.args.position c.in_ok-row.ensures refl).2
    ∙ ap (λ b. older_in (viewed s) c.args.key.code b c.args.position) (c.if-row-bucket.false ∙ c.bucket.ensures.is)

pub returns-clause-few : goal.returns-clause-few
returns-clause-few c =
    let lead = older_from c.args.self.now c.in_ok-row.row.bucket c.args.key.code c.in_ok-row.row c.args.position c.in_ok-row.ensures refl in
    IfSome_then c.matched.result c.matched.ensures.before (λ p h. omega (arith, lead.0.0))

pub returns-clause-before : goal.returns-clause-before
returns-clause-before c =
    let lead = older_from c.args.self.now c.in_ok-row.row.bucket c.args.key.code c.in_ok-row.row c.args.position c.in_ok-row.ensures refl in
    IfSome_then c.matched.result c.matched.ensures.before (λ p h. omega (arith, lead.1))
