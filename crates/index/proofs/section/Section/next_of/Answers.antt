use Rattle.std.proofs.Common.{◌≡◌, length, arith}
use Rattle.std.proofs.lemmas.Grind.{common_steps}
use Rattle.index_layout.specs.Links.{linked, following}
use Rattle.index_layout.proofs.Offsets.{next_within}
use Rattle.index.specs.Rows.{held, offsets_of}
use Rattle.index.proofs.section.Section.next_of.Goals as goal

pub returns-clause-within : goal.returns-clause-within
returns-clause-within c =
    let s = c.args.self.now in
    let e : c.map.result ≡ linked (following (offsets_of (held s.rows)) c.args.position (length (held s.rows))) = grind (arith, common_steps) in
    next_within (offsets_of (held s.rows)) c.args.position (length (held s.rows)) 128 c.map.result (omega arith) e
