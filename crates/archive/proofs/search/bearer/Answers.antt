use Rattle.std.proofs.Common.{refl}
use Rattle.std.proofs.lemmas.Bool.{both_ways}
use Rattle.archive_layout.proofs.Bearers.{bearer_yes, bearer_no}
use Rattle.archive_layout.proofs.Reading.{read_so, read_entry}
use Rattle.archive.proofs.search.bearer.Goals as goal

pub returns-then-same_bytes : goal.returns-then-same_bytes
returns-then-same_bytes g c =
    read_so (read_entry c.read_entry.ensures) (λ m p law wide. bearer_yes (p law c.in-Ok.entry c.in-Ok.is) wide refl (c.same_bytes.ensures.0 c.if-same_bytes.true))

pub returns-else-same_bytes : goal.returns-else-same_bytes
returns-else-same_bytes g c =
    read_so (read_entry c.read_entry.ensures) (λ m p law wide. bearer_no (p law c.in-Ok.entry c.in-Ok.is) wide refl (λ e. both_ways _ c.if-same_bytes.false (c.same_bytes.ensures.1 e)))
