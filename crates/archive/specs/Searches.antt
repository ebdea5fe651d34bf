-- What a search for a key rests on.
--   Knows   a lawful journal that the search's index fits, with its size of sections, and the key's codes
use Rattle.std.specs.Prelude.{ℕ}
use Rattle.journal.specs.Meaning.{Meaning}
use Rattle.index.specs.Slots.{views}
use Rattle.archive_layout.specs.Fit.{Coding}
use Rattle.archive_layout.specs.Promises.{Known}
use Rattle.archive.specs.declared.search.Search.{Search}

abbrev pub Knows : Coding → ℕ → Meaning → Search → Type 0
Knows k width m s = Known k width s.size m (views s.index.now) s.wanted.key.now s.wanted.coded.code s.wanted.coded.hash
