-- What lies in two slices.
use Rattle.lent.specs.Runs.{Bytes, both}
use Rattle.lundwazo.specs.declared.slices.Slices.{Slices}

abbrev pub bytes_in : Slices → Bytes
bytes_in s = both s.entries.now s.values.now
