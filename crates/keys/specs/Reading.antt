-- Reading bytes into a key, by the flaw of the bytes, of whatever kind.
--   of_width w place xs           the flaw of xs for a kind of w bytes: w for a wrong length, else the bad place, if any
--   taken w xs                    xs as they are, or the refusal of another length than w
--   read_answer flaw              what the read answers
--   read_bytes flaw xs before     the bytes that the key gives afterwards, if it gave `before`
use Rattle.std.specs.Prelude.{ℕ, cond, List, length, Some, None, Ok, Err, Option, Result, ◌==◌}
use Rattle.keys.specs.declared.fault.KeyFault.{KeyFault}
use Rattle.keys.specs.declared.fault.KeyFault.TheVariants.{NotAKey}

abbrev pub of_width : ℕ → Option ℕ → List ℕ → Option ℕ
of_width w place xs = cond (length xs == w) place (Some w)

abbrev pub taken : ℕ → List ℕ → Result (List ℕ) KeyFault
taken w xs = cond (length xs == w) (Ok xs) (Err (NotAKey w))

abbrev pub read_answer : Option ℕ → Result Unit KeyFault
read_answer None = Ok tt
read_answer (Some place) = Err (NotAKey place)

abbrev pub read_bytes : Option ℕ → List ℕ → List ℕ → List ℕ
read_bytes None xs before = xs
read_bytes (Some place) xs before = before
