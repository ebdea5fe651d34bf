-- What a program's turns stand for.
--   by_bytes bytes c   the call c, each key by its bytes
--   handed bytes u     what the turn u hands in
--   answered u         what it holds once it was run
use Rattle.std.specs.Prelude.{ℕ, List, vec_items}
use Rattle.rules.specs.declared.call.Call.{Call}
use Rattle.rules.specs.declared.call.Call.TheVariants.{Load, Put, PutMulti, Prune, GetNumber, GetKey, GetPlace, HasNumber, HasKey, HasBoth, ListNumber, ListKey, Counts}
use Rattle.rules.specs.declared.turn.Turn.{Turn}
use Rattle.rules.specs.Steps.{Handed, Answer}

abbrev pub by_bytes : {K : Type 0} → (K → List ℕ) → Call K → Call (List ℕ)
by_bytes bytes (Load size) = Load size
by_bytes bytes (Put label key) = Put label (bytes key)
by_bytes bytes (PutMulti label key) = PutMulti label (bytes key)
by_bytes bytes (Prune min) = Prune min
by_bytes bytes (GetNumber n) = GetNumber n
by_bytes bytes (GetKey key) = GetKey (bytes key)
by_bytes bytes (GetPlace p) = GetPlace p
by_bytes bytes (HasNumber n) = HasNumber n
by_bytes bytes (HasKey key) = HasKey (bytes key)
by_bytes bytes (HasBoth n key) = HasBoth n (bytes key)
by_bytes bytes (ListNumber n) = ListNumber n
by_bytes bytes (ListKey key) = ListKey (bytes key)
by_bytes bytes Counts = Counts

abbrev pub handed : {K : Type 0} → (K → List ℕ) → Turn K → Handed
handed bytes u = record { call = by_bytes bytes u.call; bytes = vec_items u.bytes; places = vec_items u.places }

abbrev pub answered : {K : Type 0} → Turn K → Answer
answered u = record { says = u.answer; bytes = vec_items u.bytes; places = vec_items u.places }
