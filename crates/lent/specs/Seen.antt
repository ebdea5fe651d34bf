-- What a turn in lent buffers stands for: its fields, and what lies in its buffers.
use Rattle.std.specs.Prelude.{ℕ, List}
use Rattle.rules.specs.declared.answer.Place.{Place}
use Rattle.lent.specs.declared.answer.Answer.{Answer}
use Rattle.lent.specs.declared.turn.Turn.{Turn}

pub record Seen : Type 0 where
  pub call : ℕ
  pub number : ℕ
  pub position : ℕ
  pub key : List ℕ
  pub bytes : List ℕ
  pub places : List Place
  pub answer : Answer

abbrev pub seen : Turn → Seen
seen u = record { call = u.call; number = u.number; position = u.position; key = u.key.now; bytes = u.bytes.now; places = u.places.now; answer = u.answer }
