-- Answers in numbers.
--   tells k n s p a   the answer of kind k that tells the number n, the section s, the position p and the amount a
--   refused f         the answer that shows the parts f of a refusal
--   told_reply r      what is told of the reply r
--   told w            what is told of a turn that says w
use Rattle.std.specs.Prelude.{ℕ, true, false, Some, None, Ok, Err, Option}
use Rattle.keys.specs.declared.fault.FaultParts.{FaultParts}
use Rattle.rules.specs.declared.answer.Put.{Put}
use Rattle.rules.specs.declared.answer.Put.TheVariants.{BelowFloor, AlreadyThere, Stored}
use Rattle.rules.specs.declared.answer.Pruned.{Pruned}
use Rattle.rules.specs.declared.answer.Pruned.TheVariants.{Unchanged, Struck}
use Rattle.rules.specs.declared.answer.Found.{Found}
use Rattle.rules.specs.declared.answer.Counts.{Counts}
use Rattle.rules.specs.declared.answer.Reply.{Reply}
use Rattle.rules.specs.declared.answer.Reply.TheVariants as reply
use Rattle.rules.specs.Faults.{parts_of}
use Rattle.rules.specs.Steps.{Says}
use Rattle.lent.specs.declared.answer.Answer.{Answer}

abbrev pub tells : ℕ → ℕ → ℕ → ℕ → ℕ → Answer
tells k n s p a = record { kind = k; parts = record { number = n; layer = 0; section = s; position = p; amount = a } }

abbrev pub refused : FaultParts → Answer
refused f = record { kind = 1; parts = f }

abbrev pub told_put : Put → Answer
told_put BelowFloor = tells 3 0 0 0 0
told_put AlreadyThere = tells 4 0 0 0 0
told_put (Stored s p) = tells 5 0 s p 0

abbrev pub told_pruned : Pruned → Answer
told_pruned Unchanged = tells 6 0 0 0 0
told_pruned (Struck numbers records) = tells 7 numbers 0 0 records

abbrev pub told_found : Option Found → Answer
told_found None = tells 8 0 0 0 0
told_found (Some f) = tells 9 f.place.number 0 f.place.position f.length

abbrev pub counted : Option ℕ → ℕ → ℕ → Answer
counted None numbers records = tells 14 numbers 0 0 records
counted (Some floor) numbers records = tells 15 numbers floor 0 records

abbrev pub told_counts : Counts → Answer
told_counts c = counted c.floor c.numbers c.records

abbrev pub told_reply : Reply → Answer
told_reply (reply.Loaded records) = tells 2 0 0 0 records
told_reply (reply.Put p) = told_put p
told_reply (reply.Pruned p) = told_pruned p
told_reply (reply.Found f) = told_found f
told_reply (reply.Has false) = tells 10 0 0 0 0
told_reply (reply.Has true) = tells 11 0 0 0 0
told_reply (reply.ListedByNumber count) = tells 12 0 0 0 count
told_reply (reply.ListedByKey l) = tells 13 l.candidates 0 0 l.count
told_reply (reply.Counted c) = told_counts c

abbrev pub told : Says → Answer
told None = tells 0 0 0 0 0
told (Some (Ok r)) = told_reply r
told (Some (Err f)) = refused (parts_of f)
