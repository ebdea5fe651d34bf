-- What a turn asks for.
--   ok_as f r        the result r with its good value read by f
--   read_key flaw k  the bytes k as a key of the kind with these flaws, or the refusal of them
--   asked flaw u     the call that the turn u asks for, its key by bytes, or why it asks for none
--   told_misread e   what is told of a turn that asks for none
use Rattle.std.specs.Prelude.{ℕ, cond, List, Some, None, Ok, Err, Option, Result, ◌==◌}
use Rattle.keys.specs.declared.fault.KeyFault.{KeyFault}
use Rattle.keys.specs.declared.fault.KeyFault.TheVariants.{NotAKey}
use Rattle.keys.specs.Faults as keys
use Rattle.rules.specs.declared.call.Call.{Call}
use Rattle.rules.specs.declared.call.Call.TheVariants.{Load, Put, PutMulti, Prune, GetNumber, GetKey, GetPlace, HasNumber, HasKey, HasBoth, ListNumber, ListKey, Counts}
use Rattle.lent.specs.declared.answer.Answer.{Answer}
use Rattle.lent.specs.declared.asking.Misread.{Misread}
use Rattle.lent.specs.declared.asking.Misread.TheVariants.{NoSuchCall, Key}
use Rattle.lent.specs.Seen.{Seen}
use Rattle.lent.specs.Told.{tells, refused}

abbrev pub ok_as : {X Y E : Type 0} → (X → Y) → Result X E → Result Y E
ok_as f (Ok x) = Ok (f x)
ok_as f (Err e) = Err e

abbrev pub unless : Option ℕ → List ℕ → Result (List ℕ) KeyFault
unless None k = Ok k
unless (Some place) k = Err (NotAKey place)

abbrev pub read_key : (List ℕ → Option ℕ) → List ℕ → Result (List ℕ) KeyFault
read_key flaw k = unless (flaw k) k

abbrev pub with_key : (List ℕ → Call (List ℕ)) → Result (List ℕ) KeyFault → Result (Call (List ℕ)) Misread
with_key call (Ok k) = Ok (call k)
with_key call (Err f) = Err (Key f)

abbrev pub asked : (List ℕ → Option ℕ) → Seen → Result (Call (List ℕ)) Misread
asked flaw u =
    cond (u.call == 1) (Ok (Load u.number))
    (cond (u.call == 2) (with_key (Put (record { number = u.number })) (read_key flaw u.key))
    (cond (u.call == 3) (with_key (PutMulti (record { number = u.number })) (read_key flaw u.key))
    (cond (u.call == 4) (Ok (Prune u.number))
    (cond (u.call == 5) (Ok (GetNumber u.number))
    (cond (u.call == 6) (with_key GetKey (read_key flaw u.key))
    (cond (u.call == 7) (Ok (GetPlace (record { number = u.number; position = u.position })))
    (cond (u.call == 8) (Ok (HasNumber u.number))
    (cond (u.call == 9) (with_key HasKey (read_key flaw u.key))
    (cond (u.call == 10) (with_key (HasBoth u.number) (read_key flaw u.key))
    (cond (u.call == 11) (Ok (ListNumber u.number))
    (cond (u.call == 12) (with_key ListKey (read_key flaw u.key))
    (cond (u.call == 13) (Ok Counts)
    (Err NoSuchCall)))))))))))))

abbrev pub told_misread : Misread → Answer
told_misread NoSuchCall = tells 16 0 0 0 0
told_misread (Key f) = refused (keys.parts_of f)
