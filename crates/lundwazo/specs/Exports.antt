-- What the exports answer.
--   entries_in, values_in  how long a slice is, and 0 where there are no pages
--   bare n           the outcome n, with no refusal to tell
--   told r           the outcome of a journal's answer r
--   told_by o        the same where o is the refusal, if any
--   translator_by n  the translator with the number n
--   chosen k n       keys of the kind with the number k, by that translator, or the status that says which there is not
--   RunsBy ..        what a run promises, by what was chosen and by the refusal of the pages: where there is no such kind or
--                    translator, or the pages are refused, that is the outcome, and the turns are as they were; else they were
--                    taken over a journal of meaning m, and obey the law, and of what it then means holds what saved says
--   KeptUnlessDone   the bytes of the pages, and of what is saved into, are as they were, but where the run was made
use Rattle.std.specs.Prelude.{◌≡◌, ℕ, false, cond, List, Some, None, Ok, Err, Option, Result, ◌==◌}
use Rattle.keys.specs.declared.translator.AnyTranslator.{AnyTranslator}
use Rattle.keys.specs.declared.translator.AnyTranslator.TheVariants as any
use Rattle.keys.specs.declared.translator.Leading.TheVariants.{One, Two, Four, Eight}
use Rattle.keys.specs.Translators.{translated_by}
use Rattle.keys.specs.Iso as iso
use Rattle.keys.specs.Digests as digests
use Rattle.journal.specs.Meaning.{Meaning}
use Rattle.journal.specs.Faults.{parts_of}
use Rattle.journal.specs.declared.fault.JournalFault.{JournalFault}
use Rattle.pages.specs.declared.sizes.Sizes.{Sizes}
use Rattle.rules.specs.State.{Kind, State}
use Rattle.lent.specs.Seen.{Seen}
use Rattle.lent.specs.Runs.{Bytes, Serves}
use Rattle.lundwazo.specs.declared.outcome.Outcome.{Outcome}

abbrev pub entries_in : Option Sizes → ℕ
entries_in None = 0
entries_in (Some s) = s.entries

abbrev pub values_in : Option Sizes → ℕ
values_in None = 0
values_in (Some s) = s.values

abbrev pub bare : ℕ → Outcome
bare n = record { status = n; fault = record { number = 0; layer = 0; section = 0; position = 0; amount = 0 } }

abbrev pub refusal : JournalFault → Outcome
refusal f = record { status = 1; fault = parts_of f }

abbrev pub told : Result Unit JournalFault → Outcome
told (Ok u) = bare 0
told (Err f) = refusal f

abbrev pub told_by : Option JournalFault → Outcome
told_by None = bare 0
told_by (Some f) = refusal f

abbrev pub translator_by : ℕ → Option AnyTranslator
translator_by n =
    cond (n == 0) (Some (any.Fnv (record {})))
    (cond (n == 1) (Some (any.Leading One))
    (cond (n == 2) (Some (any.Leading Two))
    (cond (n == 4) (Some (any.Leading Four))
    (cond (n == 8) (Some (any.Leading Eight))
    None))))

abbrev pub with_kind : ℕ → (List ℕ → Option ℕ) → Option AnyTranslator → Result Kind ℕ
with_kind width flaw None = Err 3
with_kind width flaw (Some t) = Ok (record { width = width; flaw = flaw; translated = translated_by t })

abbrev pub chosen : ℕ → ℕ → Result Kind ℕ
chosen k n = cond (k == 1) (with_kind 11 iso.flaw (translator_by n)) (cond (k == 2) (with_kind 32 digests.flaw (translator_by n)) (Err 2))

abbrev pub RunsBy : Result Kind ℕ → Option JournalFault → Meaning → List Seen → List Seen → (Meaning → Type 0) → Outcome → Type 0
RunsBy (Err n) o m us vs saved r = (r ≡ bare n) × (vs ≡ us)
RunsBy (Ok kind) (Some f) m us vs saved r = (r ≡ refusal f) × (vs ≡ us)
RunsBy (Ok kind) None m us vs saved r = (r ≡ bare 0) × (t : State) × Serves kind m us vs t × saved t.journal

abbrev pub KeptUnlessDone : Outcome → Bytes → Bytes → Bytes → Bytes → Type 0
KeptUnlessDone r pages saved pages' saved' = (r.status == 0) ≡ false → (pages' ≡ pages) × (saved' ≡ saved)
