-- No call changes the limits of the journal. Assumes nothing.
use Rattle.std.proofs.Common.{◌≡◌, ℕ, Bool, true, false, cond, List, [], ◌∷◌, Some, None, Option, refl, sym, ap, ◌∙◌}
use Rattle.journal.specs.declared.limits.Limits.{Limits}
use Rattle.journal.specs.Calls.{or_keep, appended, append_fault, with_row, new_row}
use Rattle.rules.specs.State.{Kind, State, section_of}
use Rattle.rules.specs.Calls.{load_fault, loaded, put_next, prune_next, with_journal, changed_if_loaded}
use Rattle.rules.specs.Steps.{Handed, Event, Change, loads, puts, prunes, asks, change_of, changed, next, Follows}

abbrev limits_of : State → Limits
limits_of s = s.journal.limits

kept_or : {X F : Type 0} (limits : X → Limits) (o : Option F) (a b : X) → limits a ≡ limits b → limits (or_keep o a b) ≡ limits b
kept_or limits None a b e = e
kept_or limits (Some f) a b e = refl

either : {X : Type 0} (limits : X → Limits) (c : Bool) (a b : X) (l : Limits) → limits a ≡ l → limits b ≡ l → limits (cond c a b) ≡ l
either limits true a b l e f = e
either limits false a b l e f = f

if_loaded : (o : Option ℕ) (f : ℕ → State) (s : State) → ((l : ℕ) → limits_of (f l) ≡ limits_of s) → limits_of (changed_if_loaded o f s) ≡ limits_of s
if_loaded None f s e = refl
if_loaded (Some l) f s e = e l

after : (kind : Kind) (s : State) (c : Change) (bs : List ℕ) → limits_of (changed kind s c bs) ≡ limits_of s
after kind s (loads l) bs = kept_or limits_of (load_fault kind s l) (loaded s l) s refl
after kind s (puts multi label key) bs =
    if_loaded s.size (λ l. put_next l s multi label key bs) s
    (λ l. either limits_of _ s (with_journal s (appended s.journal (section_of l label.number) label key bs)) (limits_of s) refl
    (kept_or (λ m. m.limits) (append_fault s.journal (section_of l label.number) key bs) (with_row s.journal (section_of l label.number) (new_row label key bs)) s.journal refl))
after kind s (prunes min) bs = if_loaded s.size (λ l. prune_next s (section_of l min)) s (λ l. either limits_of _ _ _ (limits_of s) refl refl)
after kind s asks bs = refl

next_limits : (kind : Kind) (s : State) (h : Handed) → limits_of (next kind s h) ≡ limits_of s
unfolding next
next_limits kind s h = after kind s (change_of h.call) h.bytes

pub same_limits : (kind : Kind) (s : State) (h : List Event) (t : State) → Follows kind s h t → t.journal.limits ≡ s.journal.limits
same_limits kind s [] t f = ap limits_of (sym f)
same_limits kind s (e ∷ es) t f = same_limits kind (next kind s e.asked) es t f.1 ∙ next_limits kind s e.asked
