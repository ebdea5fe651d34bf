-- A load as a whole, by the rules. Assumes nothing.
use Rattle.std.proofs.Common.{◌≡◌, ℕ, List, length, None, Ok, Err, Result, sym, refl, ◌∙◌}
use Rattle.journal.specs.Calls.{or_fault}
use Rattle.rules.specs.declared.fault.ArchiveFault.{ArchiveFault}
use Rattle.rules.specs.State.{Kind, State, records_of}
use Rattle.rules.specs.Calls.{load_check, row_fault, loaded}
use Rattle.index_layout.specs.Views.{View, free_view}
use Rattle.index_layout.specs.Held.{found}
use Rattle.archive_layout.specs.Fit.{Coding, Fit}
use Rattle.archive_layout.specs.Loads.{IndexReady, IndexesAll}
use Rattle.archive_layout.proofs.Fits.{ok_none, err_some}
use Rattle.archive_layout.proofs.Loads.{all_homed}
use Rattle.archive_layout.proofs.Prunes.{LoadIs, Passes, passes, load_refused, load_accepted}

module _ (kind : Kind) (k : Coding) (s : State) (l : ℕ) (fresh : s.size ≡ None) where
  module _ (r : Result Unit ArchiveFault) (is : r ≡ or_fault (load_check l s.journal.limits kind.width) tt) (e : r ≡ Ok tt) where
    pub pass : Passes kind s l fresh
    pass = passes kind s l fresh (ok_none (load_check l s.journal.limits kind.width) tt tt (sym is ∙ e)).0

    module _ (vs vs' : List View) (empty : (t : ℕ) → found vs t ≡ free_view) where
      pub ready : IndexReady s.journal vs l kind.width
      ready = record { some = pass.some; few = pass.few; wide = pass.wide; limits = pass.limits; empty = empty }

      module _ (t : Result ℕ ArchiveFault) (all : IndexesAll kind k l s.journal.sections vs' t) where
        pub indexed_fit : (n : ℕ) → t ≡ Ok n → Fit k kind.width l s.journal vs'
        indexed_fit n at =
            let none = (ok_none (row_fault kind l (records_of s.journal.sections)) (length (records_of s.journal.sections)) n (sym all.answer ∙ at)).0 in
            record { some = pass.some; few = pass.few; limits = pass.limits; wide = pass.wide; homed = all_homed kind l s.journal.sections none; held = all.agree none }

        pub indexed : (n : ℕ) → t ≡ Ok n → LoadIs kind s (loaded s l) l t
        indexed n at =
            let w = ok_none (row_fault kind l (records_of s.journal.sections)) (length (records_of s.journal.sections)) n (sym all.answer ∙ at) in
            let is = load_accepted kind s l (loaded s l) n (pass.rows ∙ w.0) (sym w.1) refl in
            record { answer = at ∙ is.answer; after = is.after }

        pub not_indexed : (f : ArchiveFault) → t ≡ Err f → LoadIs kind s s l t
        not_indexed f at =
            let is = load_refused kind s l f (pass.rows ∙ err_some (row_fault kind l (records_of s.journal.sections)) (length (records_of s.journal.sections)) f (sym all.answer ∙ at)) in
            record { answer = at ∙ is.answer; after = is.after }
