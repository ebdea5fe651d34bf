-- One record more at a start: in the slot that holds it, in one taken for it, or nowhere. Assumes nothing.
--   noted_held     a slot holds the start
--   noted_opened   a free slot was taken for it
--   noted_shut     none was free
use Rattle.std.proofs.Common.{◌≡◌, ℕ, ◌<◌, Bool, true, false, cond, ◌&&◌, ◌||◌, eqb, ltb, ◌⊎◌, List, length, set, sym, refl, ap, ◌∙◌, inl, inr, arith, length-set, get_or-set_same}
use Rattle.std.proofs.lemmas.List.{set-set}
use Rattle.std.proofs.lemmas.Bool.{cond-true, cond-false, cases_eq, eq-eqb, ne_eqb, and_from, and_left, and_right, or_left, or_right, or_from, both_ways, lt-ltb, le-ltb}
use Rattle.index_layout.specs.Views.{View, free_view, open_view, grown, takes, view_at, Apart, slot_count}
use Rattle.index_layout.specs.Held.{holds, found, total, one, begun, has_room, Noted, Seated, Opened, Shut, Crowded}
use Rattle.index_layout.proofs.Held.{found_at, found_set_other, total_all, total_free}
use Rattle.index_layout.proofs.Slots.{Home}

-- What is told of a record offered.
pub record Wrote (vs ws : List View) (s o c b : ℕ) (r : Bool) : Type 0 where
  pub result : r ≡ has_room vs s o
  pub starts : r ≡ true → Noted vs ws s o c b
  pub slots : r ≡ true → Seated vs ws s o c b
  pub kept : r ≡ false → ws ≡ vs

noted_at : (vs ws : List View) (i s o c b : ℕ) (base : View) → i < length vs → base.used ≡ true → base.start ≡ s
    → ws ≡ set vs i (grown base o c b) → Apart ws → ((t : ℕ) → (s ≡ t → ⊥) → holds t (view_at vs i) ≡ false) → begun s (found vs s) ≡ base
    → Noted vs ws s o c b
noted_at vs ws i s o c b base l u e ew apart other begins t = by (cases_eq s t)
  where
    same : view_at ws i ≡ grown base o c b
    same = ap (λ us. view_at us i) ew ∙ get_or-set_same vs i (grown base o c b) free_view l

    by : (s ≡ t) ⊎ (s ≡ t → ⊥) → found ws t ≡ cond (eqb s t) (grown (begun s (found vs s)) o c b) (found vs t)
    by (inl q) =
        let n : i < length ws = omega (arith, ap length ew, length-set vs i (grown base o c b)) in
        found_at ws i t n (ap (λ v. v.used) same ∙ u, ap (λ v. v.start) same ∙ (e ∙ q)) apart
        ∙ same ∙ ap (λ v. grown v o c b) (sym begins) ∙ sym (cond-true _ _ _ (eq-eqb s t q))
    by (inr q) =
        let z : holds t base ≡ false = and_right _ _ (ne_eqb _ _ (λ p. q (sym e ∙ p))) in
        ap (λ us. found us t) ew ∙ found_set_other vs i (grown base o c b) t z (other t q) ∙ sym (cond-false _ _ _ (ne_eqb s t q))

and_yes : (x : Bool) → (x && true) ≡ x
and_yes true = refl
and_yes false = refl

pub noted_held : (vs ws : List View) (i s o c b : ℕ) (r : Bool) → length vs ≡ slot_count → Home vs s i → Apart ws
    → r ≡ ((view_at vs i).used && takes (view_at vs i) o) → ws ≡ cond r (set vs i (grown (view_at vs i) o c b)) vs
    → Wrote vs ws s o c b r
noted_held vs ws i s o c b r n home apart er ew =
    record {
      result = er ∙ ap (λ q. q && takes (view_at vs i) o) home.here.0 ∙ sym room;
      starts = λ y. noted_at vs ws i s o c b (view_at vs i) home.below home.here.0 home.here.1 (ew ∙ cond-true _ _ _ y) apart
          (λ t q. and_right _ _ (ne_eqb _ _ (λ p. q (sym home.here.1 ∙ p)))) begins;
      slots = λ y. record {
        slot = i;
        below = omega (arith, home.below);
        home = inl home.here;
        after = ew ∙ cond-true _ _ _ y ∙ ap (λ v. set vs i (grown v o c b)) (sym (cond-true _ (view_at vs i) (open_view s) home.here.0));
      };
      kept = λ y. ew ∙ cond-false _ _ _ y;
    }
  where
    begins : begun s (found vs s) ≡ view_at vs i
    begins = ap (begun s) home.is ∙ cond-true _ _ _ home.here.0

    room : has_room vs s o ≡ takes (view_at vs i) o
    room =
        ap (λ v. takes v o && ((found vs s).used || ltb (total one vs) slot_count)) begins
        ∙ ap (λ q. takes (view_at vs i) o && q) (or_left _ _ (ap (λ v. v.used) home.is ∙ home.here.0))
        ∙ and_yes (takes (view_at vs i) o)

pub noted_opened : (vs ws us : List View) (i s o c b : ℕ) (r : Bool) → length vs ≡ slot_count → found vs s ≡ free_view → Opened vs ws s i → o < 64 → Apart us
    → r ≡ ((view_at ws i).used && takes (view_at ws i) o) → us ≡ cond r (set ws i (grown (view_at ws i) o c b)) ws
    → Wrote vs us s o c b r
noted_opened vs ws us i s o c b r n none opened near apart er eu =
    record {
      result = yes ∙ sym room;
      starts = λ _. noted_at vs us i s o c b (open_view s) li refl refl after apart (λ t q. and_left _ _ opened.free) begins;
      slots = λ _. record {
        slot = i;
        below = opened.slot;
        home = inr (opened.free, opened.absent);
        after = after ∙ ap (λ v. set vs i (grown v o c b)) (sym (cond-false _ (view_at vs i) (open_view s) opened.free));
      };
      kept = λ no. absurd (both_ways _ no yes);
    }
  where
    li : i < length vs
    li = omega (arith, opened.slot)

    at : view_at ws i ≡ open_view s
    at = ap (λ vs'. view_at vs' i) opened.after ∙ get_or-set_same vs i (open_view s) free_view li

    fits : takes (open_view s) o ≡ true
    fits = and_from (ltb o 64) (ltb 0 128) (lt-ltb o 64 near) (lt-ltb 0 128 (omega arith))

    yes : r ≡ true
    yes = er ∙ ap (λ v. v.used && takes v o) at ∙ fits

    after : us ≡ set vs i (grown (open_view s) o c b)
    after =
        eu ∙ cond-true _ _ _ yes ∙ ap (λ v. set ws i (grown v o c b)) at ∙ ap (λ vs'. set vs' i (grown (open_view s) o c b)) opened.after
        ∙ set-set vs i (open_view s) (grown (open_view s) o c b)

    begins : begun s (found vs s) ≡ open_view s
    begins = ap (begun s) none

    room : has_room vs s o ≡ true
    room =
        and_from _ _ (ap (λ v. takes v o) begins ∙ fits)
        (or_right _ _ (lt-ltb (total one vs) slot_count (omega (arith, total_free vs i li opened.free))))

pub noted_shut : (vs : List View) (s o : ℕ) → length vs ≡ slot_count → found vs s ≡ free_view → Shut vs s → false ≡ has_room vs s o
noted_shut vs s o n none shut = sym (by shut)
  where
    by : ((found vs s).used ≡ true) ⊎ Crowded vs s → has_room vs s o ≡ false
    by (inl u) = absurd (both_ways _ (ap (λ v. v.used) none) u)
    by (inr crowded) =
        and_right _ _ (or_from _ _ (ap (λ v. v.used) none)
        (le-ltb (total one vs) slot_count (omega (arith, total_all vs (λ k l. crowded.full k (omega arith))))))
