-- Candidates named by handles, one after another. Assumes nothing.
use Rattle.std.proofs.Common.{◌≡◌, ℕ, ◌+◌, ◌*◌, ◌/◌, ◌%◌, ◌^◌, ◌<◌, ◌≤◌, List, length, IfSome, Some, None, Option, sym, refl, ap, ◌∙◌, subst, arith}
use Rattle.index_layout.specs.Views.{View, bucket_of, newest_in, older_in, view_at}
use Rattle.index_layout.specs.Held.{in_slot}
use Rattle.archive_layout.specs.Keys.{in_place, Handled, HandledAt, Steps}
use Rattle.archive_layout.proofs.Keys.{newest_steps, older_steps}

-- A handle in the slot i.
abbrev pub InSlot : ℕ → Option ℕ → Type 0
InSlot i o = IfSome o (λ x. (x / 2 ^ 40 ≡ i) × (x % 2 ^ 40 < 128))

placed_in : (i : ℕ) (o : Option ℕ) → InSlot i (in_slot i o) → in_place (in_slot i o) ≡ o
placed_in i None h = refl
placed_in i (Some p) h = let a = h.0 in let e : (i * 2 ^ 40 + p) % 2 ^ 40 ≡ p = omega arith in ap (λ q. Some q) e

pub position_is : (i : ℕ) (o r : Option ℕ) → r ≡ in_slot i o → InSlot i r → in_place r ≡ o
position_is i o r e h = ap in_place e ∙ placed_in i o (subst (InSlot i) e h)

pub record WalksOn (v : View) (i c h n : ℕ) (r : Option ℕ) : Type 0 where
  pub handled : Handled v i c h r
  pub steps : Steps v c h n (in_place r)

module _ (v : View) (i c h : ℕ) where
  walks_on : (n : ℕ) (r : Option ℕ) → n ≤ length v.codes → InSlot i r → Steps v c h n (in_place r) → WalksOn v i c h n r
  walks_on n None le at st = record { handled = tt; steps = st }
  walks_on n (Some x) le at st = record { handled = record { slot = at.0; inside = (let b = st.below in omega arith); coded = st.here (x % 2 ^ 40) refl }; steps = st }

  pub newest_at : (r : Option ℕ) → r ≡ in_slot i (newest_in v c (bucket_of h)) → InSlot i r → WalksOn v i c h (length v.codes) r
  newest_at r e at = walks_on (length v.codes) r (omega arith) at (newest_steps v c h (in_place r) (position_is i (newest_in v c (bucket_of h)) r e at))

  pub older_at : (vs : List View) (x : ℕ) (r : Option ℕ) → v ≡ view_at vs i → HandledAt v i c h x → r ≡ in_slot (x / 2 ^ 40) (older_in (view_at vs (x / 2 ^ 40)) c (bucket_of h) (x % 2 ^ 40)) → InSlot (x / 2 ^ 40) r
      → WalksOn v i c h (x % 2 ^ 40) r
  older_at vs x r is here e at =
      let s = here.slot in
      let w : view_at vs (x / 2 ^ 40) ≡ v = ap (view_at vs) s ∙ sym is in
      let e' : r ≡ in_slot i (older_in v c (bucket_of h) (x % 2 ^ 40)) = e ∙ ap (λ j. in_slot j (older_in (view_at vs (x / 2 ^ 40)) c (bucket_of h) (x % 2 ^ 40))) s ∙ ap (λ u. in_slot i (older_in u c (bucket_of h) (x % 2 ^ 40))) w in
      let at' : InSlot i r = subst (λ j. InSlot j r) s at in
      let le = here.inside in
      walks_on (x % 2 ^ 40) r (omega arith) at' (older_steps v c h (x % 2 ^ 40) (in_place r) here.inside here.coded (position_is i (older_in v c (bucket_of h) (x % 2 ^ 40)) r e' at'))
