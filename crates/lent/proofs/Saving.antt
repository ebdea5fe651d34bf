-- What is saved of pages that a run left. Assumes nothing.
use Rattle.std.proofs.Common.{◌≡◌, ℕ, ◌*◌, true, cond, ◌&&◌, List, length, Some, None, sym, refl, ap, ap₂, ◌∙◌, subst, ⊎_elim, arith}
use Rattle.std.proofs.lemmas.Bool.{eq-eqb}
use Rattle.journal.specs.declared.limits.Limits.{Limits}
use Rattle.journal.specs.declared.fault.JournalFault.TheVariants.{WrongSizes}
use Rattle.journal.specs.Meaning.{Meaning}
use Rattle.format.specs.Layout.{page_size}
use Rattle.format.specs.Mount.{mount_fault}
use Rattle.format.specs.State.{View, meaning_of, decoded, is_sound}
use Rattle.format.proofs.Mounting.{Ranged, sound_ranged, sound_well, accepted_is, is_accepted, well_sure}
use Rattle.rules.specs.State.{Kind, new}
use Rattle.lent.specs.Seen.{Seen}
use Rattle.lent.specs.Runs.{ServesTo, Keeps, Bytes, save_fault}
use Rattle.lent.proofs.Limits.{same_limits}

-- Pages v, whose limits are l, and which are as the check lets pages be.
pub record Left (l : Limits) (v : View) : Type 0 where
  pub limits : v.limits ≡ l
  pub ranged : Ranged v.limits (length v.entries) (length v.values)
  pub sound : is_sound v ≡ true

module _ (l : Limits) (es vs : List ℕ) (accepted : mount_fault l es vs ≡ None) (v : View) (sound : is_sound v ≡ true) where
  left : v.limits ≡ l → Left l v
  left e =
      ⊎_elim
      (λ n. let z : ⊥ = omega (arith, n.slots, ap (λ x. x.slots) e, (accepted_is l es vs accepted).0.slots_some) in absurd z)
      (λ r. record { limits = e; ranged = r; sound = sound })
      (sound_ranged v sound)

  pub left_by : (kind : Kind) (us ws : List Seen) → ServesTo kind (decoded l es vs) us ws (meaning_of v) → Left l v
  left_by kind us ws s = left (ap (λ m. m.limits) s.2 ∙ same_limits kind (new (decoded l es vs)) _ s.0 s.1.law.by_the_rules)

  pub entries_long : Left l v → length es ≡ length v.entries
  entries_long k = let r = (accepted_is l es vs accepted).0 in r.entries ∙ ap (λ x. x.slots * page_size x.rows x.width) (sym k.limits) ∙ sym k.ranged.entries

  pub values_long : Left l v → length vs ≡ length v.values
  values_long k = let r = (accepted_is l es vs accepted).0 in r.values ∙ ap (λ x. x.slots * x.bytes) (sym k.limits) ∙ sym k.ranged.values

pub keeps : (l : Limits) (v : View) (es vs : List ℕ) (m : Meaning) → Left l v → es ≡ v.entries → vs ≡ v.values → meaning_of v ≡ m → Keeps l es vs m
keeps l v es vs m k e f g =
    subst (λ x. Keeps x es vs m) k.limits
    (subst (λ x. Keeps v.limits x vs m) (sym e)
    (subst (λ x. Keeps v.limits v.entries x m) (sym f)
    (subst (λ x. Keeps v.limits v.entries v.values x) g
    (is_accepted v.limits v.entries v.values k.ranged (well_sure v (sound_well v k.sound)), refl))))

pub no_save_fault : (l : Limits) (b c : Bytes) → length c.entries ≡ length b.entries → length c.values ≡ length b.values → mount_fault l b.entries b.values ≡ None → save_fault l b c ≡ None
no_save_fault l b c e f n = ap (λ t. cond t (mount_fault l b.entries b.values) (Some WrongSizes)) (ap₂ (λ x y. x && y) (eq-eqb _ _ e) (eq-eqb _ _ f)) ∙ n
