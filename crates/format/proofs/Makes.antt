-- The making, and mounting again what byte pages leave. Assumes nothing.
use Rattle.std.proofs.Common.{◌≡◌, ℕ, ◌*◌, ◌^◌, ◌<◌, true, List, length, get_or, Some, None, Option, sym, refl, ap, ◌∙◌, subst, ⊎_elim, arith}
use Rattle.journal.specs.declared.limits.Limits.{Limits}
use Rattle.journal.specs.declared.fault.JournalFault.{JournalFault}
use Rattle.journal.specs.declared.fault.JournalFault.TheVariants.{WrongSizes}
use Rattle.journal.specs.Calls.{or_keep}
use Rattle.journal.specs.Making.{nothing, made}
use Rattle.format.specs.Numbers.{be}
use Rattle.format.specs.Layout.{page_size}
use Rattle.format.specs.Decode.{page, start_of}
use Rattle.format.specs.Mount.{mount_fault}
use Rattle.format.specs.State.{View, meaning_of, offered, decoded, granted, mounted, Lasts, is_sound}
use Rattle.format.specs.Well.{Laid}
use Rattle.format.proofs.Numbers.{be_chunk_below}
use Rattle.format.proofs.Bytes.{chunk_inside}
use Rattle.format.proofs.Slots.{page_ends}
use Rattle.format.proofs.Mounting.{Ranged, Naught, sound_ranged, sound_well, well_sound, naught_sound, accepted_is, is_accepted, well_sure, sure_well, laid_is, fault_of_sizes, wrong_lengths}

-- Starts are read from bytes.
start_below : (l : Limits) (es : List ℕ) → Laid l es → ((i : ℕ) → get_or es i 0 < 256) → (s : ℕ) → s < l.slots → start_of (page l es s) < 2 ^ 64
unfolding start_of
start_below l es z b s h =
    subst (λ (x : List ℕ). be x < 2 ^ 64) (chunk_inside es (s * page_size l.rows l.width) (page_size l.rows l.width) 0 8 (s * page_size l.rows l.width) (omega arith) (omega arith))
    (be_chunk_below 8 (s * page_size l.rows l.width) es (omega (arith, page_ends l es z s h)) b)

accepted_sound : (l : Limits) (es vs : List ℕ) → ((i : ℕ) → get_or es i 0 < 256) → mount_fault l es vs ≡ None → is_sound (offered l es vs) ≡ true
accepted_sound l es vs b e =
    let a = accepted_is l es vs e in
    let z = laid_is l es (length vs) a.0 in
    well_sound (offered l es vs) (sure_well (offered l es vs) z (omega (arith, a.0.values)) a.1 (λ s h c. (omega arith, start_below l es z b s h))) a.0

pub made_sound : (l : Limits) (es vs : List ℕ) → ((i : ℕ) → get_or es i 0 < 256) → is_sound (mounted l es vs) ≡ true
unfolding mounted
made_sound l es vs b = by (mount_fault l es vs) refl
  where
    by : (o : Option JournalFault) → mount_fault l es vs ≡ o → is_sound (offered (or_keep o l nothing) es vs) ≡ true
    by None e = accepted_sound l es vs b e
    by (Some f) e = naught_sound (offered nothing es vs) (record { slots = refl; rows = refl; bytes = refl; width = refl })

-- The same of what stands under limits g, where these are the limits granted.
pub granted_is : (l g : Limits) (es vs : List ℕ) → g ≡ granted l es vs → offered g es vs ≡ mounted l es vs
unfolding mounted
granted_is l g es vs e = ap (λ (x : Limits). offered x es vs) e

pub granted_sound : (l g : Limits) (es vs : List ℕ) → g ≡ granted l es vs → ((i : ℕ) → get_or es i 0 < 256) → is_sound (offered g es vs) ≡ true
granted_sound l g es vs e b = subst (λ (v : View). is_sound v ≡ true) (sym (granted_is l g es vs e)) (made_sound l es vs b)

pub made_meaning : (l : Limits) (es vs : List ℕ) → meaning_of (mounted l es vs) ≡ made (mount_fault l es vs) (decoded l es vs)
unfolding mounted
made_meaning l es vs = by (mount_fault l es vs)
  where
    by : (o : Option JournalFault) → meaning_of (offered (or_keep o l nothing) es vs) ≡ made o (decoded l es vs)
    by None = refl
    by (Some f) = refl

unsized : (l : Limits) (es vs : List ℕ) → (Ranged l (length es) (length vs) → ⊥) → mount_fault l es vs ≡ Some WrongSizes
unsized l es vs n =
    fault_of_sizes l es vs (wrong_lengths l (length es) (length vs) n)

limits_path : (l : Limits) → Naught l → nothing ≡ l
limits_path l n = sym (by l.slots l.rows l.bytes l.width n.slots n.rows n.bytes n.width)
  where
    by : (a b c d : ℕ) → a ≡ 0 → b ≡ 0 → c ≡ 0 → d ≡ 0 → ◌≡◌ {A = Limits} (record { slots = a; rows = b; bytes = c; width = d }) nothing
    by a b c d ea eb ec ed = rw (ea, eb, ec, ed)

-- Whatever was appended and pruned: the same bytes are accepted again, and nothing but the floor changes.
pub lasts : (v : View) → is_sound v ≡ true → Lasts v
unfolding mounted
lasts v h =
    ap (λ (l : Limits). offered l v.entries v.values)
    (⊎_elim
    (λ n. ap (λ (o : Option JournalFault). or_keep o v.limits nothing) (unsized v.limits v.entries v.values (λ r. omega (arith, r.slots_some, n.slots))) ∙ limits_path v.limits n)
    (λ r. ap (λ (o : Option JournalFault). or_keep o v.limits nothing) (is_accepted v.limits v.entries v.values r (well_sure v (sound_well v h))))
    (sound_ranged v h))
