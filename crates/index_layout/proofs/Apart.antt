-- What keeps the starts of the slots apart. Assumes nothing.
use Rattle.std.proofs.Common.{◌≡◌, ℕ, ◌<◌, Bool, true, false, cond, List, map, length, get_or, set, sym, refl, ap, ◌∙◌, inl, inr, arith, length-set, get_or-set_other, get_or-set_same}
use Rattle.std.proofs.lemmas.List.{length-map, get_or-map}
use Rattle.std.proofs.lemmas.Bool.{cases_eq, both_ways}
use Rattle.index_layout.specs.Views.{View, free_view, open_view, goes, kept_view, view_at, Holds, Apart}

-- One slot changed, to a view whose start no other slot holds.
pub apart_put : (vs : List View) (slot : ℕ) (v : View) → slot < length vs → Apart vs
    → ((k : ℕ) → k < length vs → v.used ≡ true → Holds vs k v.start → k ≡ slot)
    → Apart (set vs slot v)
apart_put vs slot v h apart alone t =
    let li : t.i < length vs = omega (arith, t.i_below, length-set vs slot v) in
    let lj : t.j < length vs = omega (arith, t.j_below, length-set vs slot v) in
    elim (cases_eq t.i slot) [
      | inl ei ↦ elim (cases_eq t.j slot) [
        | inl ej ↦ ei ∙ sym ej
        | inr nj ↦
            let s : get_or (set vs slot v) t.i free_view ≡ v = rw ei (get_or-set_same vs slot v free_view h) in
            let o = get_or-set_other vs slot t.j v free_view nj in
            let u : v.used ≡ true = sym (ap (λ w. w.used) s) ∙ t.at_i.0 in
            let a : (view_at vs t.j).used ≡ true = sym (ap (λ w. w.used) o) ∙ t.at_j.0 in
            let b : (view_at vs t.j).start ≡ v.start = sym (ap (λ w. w.start) o) ∙ (t.at_j.1 ∙ (sym t.at_i.1 ∙ ap (λ w. w.start) s)) in
            absurd (nj (alone t.j lj u (a, b)))
      ]
      | inr ni ↦
          let o = get_or-set_other vs slot t.i v free_view ni in
          let a : (view_at vs t.i).used ≡ true = sym (ap (λ w. w.used) o) ∙ t.at_i.0 in
          let b : (view_at vs t.i).start ≡ t.s = sym (ap (λ w. w.start) o) ∙ t.at_i.1 in
          elim (cases_eq t.j slot) [
            | inl ej ↦
                let s : get_or (set vs slot v) t.j free_view ≡ v = rw ej (get_or-set_same vs slot v free_view h) in
                let u : v.used ≡ true = sym (ap (λ w. w.used) s) ∙ t.at_j.0 in
                let e : v.start ≡ t.s = sym (ap (λ w. w.start) s) ∙ t.at_j.1 in
                absurd (ni (alone t.i li u (a, b ∙ sym e)))
            | inr nj ↦
                let p = get_or-set_other vs slot t.j v free_view nj in
                let y : (view_at vs t.j).used ≡ true = sym (ap (λ w. w.used) p) ∙ t.at_j.0 in
                let z : (view_at vs t.j).start ≡ t.s = sym (ap (λ w. w.start) p) ∙ t.at_j.1 in
                apart (record { i = t.i; j = t.j; s = t.s; i_below = li; j_below = lj; at_i = (a, b); at_j = (y, z) })
          ]
    ]

pub apart_freed : (vs : List View) (i : ℕ) → i < length vs → Apart vs → Apart (set vs i free_view)
apart_freed vs i l apart = apart_put vs i free_view l apart (λ k lk u h. absurd (both_ways false refl u))

pub apart_opened : (vs : List View) (i s : ℕ) → i < length vs → ((k : ℕ) → k < length vs → Holds vs k s → ⊥) → Apart vs → Apart (set vs i (open_view s))
apart_opened vs i s l none apart = apart_put vs i (open_view s) l apart (λ k lk u h. absurd (none k lk h))

-- A slot that keeps its start and whether it is used.
pub apart_same : (vs : List View) (i : ℕ) (v : View) → i < length vs → v.used ≡ (view_at vs i).used → v.start ≡ (view_at vs i).start → Apart vs → Apart (set vs i v)
apart_same vs i v l eu es apart =
    apart_put vs i v l apart
    (λ k lk u h. apart (record { i = k; j = i; s = v.start; i_below = lk; j_below = l; at_i = h; at_j = (sym eu ∙ u, sym es) }))

-- What a strike leaves.
pub apart_kept : (vs : List View) (min : ℕ) → Apart vs → Apart (map (kept_view min) vs)
apart_kept vs min apart t =
    let n = length-map vs (kept_view min) in
    let li : t.i < length vs = omega (arith, t.i_below) in
    let lj : t.j < length vs = omega (arith, t.j_below) in
    apart (record { i = t.i; j = t.j; s = t.s; i_below = li; j_below = lj; at_i = was t.i t.s li t.at_i; at_j = was t.j t.s lj t.at_j })
  where
    held : (v : View) (s : ℕ) (b : Bool) → goes min v ≡ b → ((cond b free_view v).used ≡ true) × ((cond b free_view v).start ≡ s) → (v.used ≡ true) × (v.start ≡ s)
    held v s true e h = absurd (both_ways false refl h.0)
    held v s false e h = h

    was : (k s : ℕ) → k < length vs → Holds (map (kept_view min) vs) k s → Holds vs k s
    was k s l h =
        let e = get_or-map (kept_view min) vs k free_view free_view l in
        held (view_at vs k) s (goes min (view_at vs k)) refl (ap (λ v. v.used) (sym e) ∙ h.0, ap (λ v. v.start) (sym e) ∙ h.1)
