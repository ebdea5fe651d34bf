-- A slot when it grows. Assumes nothing.
--   same_view    views with the same lists are the same
use Rattle.std.proofs.Common.{◌≡◌, ℕ, Bool, List}
use Rattle.index_layout.specs.Views.{View}

pub same_view : (u : Bool) (s : ℕ) (o o' c c' b b' : List ℕ) → o ≡ o' → c ≡ c' → b ≡ b'
    → ◌≡◌ {A = View} (record { used = u; start = s; offsets = o; codes = c; buckets = b }) (record { used = u; start = s; offsets = o'; codes = c'; buckets = b' })
same_view u s o o' c c' b b' eo ec eb = rw (eo, ec, eb)
