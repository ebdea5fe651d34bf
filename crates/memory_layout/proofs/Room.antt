-- Where the parts of a slot lie. Assumes nothing.
use Rattle.std.proofs.Common.{ℕ, ◌+◌, ◌*◌, ◌<◌, ◌≤◌, length, mul-le-mul_right, arith}
use Rattle.journal.specs.Meaning.{cost_of}
use Rattle.journal.proofs.Bytes.{step_le}
use Rattle.memory_layout.specs.View.{View, Well, head, kept_row, next_at}

-- Room for one row more in the slot t.
module _ (v : View) (well : Well v) (t n : ℕ) (ht : t < v.slots) (hc : (head v t).count < v.rows) (hk : (head v t).cost + cost_of n ≤ v.limit) where
  pub next_ends : next_at v t + v.width + cost_of n ≤ t * v.area + v.area
  next_ends = omega (arith, step_le (head v t).count v.rows v.width hc, well.area_is)

  pub next_fits : next_at v t + v.width + cost_of n ≤ length v.bytes
  next_fits = omega (arith, next_ends, step_le t v.slots v.area ht, well.bytes_len)

  pub row_fits : t * v.rows + (head v t).count < length v.records
  row_fits = omega (arith, step_le t v.slots v.rows ht, well.records_len)

-- A kept row ends inside its slot's part.
module _ (v : View) (well : Well v) (s r : ℕ) (hs : s < v.slots) (hr : r < (head v s).count) where
  pub row_ends : (kept_row v s r).at + v.width + (kept_row v s r).length ≤ s * v.area + v.area
  row_ends =
      let m : (head v s).count * v.width ≤ v.rows * v.width = mul-le-mul_right v.width (well.counts s hs) in
      omega (arith, m, well.area_is, well.ends s r (hs, hr), well.bounded s hs)

  pub row_within : (kept_row v s r).at + v.width + (kept_row v s r).length ≤ length v.bytes
  row_within = omega (arith, row_ends, step_le s v.slots v.area hs, well.bytes_len)

  pub record_within : s * v.rows + r < length v.records
  record_within = omega (arith, step_le s v.slots v.rows hs, well.records_len, well.counts s hs)
