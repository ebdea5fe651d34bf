use Rattle.std.proofs.Common.{◌≡◌, ◌<◌, ◌≤◌, ℕ, map, length}
use Rattle.index_layout.specs.Views.{view_at, kept_view}
use Rattle.index_layout.specs.Held.{numbers, records, under}
use Rattle.index_layout.proofs.Held.{Summed}
use Rattle.index.specs.Viewed.{slot_view}
use Rattle.index.specs.Slots.{views}
use Rattle.index.proofs.index.Index.strike.Given as goal

-- The slots below the index are struck, the others as they were.
abbrev pub invariant-loop-slot : goal.invariant-loop-slot
invariant-loop-slot l =
    record {
      long : length l.slot-items ≡ 16;
      done : (k : ℕ) → k < l.slot-index → view_at (map slot_view l.slot-items) k ≡ kept_view l.min (view_at (views l.fn.self) k);
      left : (k : ℕ) → l.slot-index ≤ k → view_at (map slot_view l.slot-items) k ≡ view_at (views l.fn.self) k;
      numbers : Summed (under l.min numbers) (views l.fn.self) l.slot-index l.struck.numbers;
      records : Summed (under l.min records) (views l.fn.self) l.slot-index l.struck.records;
    }
