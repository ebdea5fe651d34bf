-- What an archive's translator and kind of key stand for.
--   kind_of     the kind of key with the translator t, as the rules speak of it
--   coding_of   what the translator t makes of key bytes
use Rattle.std.specs.Prelude.{ℕ, List, Option}
use Rattle.rules.specs.State.{Kind}
use Rattle.archive_layout.specs.Fit.{Coding}

abbrev pub kind_of : {T : Type 0} → (T → List ℕ → ℕ) → ℕ → (List ℕ → Option ℕ) → T → Kind
kind_of translated width flaw t = record { width = width; flaw = flaw; translated = translated t }

abbrev pub coding_of : {T : Type 0} → (T → List ℕ → ℕ) → (T → ℕ → ℕ) → T → Coding
coding_of translated hashed t = record { translated = translated t; hashed = hashed t }
