-- Whether a stored value's check is its own, by the numbers. Assumes nothing.
use Rattle.std.proofs.Common.{◌≡◌, ℕ, ◌+◌, eqb, true, false, List, sym, ◌∙◌}
use Rattle.std.proofs.lemmas.Bool.{cond_both, eqb-true, eqb-false}
use Rattle.journal.specs.Bytes.{chunk}
use Rattle.journal.specs.Meaning.{sound, damaged, check_size}
use Rattle.format.specs.Numbers.{be}
use Rattle.format.specs.Layout.{value_check}
use Rattle.format.specs.Decode.{content_of}
use Rattle.pages.specs.Looks.{is_bytes}

pub bytes_where_checked : (xs : List ℕ) (a n : ℕ) → is_bytes (content_of xs a n) ≡ eqb (be (chunk xs (a + n) check_size)) (value_check (chunk xs a n))
unfolding content_of
bytes_where_checked xs a n =
    let b = eqb (be (chunk xs (a + n) check_size)) (value_check (chunk xs a n)) in
    cond_both b (sound (chunk xs a n)) (damaged n) (λ c. is_bytes c ≡ b) (λ h. sym h) (λ h. sym h)

pub checked_same : (xs : List ℕ) (a n : ℕ) → is_bytes (content_of xs a n) ≡ true → be (chunk xs (a + n) check_size) ≡ value_check (chunk xs a n)
checked_same xs a n h = eqb-true _ _ (sym (bytes_where_checked xs a n) ∙ h)

pub checked_apart : (xs : List ℕ) (a n : ℕ) → is_bytes (content_of xs a n) ≡ false → be (chunk xs (a + n) check_size) ≡ value_check (chunk xs a n) → ⊥
checked_apart xs a n h = eqb-false _ _ (sym (bytes_where_checked xs a n) ∙ h)
