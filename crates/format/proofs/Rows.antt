-- The fields of a row as it is written. Assumes nothing.
use Rattle.std.proofs.Common.{◌≡◌, ℕ, ◌+◌, ◌^◌, ◌<◌, List, ◌++◌, length, sym, refl, ap, ◌∙◌, arith, length-append}
use Rattle.std.proofs.lemmas.List.{append_assoc}
use Rattle.journal.specs.declared.row.Label.{Label}
use Rattle.format.specs.Numbers.{be, be_4, be_8}
use Rattle.format.specs.Layout.{key_at, front_size, offset_at, size_at, row_check_at, row_size, entry_check, sealed, label_front, row_front, row_bytes}
use Rattle.format.specs.Decode.{label_of, key_of, offset_of, size_of}
use Rattle.format.specs.Well.{Checked}
use Rattle.format.proofs.Numbers.{be_be_4, be_be_8, be_entry_check}
use Rattle.format.proofs.Bytes.{chunk_front, chunk_mid, length_sealed, chunk_sealed_front, chunk_sealed_check}

-- Label and key in front: what changes where a label has more fields.
label_of_front : (label : Label) (w : ℕ) (key rest : List ℕ) → length key ≡ w → label.number < 2 ^ 64 → label_of w (label_front label key ++ rest) ≡ label
unfolding label_of
label_of_front label w key rest e h =
    ap (λ (n : ℕ). record { number = n }) (ap be (chunk_front (be_8 label.number) (key ++ rest) _ (simp append_assoc) 8 refl) ∙ be_be_8 label.number h)

key_of_front : (label : Label) (w : ℕ) (key rest : List ℕ) → length key ≡ w → key_of w (label_front label key ++ rest) ≡ key
unfolding key_of
key_of_front label w key rest e = chunk_mid (be_8 label.number) key rest _ (simp append_assoc) key_at w refl (sym e)

pub length_front : (label : Label) (w : ℕ) (key : List ℕ) → length key ≡ w → length (label_front label key) ≡ front_size w
length_front label w key e = simp length-append (omega arith)

-- The rest.
group_3 : (a b c d : List ℕ) → ((a ++ b) ++ c) ++ d ≡ a ++ (b ++ (c ++ d))
group_3 a b c d = simp append_assoc

group_2 : (a b c d : List ℕ) → ((a ++ b) ++ c) ++ d ≡ (a ++ b) ++ (c ++ d)
group_2 a b c d = simp append_assoc

module _ (label : Label) (w : ℕ) (k : List ℕ) (o z : ℕ) (e : length k ≡ w) where
  abbrev tail : List ℕ
  tail = be_4 (entry_check (row_front label k o z))

  pub label_of_row : label.number < 2 ^ 64 → label_of w (row_bytes label k o z) ≡ label
  unfolding sealed
  label_of_row h = ap (label_of w) (group_3 (label_front label k) (be_8 o) (be_4 z) tail) ∙ label_of_front label w k (be_8 o ++ (be_4 z ++ tail)) e h

  pub key_of_row : key_of w (row_bytes label k o z) ≡ k
  unfolding sealed
  key_of_row = ap (key_of w) (group_3 (label_front label k) (be_8 o) (be_4 z) tail) ∙ key_of_front label w k (be_8 o ++ (be_4 z ++ tail)) e

  pub offset_of_row : o < 2 ^ 64 → offset_of w (row_bytes label k o z) ≡ o
  unfolding offset_of sealed
  offset_of_row h =
      ap be (chunk_mid (label_front label k) (be_8 o) (be_4 z ++ tail) _ (group_3 (label_front label k) (be_8 o) (be_4 z) tail) (offset_at w) 8 (sym (length_front label w k e)) refl) ∙ be_be_8 o h

  length_before : length (label_front label k ++ be_8 o) ≡ size_at w
  length_before = length-append (label_front label k) (be_8 o) ∙ ap (λ n. n + 8) (length_front label w k e)

  pub length_row_front : length (row_front label k o z) ≡ row_check_at w
  length_row_front = length-append (label_front label k ++ be_8 o) (be_4 z) ∙ ap (λ n. n + 4) length_before

  pub length_row : length (row_bytes label k o z) ≡ row_size w
  length_row = length_sealed (row_front label k o z) ∙ ap (λ n. n + 4) length_row_front

  pub size_of_row : z < 2 ^ 32 → size_of w (row_bytes label k o z) ≡ z
  unfolding size_of sealed
  size_of_row h =
      ap be (chunk_mid (label_front label k ++ be_8 o) (be_4 z) tail _ (group_2 (label_front label k) (be_8 o) (be_4 z) tail) (size_at w) 4 (sym length_before) refl) ∙ be_be_4 z h

  pub checked_row : Checked (row_bytes label k o z) (row_check_at w)
  checked_row =
      ap be (chunk_sealed_check (row_front label k o z) (row_check_at w) (sym length_row_front))
      ∙ (be_entry_check (row_front label k o z) ∙ sym (ap entry_check (chunk_sealed_front (row_front label k o z) (row_check_at w) (sym length_row_front))))
