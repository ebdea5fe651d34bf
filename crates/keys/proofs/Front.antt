-- The first bytes of a key with zeros behind them, and their number in 64 bits.
use Rattle.std.proofs.Common.{◌≡◌, ℕ, zero, suc, ◌+◌, ◌-◌, ◌*◌, ◌^◌, ◌<◌, ◌≤◌, min, List, [], ◌∷◌, ◌++◌, length, get_or, take, drop, replicate, fold, refl, sym, ap, ◌∙◌, arith, pow_mono, pow-add}
use Rattle.std.proofs.Math.Seq.{take-append-add}
use Rattle.std.proofs.lemmas.List.{length-take-le}
use Rattle.std.proofs.lemmas.List.Sums.{fold-append}
use Rattle.keys.specs.Translators.{behind, leading}

-- Each byte more is added behind without a loss, as long as there are no more than eight.
pub behind_kept : (xs : List ℕ) (a n : ℕ) → a < 2 ^ (8 * n) → n + length xs ≤ 8 → ((i : ℕ) → get_or xs i 0 < 256) → fold behind a xs ≡ fold (λ x y. x * 256 + y) a xs
behind_kept [] a n h l b = refl
behind_kept (x ∷ xs) a n h l b =
    let m : 2 ^ (8 * n) ≤ 2 ^ 56 = pow_mono {i = 8 * n} {j = 56} (omega arith) in
    let k : x < 256 = b 0 in
    let e : behind a x ≡ a * 256 + x = omega (arith, m, k) in
    let p : 2 ^ (8 * (n + 1)) ≡ 2 ^ (8 * n) * 256 = ap (λ (i : ℕ). 2 ^ i) (omega arith) ∙ pow-add 2 (8 * n) 8 in
    ap (λ (i : ℕ). fold behind i xs) e ∙ behind_kept xs (a * 256 + x) (n + 1) (omega (arith, p, k)) (omega (arith, l)) (λ i. b (suc i))

zeros : (n m k : ℕ) → n ≤ m → n ≤ k → take {A = ℕ} n (replicate m 0) ≡ take n (replicate k 0)
zeros zero m k h l = refl
zeros (suc n) zero k h l = absurd (omega arith)
zeros (suc n) (suc m) zero h l = absurd (omega arith)
zeros (suc n) (suc m) (suc k) h l = ap (λ (xs : List ℕ). 0 ∷ xs) (zeros n m k (omega arith) (omega arith))

-- A key's first bytes laid over zeros are the key's with zeros behind.
pub laid_over : (key : List ℕ) (n m k g : ℕ) → n ≤ m → n ≤ k → g ≡ min (length key) n → take n (take g key ++ drop g (replicate m 0)) ≡ take n (key ++ replicate k 0)
laid_over key zero m k g h l e = refl
laid_over [] (suc n) m k zero h l e = zeros (suc n) m k h l
laid_over [] (suc n) m k (suc g) h l e = absurd (omega arith)
laid_over (x ∷ key) (suc n) zero k g h l e = absurd (omega arith)
laid_over (x ∷ key) (suc n) (suc m) k zero h l e = absurd (omega arith)
laid_over (x ∷ key) (suc n) (suc m) k (suc g) h l e = ap (λ (xs : List ℕ). x ∷ xs) (laid_over key n m k g (omega arith) (omega arith) (omega arith))

front_bytes : (key : List ℕ) (n k : ℕ) → ((i : ℕ) → get_or key i 0 < 256) → (i : ℕ) → get_or (take n (key ++ replicate k 0)) i 0 < 256
front_bytes key zero k b i = omega arith
front_bytes [] (suc n) zero b i = omega arith
front_bytes [] (suc n) (suc k) b zero = omega arith
front_bytes [] (suc n) (suc k) b (suc i) = front_bytes [] n k b i
front_bytes (x ∷ key) (suc n) k b zero = b 0
front_bytes (x ∷ key) (suc n) k b (suc i) = front_bytes key n k (λ j. b (suc j)) i

front_few : (xs : List ℕ) (n : ℕ) → length (take n xs) ≤ n
front_few xs zero = omega arith
front_few [] (suc n) = omega arith
front_few (x ∷ xs) (suc n) = let l = front_few xs n in omega (arith, l)

-- The number of the bytes so laid is that of the first bytes of the key.
pub front_number : (key : List ℕ) (n g : ℕ) → n ≤ 8 → g ≡ min (length key) n → ((i : ℕ) → get_or key i 0 < 256) → fold behind 0 (take n (take g key ++ drop g (replicate 8 0))) ≡ leading n key
front_number key n g h e b =
    ap (fold behind 0) (laid_over key n 8 n g h (omega arith) e)
    ∙ behind_kept (take n (key ++ replicate n 0)) 0 0 (omega arith) (let l = front_few (key ++ replicate n 0) n in omega (arith, l)) (front_bytes key n n b)

front_parts : (key zs : List ℕ) (n g : ℕ) → g ≡ min (length key) n → take n (take g key ++ zs) ≡ take g key ++ take (n - g) zs
front_parts key zs n g e =
    let l : length (take g key) ≡ g = length-take-le g key (omega (arith, e)) in
    let s : n ≡ length (take g key) + (n - g) = omega (arith, l, e) in
    ap (λ (m : ℕ). take m (take g key ++ zs)) s ∙ take-append-add (take g key) zs (n - g)

-- First the bytes that there are, and then the zeros.
pub front_folds : (key : List ℕ) (n g a b : ℕ) → n ≤ 8 → g ≡ min (length key) n → ((i : ℕ) → get_or key i 0 < 256)
    → a ≡ fold behind 0 (take g key) → b ≡ fold behind a (take (n - g) (drop g (replicate 8 0))) → b ≡ leading n key
front_folds key n g a b h e bytes ea eb =
    let zs : List ℕ = take (n - g) (drop g (replicate 8 0)) in
    eb ∙ ap (λ (x : ℕ). fold behind x zs) ea ∙ sym (fold-append behind 0 (take g key) zs)
    ∙ ap (fold behind 0) (sym (front_parts key (drop g (replicate 8 0)) n g e)) ∙ front_number key n g h e bytes
