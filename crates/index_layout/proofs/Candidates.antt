-- Whoever asks a slot for the newest candidate, and then for the next older one until there is none, comes by every record with
-- the translated key in the bucket, by each once, and by no other. Assumes nothing.
--   walked            from any position on
--   all_candidates    from the newest one on; as many answers do as there are records
use Rattle.std.proofs.Common.{◌≡◌, ℕ, zero, suc, ◌<◌, ◌≤◌, true, eqb, ◌∷◌, length, get_or, None, sym, refl, ap, ◌∙◌, inl, inr, arith}
use Rattle.std.proofs.lemmas.Bool.{cases_Bool, cond-true, cond-false, and_parts, and_from, lt-ltb}
use Rattle.index_layout.specs.Links.{linked, matching}
use Rattle.index_layout.specs.Views.{View, newest_in, older_in}
use Rattle.index_layout.specs.Candidates.{is_bearer, bearers, walk}

module _ (v : View) (c b : ℕ) where
  -- The next older one after a bearer.
  next_older : (n : ℕ) → n < length v.codes → is_bearer v c b n ≡ true → older_in v c b n ≡ linked (matching v.buckets v.codes b c n)
  next_older n l t = cond-true _ (linked (matching v.buckets v.codes b c n)) None (and_from _ _ (lt-ltb n (length v.codes) l) (and_parts (eqb (get_or v.buckets n 0) b) (eqb (get_or v.codes n 0) c) t).0)

  pub walked : (n k : ℕ) → n ≤ length v.codes → n ≤ k → walk v c b k (linked (matching v.buckets v.codes b c n)) ≡ bearers v c b n
  walked zero zero l m = refl
  walked zero (suc k) l m = refl
  walked (suc n) zero l m = absurd (omega arith)
  walked (suc n) (suc k) l m =
      elim (cases_Bool (is_bearer v c b n)) [
        | inl t ↦
            ap (λ i. walk v c b (suc k) (linked i)) (cond-true _ (suc n) (matching v.buckets v.codes b c n) t)
            ∙ ap (λ ps. n ∷ ps) (ap (walk v c b k) (next_older n (omega arith) t) ∙ walked n k (omega arith) (omega arith))
            ∙ sym (cond-true _ (n ∷ bearers v c b n) (bearers v c b n) t)
        | inr f ↦
            ap (λ i. walk v c b (suc k) (linked i)) (cond-false _ (suc n) (matching v.buckets v.codes b c n) f)
            ∙ walked n (suc k) (omega arith) (omega arith)
            ∙ sym (cond-false _ (n ∷ bearers v c b n) (bearers v c b n) f)
      ]

  pub all_candidates : walk v c b (length v.codes) (newest_in v c b) ≡ bearers v c b (length v.codes)
  all_candidates = walked (length v.codes) (length v.codes) (omega arith) (omega arith)
