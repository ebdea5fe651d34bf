-- Searches along the chain of a bucket. Assumes nothing.
--   newest_from, older_from   where one begins
--   Walked, walked_here, walked_on   how far one has come, what it finds there, and one step on
use Rattle.std.proofs.Common.{◌≡◌, ℕ, suc, true, ◌<◌, ◌≤◌, cond, ◌&&◌, eqb, ltb, length, get_or, Some, None, Option, sym, ap, ◌∙◌, arith}
use Rattle.std.proofs.lemmas.List.{length-map, get_or-map}
use Rattle.std.proofs.lemmas.Bool.{eq-eqb, lt-ltb, and_from, cond-true}
use Rattle.index_layout.specs.Links.{latest, matching, link, linked}
use Rattle.index_layout.proofs.Links.{matching_here, walk_from, walk_on}
use Rattle.index.specs.declared.row.Row.{Row}
use Rattle.index.specs.declared.section.Section.{Section}
use Rattle.index.specs.Rows.{held, blank, no_link, named, codes_of, buckets_of, Leads}

module _ (s : Section) (b c : ℕ) where
  abbrev pub matching_in : ℕ → ℕ
  matching_in n = matching (buckets_of (held s.rows)) (codes_of (held s.rows)) b c n

  pub newest_from : b < 128 → let o = named (get_or s.heads b no_link) in Leads (held s.rows) b o × (matching_in (link o) ≡ matching_in (length (codes_of (held s.rows))))
  newest_from l =
      let f = walk_from (buckets_of (held s.rows)) (codes_of (held s.rows)) b c (length (held s.rows)) (named (get_or s.heads b no_link)) (s.linked.headed b l) in
      ((f.0, f.1), f.2 ∙ ap matching_in (sym (length-map (held s.rows) (λ r. r.code))))

  -- The row r is the one at p.
  pub older_from : (r : Row) (p : ℕ) → (p < length (held s.rows)) × (r ≡ get_or (held s.rows) p blank) → r.bucket ≡ b
      → Leads (held s.rows) b (named r.below) × (link (named r.below) ≤ p)
      × (linked (matching_in (link (named r.below))) ≡ cond (ltb p (length (codes_of (held s.rows))) && eqb (get_or (buckets_of (held s.rows)) p 0) b) (linked (matching_in p)) None)
  older_from r p here eb =
      let xs = held s.rows in
      let l : p < length xs = here.0 in
      let e : r ≡ get_or xs p blank = here.1 in
      let at : get_or (buckets_of xs) p 0 ≡ b = get_or-map (λ q. q.bucket) xs p blank 0 l ∙ ap (λ q. q.bucket) (sym e) ∙ eb in
      let f = walk_from (buckets_of xs) (codes_of xs) b c p (named r.below) (ap (λ q. named q.below) e ∙ s.linked.below p l ∙ ap (λ v. linked (latest (buckets_of xs) v p)) at) in
      let in_codes : ltb p (length (codes_of xs)) ≡ true = lt-ltb _ _ (omega (arith, length-map xs (λ q. q.code))) in
      ((omega (arith, f.0), f.1), f.0, ap linked f.2 ∙ sym (cond-true _ _ None (and_from _ _ in_codes (eq-eqb _ _ at))))

-- A search that began at the link m has come to the row at a position, or to the end.
pub record Walked (s : Section) (b c m : ℕ) (at : Option ℕ) : Type 0 where
  pub within : link at ≤ length (held s.rows)
  pub before : link at ≤ m
  pub own : latest (buckets_of (held s.rows)) b (link at) ≡ link at
  pub same : matching_in s b c (link at) ≡ matching_in s b c m

module _ (s : Section) (b c m : ℕ) (r : Row) (p : ℕ) (same : r ≡ get_or (held s.rows) p blank) (w : Walked s b c m (Some p)) where
  low : p < length (held s.rows)
  low = omega (arith, w.within)

  own : latest (buckets_of (held s.rows)) b (suc p) ≡ suc p
  own = w.own

  code : get_or (codes_of (held s.rows)) p 0 ≡ r.code
  code = get_or-map (λ q. q.code) (held s.rows) p blank 0 low ∙ ap (λ (q : Row). q.code) (sym same)

  pub walked_here : r.code ≡ c → Some p ≡ linked (matching_in s b c m)
  walked_here e =
      sym (ap linked (sym w.same ∙ matching_here (buckets_of (held s.rows)) (codes_of (held s.rows)) b c p own (code ∙ e)))

  pub walked_on : (r.code ≡ c → ⊥) → (link (named r.below) ≤ p) × Walked s b c m (named r.below)
  walked_on other =
      let on = walk_on (buckets_of (held s.rows)) (codes_of (held s.rows)) b c p (named r.below) own (λ q. other (sym code ∙ q)) (ap (λ (q : Row). named q.below) same ∙ s.linked.below p low) in (
        on.0,
        record {
          within = omega (arith, on.0, low);
          before = omega (arith, on.0, w.before);
          own = on.1;
          same = on.2 ∙ w.same;
        },
      )
