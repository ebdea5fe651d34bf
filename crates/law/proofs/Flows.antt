-- What came and what went, by numbers alone, against the book's rows. Assumes nothing.
use Rattle.std.proofs.Common.{◌≡◌, ℕ, ◌+◌, ◌<◌, ◌≤◌, Bool, true, false, cond, ltb, ◌⊎◌, List, [], ◌∷◌, ◌++◌, length, drop, Some, None, Ok, Err, Option, sym, refl, ap, ◌∙◌, subst, inl, inr, arith, length-append}
use Rattle.std.proofs.lemmas.Bool.{cases_Bool, eqb-true, ltb-true, ltb-false, le-leb, lt-leb}
use Rattle.journal.specs.Meaning.{Meaning, Row}
use Rattle.journal.specs.Calls.{new_row}
use Rattle.rules.specs.declared.answer.Reply.TheVariants as reply
use Rattle.rules.specs.declared.call.Call.{Call}
use Rattle.rules.specs.declared.call.Call.TheVariants.{ListNumber}
use Rattle.rules.specs.declared.fault.ArchiveFault.TheVariants.{NotLoaded, ShortListing}
use Rattle.rules.specs.State.{Kind, section_of, those, bears_number}
use Rattle.rules.specs.Steps.{Handed, Answer, answer, Says, Change, loads, puts, prunes, asks, change_of, Event}
use Rattle.rules.specs.History.{Book, blank, is_accepted, is_stored, first_book, rows_in, with_arrival, from_number, struck_below, struck_by, noted_by, noted, book_after, book, kept_in}
use Rattle.rules.specs.Told.{BearsNumber, ToldAt, ToldFirst, ToldBy, Told, ToldListing, refused}
use Rattle.rules.specs.Law.{number_is, Flow, flow_struck, flow_by, flow_after, flow, AddsUp, Every}
use Rattle.law.proofs.Tests.{decides_number}
use Rattle.law.proofs.Lists.{counted_one, those_yes, those_no, those-++, those_under, those_apart}
use Rattle.law.proofs.Repeats.{rows_passing}

pub record Even (n : ℕ) (b : Book) (x : Flow) : Type 0 where
  pub size : x.size ≡ b.size
  pub count : length (those (number_is n) b.rows) + x.went ≡ x.came

module _ (m : Meaning) (n : ℕ) where
  even_put : (b : Book) (x : Flow) (r : Row) (w : Bool) → Even n b x
      → Even n (cond w (with_arrival b r) b) (cond w (cond (number_is n r) (record { size = x.size; came = x.came + 1; went = x.went }) x) x)
  even_put b x r false h = h
  even_put b x r true h = by (cases_Bool (number_is n r))
    where
      by : (number_is n r ≡ true) ⊎ (number_is n r ≡ false) → Even n (with_arrival b r) (cond (number_is n r) (record { size = x.size; came = x.came + 1; went = x.went }) x)
      by (inl e) =
          let c : length (those (number_is n) (b.rows ++ r ∷ [])) ≡ length (those (number_is n) b.rows) + 1 =
          ap length (those-++ (number_is n) b.rows (r ∷ []) ∙ ap (λ ys. those (number_is n) b.rows ++ ys) (those_yes (number_is n) r [] e)) ∙ length-append (those (number_is n) b.rows) (r ∷ []) in
          subst (λ (y : Bool). Even n (with_arrival b r) (cond y (record { size = x.size; came = x.came + 1; went = x.went }) x)) (sym e)
          (record { size = h.size; count = omega (arith, c, h.count) })
      by (inr e) =
          let c : length (those (number_is n) (b.rows ++ r ∷ [])) ≡ length (those (number_is n) b.rows) + 0 =
          ap length (those-++ (number_is n) b.rows (r ∷ []) ∙ ap (λ ys. those (number_is n) b.rows ++ ys) (those_no (number_is n) r [] e)) ∙ length-append (those (number_is n) b.rows) [] in
          subst (λ (y : Bool). Even n (with_arrival b r) (cond y (record { size = x.size; came = x.came + 1; went = x.went }) x)) (sym e)
          (record { size = h.size; count = omega (arith, c, h.count) })

  even_struck : (b : Book) (x : Flow) (min : ℕ) (o : Option ℕ) → o ≡ b.size → x.size ≡ o → Even n b x → Even n (struck_by o b min) (flow_struck o min n x)
  even_struck b x min None p q h = h
  even_struck b x min (Some l) p q h = by (cases_Bool (ltb n (section_of l min)))
    where
      by : (ltb n (section_of l min) ≡ true) ⊎ (ltb n (section_of l min) ≡ false)
          → Even n (struck_below b (section_of l min)) (cond (ltb n (section_of l min)) (record { size = x.size; came = x.came; went = x.came }) x)
      by (inl e) =
          let z = those_apart (number_is n) (from_number (section_of l min)) b.rows
          (λ r a k. lt-leb (section_of l min) r.label.number (omega (arith, ltb-true n (section_of l min) e, eqb-true r.label.number n k))) in
          subst (λ (y : Bool). Even n (struck_below b (section_of l min)) (cond y (record { size = x.size; came = x.came; went = x.came }) x)) (sym e)
          (record { size = h.size; count = omega (arith, ap length z) })
      by (inr e) =
          let z = those_under (number_is n) (from_number (section_of l min)) b.rows
          (λ r a k. le-leb (section_of l min) r.label.number (omega (arith, ltb-false n (section_of l min) e, eqb-true r.label.number n k))) in
          subst (λ (y : Bool). Even n (struck_below b (section_of l min)) (cond y (record { size = x.size; came = x.came; went = x.came }) x)) (sym e)
          (record { size = h.size; count = omega (arith, ap length z, h.count) })

  even_step : (b : Book) (x : Flow) (c : Change) (bs : List ℕ) (w : Says) → Even n b x → Even n (noted_by m b c bs w) (flow_by m n c bs w x)
  even_step b x (loads l) bs w h = by (is_accepted w)
    where
      by : (y : Bool) → Even n (cond y (first_book m l) b) (cond y (record { size = Some l; came = length (those (number_is n) (rows_in m.sections)); went = 0 }) x)
      by true = record { size = refl; count = omega arith }
      by false = h
  even_step b x (puts multi label key) bs w h = even_put b x (new_row label key bs) (is_stored w) h
  even_step b x (prunes min) bs w h = by (is_accepted w)
    where
      by : (y : Bool) → Even n (cond y (struck_by b.size b min) b) (cond y (flow_struck x.size min n x) x)
      by true = subst (λ (o : Option ℕ). Even n (struck_by b.size b min) (flow_struck o min n x)) (sym h.size) (even_struck b x min b.size refl h.size h)
      by false = h
  even_step b x asks bs w h = h

  even_along : (h : List Event) (b : Book) (x : Flow) → Even n b x → Even n (book_after m b h) (flow_after m n x h)
  even_along [] b x k = k
  even_along (e ∷ h) b x k = even_along h (noted m b e) (flow_by m n (change_of e.asked.call) e.asked.bytes e.answer.says x) (even_step b x (change_of e.asked.call) e.asked.bytes e.answer.says k)

-- What a listing by number says is how many rows bear the number.
listed_count : (kind : Kind) (m : Meaning) (o : Option ℕ) (b : Book) (h : Handed) (a : Answer) (n c : ℕ) → h.call ≡ ListNumber n → ToldBy kind m o b h a → a.says ≡ Some (Ok (reply.ListedByNumber c))
    → c ≡ length (those (number_is n) b.rows)
listed_count kind m None b h a n c q t s =
    let y : a.says ≡ Some (Err NotLoaded) = ap (λ x. x.says) (subst (λ (k : Call (List ℕ)). ToldFirst kind m (change_of k) h a) q t) in
    let z : ◌≡◌ {A = ℕ} 0 1 = cc in let v : ⊥ = omega arith in absurd v
listed_count kind m (Some l) b h a n c q t s = by o.answers
  where
    o : ToldListing (BearsNumber n) (kept_in l b) (λ i. reply.ListedByNumber i) h a
    o = subst (λ (k : Call (List ℕ)). ToldAt kind l b k h a) q t

    by : ((length h.places < o.count) × (a ≡ refused h (ShortListing o.count)))
        ⊎ ((o.count ≤ length h.places) × (a ≡ answer (Some (Ok (reply.ListedByNumber o.count))) h.bytes (o.listed ++ drop o.count h.places))) → c ≡ length (those (number_is n) b.rows)
    by (inl k) =
        let y : a.says ≡ Some (Err (ShortListing o.count)) = ap (λ x. x.says) k.1 in
        let z : ◌≡◌ {A = ℕ} 0 1 = cc in let v : ⊥ = omega arith in absurd v
    by (inr k) =
        let y : a.says ≡ Some (Ok (reply.ListedByNumber o.count)) = ap (λ x. x.says) k.1 in
        let z : c ≡ o.count = cc in
        z ∙ counted_one (bears_number n) (BearsNumber n) (decides_number n) (kept_in l b) o.count o.lists.count ∙ rows_passing (number_is n) l [] b.rows

pub adds_up : (kind : Kind) (m : Meaning) (h : List Event) → Every m h (λ b e. Told kind m b e.asked e.answer) → AddsUp m h
adds_up kind m h told h₁ h₂ e n c eq q s =
    let k = even_along m n h₁ blank (record { size = None; came = 0; went = 0 }) (record { size = refl; count = refl }) in
    let d = listed_count kind m (book m h₁).size (book m h₁) e.asked e.answer n c q (told h₁ h₂ e eq) s in
    ap (λ i. i + (flow m n h₁).went) d ∙ k.count
