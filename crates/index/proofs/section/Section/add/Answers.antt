use Rattle.std.proofs.Common.{◌≡◌, ◌+◌, ◌<◌, ◌≤◌, ℕ, ◌∷◌, [], ◌++◌, length, cond, is_some, not, true, false, Bool, get_or, add-one, sym, ap, ◌∙◌, refl, arith, ltb, add-zero}
use Rattle.std.specs.Int.{from_bool}
use Rattle.std.proofs.lemmas.Bool.{and_left, and_right, le-ltb, eqb-true, eqb-false}
use Rattle.std.proofs.lemmas.List.{length-map}
use Rattle.index_layout.specs.Links.{linked}
use Rattle.index_layout.proofs.Growing.{same_view}
use Rattle.index_layout.proofs.Links.{latest_le}
use Rattle.index_layout.proofs.Offsets.{fresh_le}
use Rattle.index.specs.declared.row.Row.{Row}
use Rattle.index.specs.Rows.{held, offsets_of, codes_of, buckets_of, no_link, no_ends, first_in, last_in, followed}
use Rattle.index.proofs.Columns.{linked_below}
use Rattle.index.proofs.Rows.{followed_length, followed_push, linked_push}
use Rattle.index.proofs.section.Section.add.Goals as goal
use Rattle.index.proofs.section.Section.add.Goals.{then-offset-ge64-via-then-offset-ge64, then-offset-ge64-via-else-offset-ge64+then-is_full}

byte_le : (b : Bool) → from_bool b ≤ 1
byte_le true = omega arith
byte_le false = omega arith

counted : (d : ℕ) (b x : Bool) → x ≡ not b → d + from_bool b ≡ cond x d (d + 1)
counted d true x e = rw e refl
counted d false x e = rw e (add-zero d)

pub returns-then-offset-ge64-clause-result : goal.returns-then-offset-ge64-clause-result
returns-then-offset-ge64-clause-result c =
    let s = c.args.self.now in
    elim c.then-offset-ge64.branch [
      | then-offset-ge64-via-then-offset-ge64 w ↦ sym (and_left _ _ (le-ltb c.args.offset 64 (omega arith)))
      | then-offset-ge64-via-else-offset-ge64+then-is_full w ↦
          sym (and_right (ltb c.args.offset 64) _ (le-ltb (length (offsets_of (held s.rows))) 128
          (omega (arith, length-map (held s.rows) (λ r. r.offset), eqb-true (length (held s.rows)) 128 (sym w.is_full.ensures.value ∙ w.if-is_full.true)))))
    ]

pub follow-requires : goal.follow-requires
follow-requires c =
    let s = c.args.self.now in
    linked_below _ _ (length (held c.push.new.self)) (s.linked.ended c.args.offset (omega arith)) (omega (arith, latest_le (offsets_of (held s.rows)) c.args.offset (length (held s.rows)), c.push.ensures.len))

pub push-requires : goal.push-requires
push-requires c = omega (arith, c.is_full.ensures.fits, eqb-false (length (held c.args.self.now.rows)) 128 (sym c.is_full.ensures.value ∙ c.if-is_full.false))

pub overflow_add-self : goal.overflow_add-self
overflow_add-self c =
    let s = c.args.self.now in
    omega (arith, s.linked.counted, fresh_le (offsets_of (held s.rows)) (length (held s.rows)), byte_le c.is_none.result)

pub invariant_of-self : goal.invariant_of-self
invariant_of-self c =
    let s = c.args.self.now in
    let r : Row = record { code = c.args.key.code; offset = c.args.offset; bucket = c.bucket-bucket.result; next = c.none.result; below = get_or s.heads c.bucket-bucket.result no_link } in
    let room : length (held s.rows) < 128 = omega (arith, c.is_full.ensures.fits, eqb-false (length (held s.rows)) 128 (sym c.is_full.ensures.value ∙ c.if-is_full.false)) in
    let links = linked_push (held s.rows) s.numbers s.heads r c.len.result s.distinct c.to-last.result (sym c.len.ensures.value) (ap linked (c.to-last.ensures ∙ add-one c.len.result)) s.linked (omega arith) (omega arith) (omega arith) (omega arith) (ap linked c.none.ensures) refl in
    record {
      few = omega (arith, ap length c.follow.ensures, followed_length (held c.push.new.self) (last_in (get_or s.numbers c.args.offset no_ends)) c.to-last.result, c.push.ensures.len, room);
      linked = rw (c.from.ensures, counted s.distinct c.is_none.result (is_some (first_in (get_or s.numbers c.args.offset no_ends))) c.is_none.ensures, c.follow.ensures, c.push.ensures.items, c.extended.ensures) links;
    }

pub returns-clause-view : goal.returns-clause-view
returns-clause-view c =
    let s = c.args.self.now in
    let r : Row = record { code = c.args.key.code; offset = c.args.offset; bucket = c.bucket-bucket.result; next = c.none.result; below = get_or s.heads c.bucket-bucket.result no_link } in
    let o = last_in (get_or s.numbers c.args.offset no_ends) in
    let e = c.follow.ensures ∙ ap (λ rows. followed rows o c.to-last.result) c.push.ensures.items in
    same_view true s.start _ _ _ _ _ _
    (ap offsets_of e ∙ followed_push (λ q. q.offset) (λ q to. refl) (held s.rows) r o c.to-last.result)
    (ap codes_of e ∙ followed_push (λ q. q.code) (λ q to. refl) (held s.rows) r o c.to-last.result)
    (ap buckets_of e ∙ followed_push (λ q. q.bucket) (λ q to. refl) (held s.rows) r o c.to-last.result ∙ ap (λ b. buckets_of (held s.rows) ++ b ∷ []) c.bucket-bucket.ensures.is)
