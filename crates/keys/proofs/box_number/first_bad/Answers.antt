use Rattle.std.proofs.Common.{◌≡◌, true, false, Some, None, sym, rules}
use Rattle.std.specs.Prelude.{slice_index, ◌%◌}
use Rattle.std.proofs.lemmas.Iterator.{first_from_Range}
use borrow.Author.Tests.{tests}
use Rattle.keys.specs.Iso.{is_letter, is_digit, is_category, shows, digit_of, check_sum}
use Rattle.keys.specs.Places.{first_found}
use Rattle.keys.proofs.ByPlace.{letters, digits, letter_bad, three_right, category_bad, four_right, digit_bad, ten_right, check_bad, all_right}
use Rattle.keys.proofs.box_number.first_bad.Goals as goal

pub returns-in-Some : goal.returns-in-Some
returns-in-Some c =
    let xs = c.args.bytes.now in
    let first : letters xs c.find.result = first_from_Range _ _ _ _ (λ p. is_letter (slice_index xs p) ≡ false) (λ p. is_letter (slice_index xs p) ≡ true) c.find.ensures.ran (λ x q k. search (rules, tests)) (λ x q k. search (rules, tests)) in
    sym (first_found xs (Some c.in-Some.place) (letter_bad xs c.find.result c.in-Some.place c.in-Some.is first))

pub returns-then-not-is_category : goal.returns-then-not-is_category
returns-then-not-is_category c =
    let xs = c.args.bytes.now in
    let first : letters xs c.find.result = first_from_Range _ _ _ _ (λ p. is_letter (slice_index xs p) ≡ false) (λ p. is_letter (slice_index xs p) ≡ true) c.find.ensures.ran (λ x q k. search (rules, tests)) (λ x q k. search (rules, tests)) in
    let wrong : is_category (slice_index xs 3) ≡ false = search (rules, tests) in
    sym (first_found xs (Some 3) (category_bad xs (three_right xs c.find.result c.in_default.is first) wrong))

pub returns-in-Some-find : goal.returns-in-Some-find
returns-in-Some-find c =
    let xs = c.args.bytes.now in
    let first : letters xs c.find.result = first_from_Range _ _ _ _ (λ p. is_letter (slice_index xs p) ≡ false) (λ p. is_letter (slice_index xs p) ≡ true) c.find.ensures.ran (λ x q k. search (rules, tests)) (λ x q k. search (rules, tests)) in
    let right : is_category (slice_index xs 3) ≡ true = search (rules, tests) in
    let second : digits xs c.find-2.result = first_from_Range _ _ _ _ (λ p. is_digit (slice_index xs p) ≡ false) (λ p. is_digit (slice_index xs p) ≡ true) c.find-2.ensures.ran (λ x q k. search (rules, tests)) (λ x q k. search (rules, tests)) in
    sym (first_found xs (Some c.in-Some-find.place) (digit_bad xs c.find-2.result c.in-Some-find.place c.in-Some-find.is second (four_right xs (three_right xs c.find.result c.in_default.is first) right)))

pub returns-then-shows : goal.returns-then-shows
returns-then-shows c =
    let xs = c.args.bytes.now in
    let first : letters xs c.find.result = first_from_Range _ _ _ _ (λ p. is_letter (slice_index xs p) ≡ false) (λ p. is_letter (slice_index xs p) ≡ true) c.find.ensures.ran (λ x q k. search (rules, tests)) (λ x q k. search (rules, tests)) in
    let right : is_category (slice_index xs 3) ≡ true = search (rules, tests) in
    let second : digits xs c.find-2.result = first_from_Range _ _ _ _ (λ p. is_digit (slice_index xs p) ≡ false) (λ p. is_digit (slice_index xs p) ≡ true) c.find-2.ensures.ran (λ x q k. search (rules, tests)) (λ x q k. search (rules, tests)) in
    let shown : shows (digit_of (check_sum xs % 11)) (slice_index xs 10) ≡ true = search (rules, tests) in
    sym (first_found xs None (all_right xs (ten_right xs c.find-2.result c.in_default-find.is second (four_right xs (three_right xs c.find.result c.in_default.is first) right)) shown))

pub returns-else-shows : goal.returns-else-shows
returns-else-shows c =
    let xs = c.args.bytes.now in
    let first : letters xs c.find.result = first_from_Range _ _ _ _ (λ p. is_letter (slice_index xs p) ≡ false) (λ p. is_letter (slice_index xs p) ≡ true) c.find.ensures.ran (λ x q k. search (rules, tests)) (λ x q k. search (rules, tests)) in
    let right : is_category (slice_index xs 3) ≡ true = search (rules, tests) in
    let second : digits xs c.find-2.result = first_from_Range _ _ _ _ (λ p. is_digit (slice_index xs p) ≡ false) (λ p. is_digit (slice_index xs p) ≡ true) c.find-2.ensures.ran (λ x q k. search (rules, tests)) (λ x q k. search (rules, tests)) in
    let shown : shows (digit_of (check_sum xs % 11)) (slice_index xs 10) ≡ false = search (rules, tests) in
    sym (first_found xs (Some 10) (check_bad xs (ten_right xs c.find-2.result c.in_default-find.is second (four_right xs (three_right xs c.find.result c.in_default.is first) right)) shown))
