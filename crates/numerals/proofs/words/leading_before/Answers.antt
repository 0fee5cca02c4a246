-- `numerals::words::leading_before` meets its contract: what it answers is the number, since bytes that pass are digits with `stop` after them, and a number
-- that `stop` ends is never given up, since its length is what is guessed and its bytes pass. Assumes nothing.
use Rattle.std.proofs.Common.{◌+◌, ◌/◌, ◌%◌, ◌^◌, ◌≤◌, refl, arith}
use Rattle.std.proofs.lemmas.Nat.{and_le_l}
use lib.Bits.{bit_and}
use lib.Count.{count_trailing_zeros}
use Rattle.numerals.proofs.PackedBytes.{low_bytes, trailing_bytes, few_bytes}
use Rattle.numerals.proofs.WordNumbers.{Word, moved_back, aligned_digits, judged_at_once}
use Rattle.numerals.proofs.Ended.{ended_found, other_without_bits, other_by_count, other_by_zero, other_by_bytes}
use Rattle.numerals.proofs.words.leading_before.Goals.{After-word-digits, Else-others-eq0, Else-above-ne0}
use Rattle.numerals.proofs.words.leading_before.Goals as goal

word : (c : After-word-digits) → Word c.args.window.now ((c.word-digits.result + 14974415777481871312) % 2 ^ 64) c.args.stop
word c =
    record {
      long = c.told-window;
      bytes = c.fits-window;
      is = omega (arith, c.word-digits.ensures, c.word-digits.type_inv);
      low = c.requires;
    }

pub returns-then-others-eq0 : goal.returns-then-others-eq0
returns-then-others-eq0 c = other_without_bits (word (goal.at.returns-then-others-eq0 c).After-word-digits) c.if-others-eq0.true

pub returns-then-count-eq0 : goal.returns-then-count-eq0
returns-then-count-eq0 c = other_by_count (word (goal.at.returns-then-count-eq0 c).After-word-digits) c.if-count-eq0.true

pub returns-then-digits-others-eq0 : goal.returns-then-digits-others-eq0
returns-then-digits-others-eq0 c = other_by_zero (word (goal.at.returns-then-digits-others-eq0 c).After-word-digits) c.if-digits-others-eq0.true

-- the guess is below eight
few : (c : Else-others-eq0) → count_trailing_zeros 64 (bit_and ((c.word-digits.result + 14974415777481871312) % 2 ^ 64) 18410856566090662016) / 8 ≤ 7
few c = few_bytes _ c.if-others-eq0.false (omega (arith, and_le_l ((c.word-digits.result + 14974415777481871312) % 2 ^ 64) 18410856566090662016))

pub returns-then-above-ne0 : goal.returns-then-above-ne0
returns-then-above-ne0 c =
    let end = c.from-end.ensures in
    other_by_bytes (word (goal.at.returns-then-above-ne0 c).After-word-digits) _ _ _ (omega (arith, end)) (omega (arith, end)) (omega arith)
    (moved_back _ _ (omega (arith, end))) refl c.if-above-ne0.true

-- all bytes that were aligned are digits' values
pub decimal-requires : goal.decimal-requires
decimal-requires c =
    let d = (c.word-digits.result + 14974415777481871312) % 2 ^ 64 in
    let t = trailing_bytes (bit_and d 18410856566090662016) in
    let short = few (goal.at.decimal-requires c).Else-others-eq0 in
    let low = low_bytes _ 7 d t.times short t.is in
    aligned_digits d _ _ _ _ short low (omega arith) (moved_back _ _ (omega (arith, c.from-end.ensures))) refl c.if-above-ne0.false

pub returns : goal.returns
returns c =
    let at = goal.at.returns c in
    let end = c.from-end.ensures in
    rw c.decimal.ensures
    (ended_found
    (judged_at_once (word at.After-word-digits) _ (omega arith) (few at.Else-others-eq0) _ _ (omega (arith, end)) (omega (arith, end))
    (decimal-requires at.Else-above-ne0) (moved_back _ _ (omega (arith, end))) c.if-digits-others-eq0.false))
