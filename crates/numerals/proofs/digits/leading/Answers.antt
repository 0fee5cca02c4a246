-- `numerals::digits::leading` meets its contract: the bytes passed are digits, and their value is known (`Sofar`). Assumes nothing.
use Rattle.std.proofs.Common.{sym, arith}
use Rattle.numerals.proofs.Numbers.{digit_missed}
use Rattle.numerals.proofs.Leading.{leading_start, leading_more, leading_stop, leading_zero}
use Rattle.numerals.proofs.digits.leading.Goals as goal

pub returns-then-tens-gt9 : goal.returns-then-tens-gt9
returns-then-tens-gt9 c =
    let first = leading_start c.args.window.now _ (omega arith) c.digit_value-value.ensures c.if-value-gt9.false in
    let no_digit = digit_missed _ _ c.digit_value-tens.ensures c.if-tens-gt9.true in
    sym (leading_stop first (omega arith) (omega arith) no_digit (λ l e. absurd (omega arith)))

pub returns-then-value-eq0 : goal.returns-then-value-eq0
returns-then-value-eq0 c =
    let first = leading_start c.args.window.now _ (omega arith) c.digit_value-value.ensures c.if-value-gt9.false in
    let both = leading_more first _ (omega arith) c.digit_value-tens.ensures c.if-tens-gt9.false in
    grind (arith, leading_zero)

pub returns-else-digit-le9 : goal.returns-else-digit-le9
returns-else-digit-le9 c =
    let l = c.loop-i in
    sym (leading_stop l.invariant.0 (omega arith) (omega arith) (digit_missed _ _ c.digit_value-digit.ensures c.if-digit-le9.false) (λ m e. l.invariant.1 e))

pub loop-i-preserved : goal.loop-i-preserved
loop-i-preserved c =
    let l = c.loop-i in
    (leading_more l.invariant.0 _ (omega arith) c.digit_value-digit.ensures c.if-digit-le9.true, l.invariant.1)
