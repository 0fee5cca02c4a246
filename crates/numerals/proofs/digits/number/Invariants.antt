use Rattle.numerals.proofs.Numbers.{Passed}
use Rattle.numerals.proofs.digits.number.Given as goal

abbrev pub invariant-loop-b : goal.invariant-loop-b
invariant-loop-b l = Passed l.field l.b-index l.value
