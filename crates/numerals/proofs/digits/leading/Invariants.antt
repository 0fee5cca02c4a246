use Rattle.std.proofs.Common.{◌≡◌, get_or}
use Rattle.numerals.proofs.Leading.{Sofar}
use Rattle.numerals.proofs.digits.leading.Given as goal

abbrev pub invariant-loop-i : goal.invariant-loop-i
invariant-loop-i l = Sofar l.window l.i l.value × (get_or l.window 0 0 ≡ 48 → ⊥)
