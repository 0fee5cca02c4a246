use Rattle.std.proofs.Common.{◌≡◌, ℕ, ◌*◌, ◌<◌, false}
use Rattle.std.specs.FinSet as finite
use Rattle.bitset.proofs.BitSet.lowest.Given as goal

abbrev pub invariant-loop-w : goal.invariant-loop-w
invariant-loop-w g l = (j : ℕ) → j < 64 * l.w → finite.contains l.self j ≡ false
