-- The lowest number of a set. Assumes nothing.
use Rattle.std.specs.Prelude.{ℕ, ◌<◌, ◌≡◌, true, false}
use Rattle.std.specs.FinSet as finite
use Rattle.std.specs.Ordering.{nat_cmp}

pub record IsLowest (s : finite.FinSet nat_cmp) (x : ℕ) : Type 0 where
  pub contained : finite.contains s x ≡ true
  pub none_below : (j : ℕ) → j < x → finite.contains s j ≡ false
