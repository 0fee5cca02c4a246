-- Flags in the table of copies, laid out as durations. Assumes nothing.
use Rattle.std.specs.Prelude.{ℕ, ◌/◌, ◌%◌, ◌&&◌, ◌==◌, List, nat_lt}
use Rattle.model.specs.Tables.{filled}

-- the flags of a stage's kinds in its row
unfoldable pub row_filled : ℕ → ℕ → (ℕ → ℕ) → List ℕ → List ℕ
row_filled k i flag old = filled (λ x. x / 4 == i && nat_lt (x % 4) k) (λ x. flag (x % 4)) old
