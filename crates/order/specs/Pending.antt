-- Pending edges: those whose first stage isn't done. Assumes nothing.
use Rattle.std.specs.Prelude.{ℕ, zero, suc, ◌+◌, ◌*◌, ◌≤◌, ◌<◌, ◌≡◌, Bool, not, ◌&&◌, ◌==◌, List, length, slice_index}
use Rattle.model.specs.Bounded.{elem}
use Rattle.model.specs.Sheet.{Sheet, stages, edges, source, target}
use Rattle.model.specs.Held.{bit}

-- how many numbers below n pass the test p
abbrev pub count : ℕ → (ℕ → Bool) → ℕ
count zero p = 0
count (suc n) p = count n p + bit (p n)

-- how many of a sheet's first m edges go from stage i to stage j
unfoldable pub edges_between : Sheet → ℕ → ℕ → ℕ → ℕ
edges_between s m i j = count m (λ e. (source s e == i) && (target s e == j))

-- how many of them go to stage j from a stage that isn't done
unfoldable pub pending_into : Sheet → ℕ → List ℕ → ℕ → ℕ
pending_into s m done j = count m (λ e. not (elem (source s e) done) && (target s e == j))

-- the table has the number of each stage's pending edges, and on top of it a mark, which is no such number, where the stage is done
pub record Counted (s : Sheet) (done pending : List ℕ) : Type 0 where
  pub entries : (j : ℕ) → j < length pending → slice_index pending j ≡ pending_into s (edges s) done j + 2048 * bit (elem j done)

-- the edges of stage i can be released: the table has counted all of them
pub record CanRelease (s : Sheet) (i : ℕ) (pending : List ℕ) : Type 0 where
  pub below : i < stages s
  pub room : stages s ≤ length pending
  pub fits : (j : ℕ) → j < length pending → edges_between s (edges s) i j ≤ slice_index pending j

-- they are no longer pending
pub record Released (s : Sheet) (i : ℕ) (old new : List ℕ) : Type 0 where
  pub same_length : length new ≡ length old
  pub entries : (j : ℕ) → j < length old → slice_index new j + edges_between s (edges s) i j ≡ slice_index old j
