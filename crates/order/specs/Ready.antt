-- Ready stages: by a table of pending edges, and in a set of those behind a search. Assumes nothing.
use Rattle.std.specs.Prelude.{ℕ, ◌≤◌, ◌<◌, min, ◌≡◌, Bool, false, if◌then◌else◌, ◌&&◌, ◌==◌, nat_lt, List, length, take, slice_index}
use Rattle.std.specs.FinSet as finite
use Rattle.std.specs.Ordering.{nat_cmp}

-- by the table stage j can run
abbrev pub ready : List ℕ → ℕ → Bool
ready pending j = slice_index pending j == 0

-- no stage below `from` can
abbrev pub NoneReady : ℕ → List ℕ → Type 0
NoneReady from pending = (j : ℕ) → j < from → ready pending j ≡ false

-- stage j is the lowest one that can
pub record IsNext (pending : List ℕ) (j : ℕ) : Type 0 where
  pub in_bounds : j < length pending
  pub none_pending : slice_index pending j ≡ 0
  pub none_lower : NoneReady j pending

-- a stage with `left` pending edges is ready behind a search that has reached all stages below `reached`
abbrev pub ready_behind : ℕ → ℕ → ℕ → Bool
ready_behind stage left reached = left == 0 && nat_lt stage reached

-- where the search starts then, if it started at `from` before
abbrev pub search_start : ℕ → ℕ → ℕ → ℕ
search_start stage left from = if left == 0 then min from stage else from

-- the set contains the stages below `reached` that can run by the table
pub record Behind (reached : ℕ) (pending : List ℕ) (behind : finite.FinSet nat_cmp) : Type 0 where
  pub stages : (j : ℕ) → finite.contains behind j ≡ (nat_lt j reached && ready pending j)

-- the search for the lowest ready one of n stages can start at `from`: no stage below it is ready, and the set contains those that are behind `reached`
pub record Searching (n : ℕ) (pending : List ℕ) (behind : finite.FinSet nat_cmp) (from reached : ℕ) : Type 0 where
  pub few : n ≤ 256
  pub room : n ≤ length pending
  pub within : reached ≤ n
  pub upto : from ≤ reached
  pub none_below : NoneReady from (take n pending)
  pub kept : Behind reached (take n pending) behind
