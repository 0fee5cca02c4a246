-- What printing takes of a sheet's plan. Assumes nothing.
use Rattle.std.specs.Prelude.{ℕ, ◌≡◌, List}
use Rattle.model.specs.Sheet.{Sheet}
use Rattle.model.specs.Starts.{finish}
use Rattle.model.specs.Calls.{board_counts}
use Rattle.model.specs.Held.{PlanIn, Acyclic, DurationsIn}

-- a sheet whose durations and rows are in the tables, with its finish and board counts
pub record Given (s : Sheet) (k : ℕ) (durations : List ℕ) (f : ℕ) (counts rows : List ℕ) (copies : ℕ) : Type 0 where
  pub acyclic : Acyclic s
  pub kinds_are : k ≡ s.kinds
  pub durations_in : DurationsIn s durations
  pub finish_is : f ≡ finish s
  pub counts_are : counts ≡ board_counts s
  pub plan_in : PlanIn s copies rows
