-- What scheduling a sheet in tables answers and leaves. Assumes nothing.
use Rattle.std.specs.Prelude.{◌≡◌, true, false, List, length, Option, None, Some, ℕ}
use Rattle.model.specs.Sheet.{Sheet}
use Rattle.model.specs.Starts.{finish}
use Rattle.model.specs.Paths.{circular}
use Rattle.model.specs.Boards.{plan}
use Rattle.model.specs.Tables.{over, starts_table}
use Rattle.model.specs.Calls.{board_counts}
use Rattle.model.specs.Held.{rows_of}
use Rattle.schedule.specs.declared.Scheduled.{Scheduled}

-- a sheet without a closed path: finish, starts, and our plan with its boards
pub record Planned (s : Sheet) (starts starts' rows rows' : List ℕ) (p : Scheduled) : Type 0 where
  pub acyclic : circular s ≡ false
  pub finish_is : p.finish ≡ finish s
  pub starts_are : starts' ≡ starts_table s starts
  pub copies_are : p.copies ≡ length (plan s)
  pub rows_are : rows' ≡ over (rows_of (plan s)) rows
  pub boards_are : p.boards ≡ board_counts s

-- one with a closed path, which leaves the tables as they were; or the plan
abbrev pub says : Sheet → (starts starts' rows rows' : List ℕ) → Option Scheduled → Type 0
says s starts starts' rows rows' None = (circular s ≡ true) × (starts' ≡ starts) × (rows' ≡ rows)
says s starts starts' rows rows' (Some p) = Planned s starts starts' rows rows' p
