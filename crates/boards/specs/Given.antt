-- What the functions of this room take of a sheet. Assumes nothing.
use Rattle.std.specs.Prelude.{ℕ, ◌+◌, ◌≤◌, ◌<◌, ◌≡◌, List, map, length}
use Rattle.model.specs.Sheet.{Sheet, InRange, stages}
use Rattle.model.specs.declared.Copy.{Copy}
use Rattle.model.specs.Plans.{freed}
use Rattle.model.specs.Boards.{free_board}
use Rattle.model.specs.Held.{Acyclic, DurationsIn, ClearingIn, StartsIn, CopiesIn}
use Rattle.boards.specs.Keys.{in_order, key, stage_of, kind_of, start_of}
use Rattle.boards.specs.Placed.{open_ends}

-- K, N, and a sheet: its durations, starts and copies in tables, and its clearing times
pub record Given (s : Sheet) (k n : ℕ) (durations clearing starts copied : List ℕ) : Type 0 where
  pub acyclic : Acyclic s
  pub kinds_are : k ≡ s.kinds
  pub stages_are : n ≡ stages s
  pub durations_in : DurationsIn s durations
  pub clearing_in : ClearingIn s clearing
  pub starts_in : StartsIn s starts
  pub copies_in : CopiesIn s copied

-- its starts and copies alone: the keys are made of them
pub record CopiesGiven (s : Sheet) (k n : ℕ) (starts copied : List ℕ) : Type 0 where
  pub in_range : InRange s
  pub kinds_are : k ≡ s.kinds
  pub stages_are : n ≡ stages s
  pub starts_in : StartsIn s starts
  pub copies_in : CopiesIn s copied

-- its durations and clearing times, and the keys of its copies in order
pub record Keyed (s : Sheet) (durations clearing keys : List ℕ) : Type 0 where
  pub acyclic : Acyclic s
  pub durations_in : DurationsIn s durations
  pub clearing_in : ClearingIn s clearing
  pub keys_are : keys ≡ map key (in_order s)

-- its durations and clearing times, and one copy as numbers, whose board is free again before 32-bit numbers end
pub record CopyGiven (s : Sheet) (c : Copy) (durations clearing : List ℕ) (stage kind start : ℕ) : Type 0 where
  pub in_range : InRange s
  pub durations_in : DurationsIn s durations
  pub clearing_in : ClearingIn s clearing
  pub stage_is : stage ≡ c.stage
  pub kind_is : kind ≡ c.kind
  pub start_is : start ≡ c.start
  pub stage_below : c.stage < stages s
  pub kind_below : c.kind < s.kinds
  pub freed_fits : freed s c < 4294967296

-- such a copy by its key, room for its row, and fewer than 256 boards of its kind that are not free
pub record CanPlace (s : Sheet) (c : Copy) (k at : ℕ) (durations clearing rows : List ℕ) (boards : List (List ℕ)) : Type 0 where
  pub copy : CopyGiven s c durations clearing (stage_of k) (kind_of k) (start_of k)
  pub rows_room : at + 4 ≤ length rows
  pub board_256 : free_board (open_ends boards c.kind) c.start < 256
