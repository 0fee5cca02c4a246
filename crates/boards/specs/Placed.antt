-- The boards of each kind: a list for each, of when each of its open boards is free again; and what is left when all copies have theirs. Assumes nothing.
use Rattle.std.specs.Prelude.{ℕ, ◌<◌, ◌≡◌, List, [], ◌∷◌, length, slice_index_or}
use Rattle.std.proofs.lemmas.List.Edits.{sets}
use Rattle.model.specs.Sheet.{Sheet}
use Rattle.model.specs.declared.Copy.{Copy}
use Rattle.model.specs.Plans.{on_board}
use Rattle.model.specs.Boards.{free_board, ends_with, plan}
use Rattle.model.specs.Tables.{over}
use Rattle.model.specs.Calls.{board_counts}
use Rattle.model.specs.Held.{rows_of}
use Rattle.boards.specs.declared.Assigned.{Assigned}

-- when each open board of kind k is free again
abbrev pub open_ends : List (List ℕ) → ℕ → List ℕ
open_ends boards k = slice_index_or boards k []

-- of a sheet: copy c has its board, the first that is free at its start, until it frees it; and its row is stored at a place
pub record Placed (s : Sheet) (c : Copy) (at : ℕ) (rows₀ : List ℕ) (boards₀ : List (List ℕ)) (rows : List ℕ) (boards : List (List ℕ)) : Type 0 where
  pub rows_are : rows ≡ sets rows₀ at (rows_of (on_board c (free_board (open_ends boards₀ c.kind) c.start) ∷ []))
  pub kinds_4 : length boards ≡ 4
  pub ends_are : (k : ℕ) → k < 4 → open_ends boards k ≡ ends_with s (open_ends boards₀) c k

-- of a sheet: the rows of our plan, how many they are, and the boards of each kind that it uses
pub record PlanAssigned (s : Sheet) (rows rows' : List ℕ) (a : Assigned) : Type 0 where
  pub copies_are : a.copies ≡ length (plan s)
  pub rows_are : rows' ≡ over (rows_of (plan s)) rows
  pub boards_are : a.boards ≡ board_counts s
