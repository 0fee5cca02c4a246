-- Which table holds which part of a sheet, and of its schedule. A function's contract names the relations of the tables that it reads, and no other, and
-- speaks of whichever sheet they hold. Each relation speaks only of the entries that a sheet uses: a table may be longer, and hold anything elsewhere
-- (SPEC 2.3). Assumes nothing.
use Rattle.std.specs.Prelude.{ℕ, ◌+◌, ◌*◌, ◌/◌, ◌%◌, ◌≤◌, ◌<◌, ◌≡◌, Bool, true, false, List, [], ◌∷◌, length, get_or}
use Rattle.model.specs.Sheet.{Sheet, InRange, stages, edges, clear, dur, source, target, wait}
use Rattle.model.specs.Starts.{start}
use Rattle.model.specs.Paths.{running_order, circular}
use Rattle.model.specs.Copies.{has_copy}
use Rattle.model.specs.Plans.{Copy, at}
use Rattle.model.specs.Boards.{plan}
use Rattle.model.specs.Tables.{filled, of_stage}
use Rattle.model.specs.declared.SheetView.{SheetView}

-- a sheet within its ranges and without a closed path: what bounds every time (SPEC 3.4)
pub record Acyclic (s : Sheet) : Type 0 where
  pub in_range : InRange s
  pub acyclic : circular s ≡ false

-- SPEC 2.1.1
pub record DurationsIn (s : Sheet) (durations : List ℕ) : Type 0 where
  pub room : 1024 ≤ length durations
  pub entries : (i h : ℕ) → i < stages s → h < s.kinds → get_or durations (4 * i + h) 0 ≡ dur s i h

-- SPEC 2.1.2
pub record EndsIn (s : Sheet) (ends : List ℕ) : Type 0 where
  pub room : 2048 ≤ length ends
  pub sources : (e : ℕ) → e < edges s → get_or ends (2 * e) 0 ≡ source s e
  pub targets : (e : ℕ) → e < edges s → get_or ends (2 * e + 1) 0 ≡ target s e

-- SPEC 2.1.3
pub record WaitsIn (s : Sheet) (waits : List ℕ) : Type 0 where
  pub room : 16384 ≤ length waits
  pub entries : (e h k : ℕ) → e < edges s → h < s.kinds → k < s.kinds → get_or waits (16 * e + 4 * h + k) 0 ≡ wait s e h k

-- SPEC 2.4: the clearing times, which no lent table has
pub record ClearingIn (s : Sheet) (clearing : List ℕ) : Type 0 where
  pub room : 4 ≤ length clearing
  pub entries : (k : ℕ) → k < s.kinds → get_or clearing k 0 ≡ clear s k

-- the parts of a sheet that tables have, where a function hands them on: K, N and M beside the three tables
pub record SheetHeld (s : Sheet) (k n m : ℕ) (durations ends waits : List ℕ) : Type 0 where
  pub in_range : InRange s
  pub kinds_are : k ≡ s.kinds
  pub stages_are : n ≡ stages s
  pub edges_are : m ≡ edges s
  pub durations_in : DurationsIn s durations
  pub ends_in : EndsIn s ends
  pub waits_in : WaitsIn s waits

-- the same of a view, which has K and the tables, and neither N nor M
abbrev pub ViewOf : Sheet → SheetView → Type 0
ViewOf s view = SheetHeld s view.kinds (stages s) (edges s) view.durations.now view.ends.now view.waits.now

-- the running order, from the front
pub record OrderIn (s : Sheet) (order : List ℕ) : Type 0 where
  pub room : stages s ≤ length order
  pub entries : (x : ℕ) → x < length (running_order s) → get_or order x 0 ≡ get_or (running_order s) x 0

-- SPEC 2.1.4
pub record StartsIn (s : Sheet) (starts : List ℕ) : Type 0 where
  pub room : 1024 ≤ length starts
  pub entries : (i h : ℕ) → i < stages s → h < s.kinds → get_or starts (4 * i + h) 0 ≡ start s i h

abbrev pub bit : Bool → ℕ
bit true = 1
bit false = 0

-- for each stage and kind, at the places of 2.1.1: 1 where there is a copy, 0 where there is none
unfoldable pub copies_table : Sheet → List ℕ → List ℕ
copies_table s old = filled (of_stage s) (λ x. bit (has_copy s (x / 4) (x % 4))) old

pub record CopiesIn (s : Sheet) (copied : List ℕ) : Type 0 where
  pub room : 1024 ≤ length copied
  pub entries : (i h : ℕ) → i < stages s → h < s.kinds → get_or copied (4 * i + h) 0 ≡ bit (has_copy s i h)

-- the records of SPEC 2.2 as numbers: stage, kind, board and start of copy c at 4×c, 4×c+1, 4×c+2 and 4×c+3
abbrev pub rows_of : List Copy → List ℕ
rows_of [] = []
rows_of (c ∷ p) = c.stage ∷ c.kind ∷ c.board ∷ c.start ∷ rows_of p

-- the first n rows are our plan
pub record PlanIn (s : Sheet) (n : ℕ) (rows : List ℕ) : Type 0 where
  pub count : n ≡ length (plan s)
  pub room : 4 * n ≤ length rows
  pub stage_at : (c : ℕ) → c < n → get_or rows (4 * c) 0 ≡ (at (plan s) c).stage
  pub kind_at : (c : ℕ) → c < n → get_or rows (4 * c + 1) 0 ≡ (at (plan s) c).kind
  pub board_at : (c : ℕ) → c < n → get_or rows (4 * c + 2) 0 ≡ (at (plan s) c).board
  pub start_at : (c : ℕ) → c < n → get_or rows (4 * c + 3) 0 ≡ (at (plan s) c).start
