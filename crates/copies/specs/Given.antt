-- What the functions of this room take of a sheet. Assumes nothing.
use Rattle.std.specs.Prelude.{ℕ, ◌+◌, ◌<◌, ◌≡◌, false, if◌then◌else◌, List, length, slice_index}
use Rattle.model.specs.Sheet.{Sheet, stages, edges, dur, source, has_kind}
use Rattle.model.specs.Starts.{start}
use Rattle.model.specs.Paths.{circular}
use Rattle.model.specs.Held.{Acyclic, DurationsIn, EndsIn, WaitsIn, ViewOf, StartsIn, OrderIn}
use Rattle.model.specs.declared.SheetView.{SheetView}
use Rattle.adjacency.specs.Adjacency.{Chained}
use Rattle.adjacency.specs.declared.chains.Chains.{Chains}

-- a sheet without a closed path, in a view, and its starts in a table, with the chains of its edges by their first stage
pub record Given (s : Sheet) (view : SheetView) (chains : Chains) (ts : List ℕ) : Type 0 where
  pub view_of : ViewOf s view
  pub acyclic : circular s ≡ false
  pub chained : Chained view.ends.now 0 (edges s) (stages s) chains.head.now chains.prev.now
  pub starts_in : StartsIn s ts

-- and its running order, whole
pub record Ordered (s : Sheet) (view : SheetView) (chains : Chains) (order ts : List ℕ) : Type 0 where
  pub given : Given s view chains ts
  pub order_in : OrderIn s order
  pub order_whole : length order ≡ stages s

-- a stage, with its durations and starts
pub record StageGiven (s : Sheet) (view : SheetView) (ts : List ℕ) (i : ℕ) : Type 0 where
  pub acyclic : Acyclic s
  pub kinds_are : view.kinds ≡ s.kinds
  pub durations_in : DurationsIn s view.durations.now
  pub starts_in : StartsIn s ts
  pub below : i < stages s

-- when stage i ends on kind h; past every time on a kind that it lacks
unfoldable pub end_on : Sheet → ℕ → ℕ → ℕ
end_on s i h = if has_kind s i h then start s i h + dur s i h else 4000000000

-- its four ends in a row
pub record EndsOf (s : Sheet) (i : ℕ) (row : List ℕ) : Type 0 where
  pub acyclic : Acyclic s
  pub below : i < stages s
  pub ends_are : (h : ℕ) → h < 4 → slice_index row h ≡ end_on s i h

-- an edge with its waits, and the ends of its first stage
pub record WaitsGiven (s : Sheet) (view : SheetView) (row : List ℕ) (e : ℕ) : Type 0 where
  pub kinds_are : view.kinds ≡ s.kinds
  pub ends_of : EndsOf s (source s e) row
  pub waits_in : WaitsIn s view.waits.now
  pub below : e < edges s

-- and with its second stage, whose copies are passed
pub record EdgeGiven (s : Sheet) (view : SheetView) (row ts : List ℕ) (e : ℕ) : Type 0 where
  pub waits : WaitsGiven s view row e
  pub ends_in : EndsIn s view.ends.now
  pub starts_in : StartsIn s ts
