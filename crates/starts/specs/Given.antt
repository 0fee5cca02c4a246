-- What the functions of this room are given: a sheet in tables, and a table of starts that is filled so far. Assumes nothing.
use Rattle.std.specs.Prelude.{ℕ, ◌+◌, ◌*◌, ◌≤◌, ◌<◌, ◌≡◌, false, List, length, slice_index}
use Rattle.model.specs.Sheet.{Sheet, InRange, stages, edges, dur, source, target, wait}
use Rattle.model.specs.Paths.{circular}
use Rattle.model.specs.Held.{Acyclic, DurationsIn, ViewOf, OrderIn, StartsIn}
use Rattle.model.specs.declared.SheetView.{SheetView}
use Rattle.adjacency.specs.Adjacency.{Chained}
use Rattle.adjacency.specs.declared.chains.Chains.{Chains}
use Rattle.kinds.specs.Ends.{EndTabled, end_by}
use Rattle.starts.specs.Entries.{entry}

-- starts of stage i that are small enough for a sum with a duration and a wait
pub record StartsBounded (s : Sheet) (starts : List ℕ) (i : ℕ) : Type 0 where
  pub room : 1024 ≤ length starts
  pub small : (h : ℕ) → h < s.kinds → entry starts i h ≤ 510000000

-- a stage: its durations and its starts
pub record StageTabled (s : Sheet) (durations starts : List ℕ) (i : ℕ) : Type 0 where
  pub in_range : InRange s
  pub below : i < stages s
  pub durations_in : DurationsIn s durations
  pub bounded : StartsBounded s starts i

-- an edge of the sheet in a view, whose first stage has its starts
pub record EdgeTabled (s : Sheet) (view : SheetView) (starts : List ℕ) (e : ℕ) : Type 0 where
  pub view_of : ViewOf s view
  pub below : e < edges s
  pub bounded : StartsBounded s starts (source s e)

-- a kind h of stage i: its end is the sum of two entries, which is small enough for a sum with a wait
pub record EndIs (s : Sheet) (durations starts : List ℕ) (i h : ℕ) : Type 0 where
  pub tabled : EndTabled durations starts i h
  pub end_is : end_by durations starts i h ≡ entry starts i h + dur s i h
  pub small : end_by durations starts i h ≤ 511000000

-- and kind k of an edge's second stage, with kind h of its first: the same of the sum with the wait
pub record SumTabled (s : Sheet) (view : SheetView) (starts : List ℕ) (e k h : ℕ) : Type 0 where
  pub ends_room : 2 * e < length view.ends.now
  pub source_is : slice_index view.ends.now (2 * e) ≡ source s e
  pub end_there : EndIs s view.durations.now starts (slice_index view.ends.now (2 * e)) h
  pub edge_small : e < 1024
  pub kinds_small : (k < 4) × (h < 4)
  pub waits_room : 16384 ≤ length view.waits.now
  pub wait_is : slice_index view.waits.now (16 * e + 4 * h + k) ≡ wait s e h k
  pub wait_small : wait s e h k ≤ 1000000

-- the sheet in a view, with the chains of its edges by their second stage
pub record Given (s : Sheet) (view : SheetView) (chains : Chains) : Type 0 where
  pub view_of : ViewOf s view
  pub chained : Chained view.ends.now 1 (edges s) (stages s) chains.head.now chains.prev.now

-- and a stage j whose predecessors have their starts
pub record StageGiven (s : Sheet) (view : SheetView) (chains : Chains) (starts : List ℕ) (j : ℕ) : Type 0 where
  pub given : Given s view chains
  pub below : j < stages s
  pub room : 1024 ≤ length starts
  pub inputs : (e : ℕ) → e < edges s → target s e ≡ j → StartsBounded s starts (source s e)

-- the sheet without a closed path, and its running order
pub record Ordered (s : Sheet) (view : SheetView) (chains : Chains) (order : List ℕ) : Type 0 where
  pub given : Given s view chains
  pub acyclic : circular s ≡ false
  pub order_in : OrderIn s order

-- the durations and the starts of a sheet without a closed path
pub record Started (s : Sheet) (k : ℕ) (durations : List ℕ) (n : ℕ) (starts : List ℕ) : Type 0 where
  pub acyclic : Acyclic s
  pub kinds_are : k ≡ s.kinds
  pub stages_are : n ≡ stages s
  pub durations_in : DurationsIn s durations
  pub starts_in : StartsIn s starts
