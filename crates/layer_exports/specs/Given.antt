-- What the rooms are given, as tables alone: a caller of these functions has no views or chains. Assumes nothing.
use Rattle.std.specs.Prelude.{ℕ, ◌≡◌, false, List, length}
use Rattle.model.specs.Sheet.{Sheet, stages, edges}
use Rattle.model.specs.Paths.{circular}
use Rattle.model.specs.Held.{SheetHeld, OrderIn, StartsIn}
use Rattle.adjacency.specs.Adjacency.{Chained}

-- the sheet without a closed path, its running order, and the chains of its edges by their second stage
pub record ToStart (s : Sheet) (k : ℕ) (ds es ws head prev order : List ℕ) : Type 0 where
  pub held : SheetHeld s k (stages s) (edges s) ds es ws
  pub chained : Chained es 1 (edges s) (stages s) head prev
  pub acyclic : circular s ≡ false
  pub order_in : OrderIn s order

-- the sheet, its starts and its running order, whole, and the chains of its edges by their first stage
pub record ToCopy (s : Sheet) (k : ℕ) (ds es ws head prev order ts : List ℕ) : Type 0 where
  pub held : SheetHeld s k (stages s) (edges s) ds es ws
  pub acyclic : circular s ≡ false
  pub chained : Chained es 0 (edges s) (stages s) head prev
  pub starts_in : StartsIn s ts
  pub order_in : OrderIn s order
  pub order_whole : length order ≡ stages s
