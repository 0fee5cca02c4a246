-- What the steps of a schedule are given. Assumes nothing.
use Rattle.std.specs.Prelude.{ℕ, ◌≡◌, false, List, length}
use Rattle.model.specs.Sheet.{Sheet, stages}
use Rattle.model.specs.Paths.{circular}
use Rattle.model.specs.Held.{OrderIn, ClearingIn, SheetHeld}
use Rattle.model.specs.declared.SheetView.{SheetView}
use Rattle.model.specs.declared.Sizes.{Sizes}
use Rattle.adjacency.specs.declared.chains.Chains.{Chains}
use Rattle.copies.specs.Given as Copies

-- the sheet in the tables, without a closed path, and its running order, whole
pub record Ordered (s : Sheet) (view : SheetView) (sizes : Sizes) (order : List ℕ) : Type 0 where
  pub held : SheetHeld s view.kinds sizes.stages sizes.edges view.durations.now view.ends.now view.waits.now
  pub acyclic : circular s ≡ false
  pub order_in : OrderIn s order
  pub order_whole : length order ≡ stages s

-- what the copies are chosen from, and its clearing times
pub record Given (s : Sheet) (view : SheetView) (chains : Chains) (order starts clearing : List ℕ) : Type 0 where
  pub to_copy : Copies.Ordered s view chains order starts
  pub clearing_in : ClearingIn s clearing
