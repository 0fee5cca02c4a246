-- What the running order is found from: a sheet's edges in a table of their ends. Assumes nothing.
use Rattle.std.specs.Prelude.{ℕ, ◌≡◌, List}
use Rattle.model.specs.Sheet.{Sheet, InRange, stages, edges}
use Rattle.model.specs.Held.{EndsIn}
use Rattle.adjacency.specs.Adjacency.{Chained}

-- the ends of a sheet's edges, and how many edges there are
pub record EdgesGiven (s : Sheet) (m : ℕ) (ends : List ℕ) : Type 0 where
  pub in_range : InRange s
  pub edges_are : m ≡ edges s
  pub ends_in : EndsIn s ends

-- how many stages too, and the chains of the edges by their first stage
pub record Given (s : Sheet) (m n : ℕ) (ends head prev : List ℕ) : Type 0 where
  pub edges_given : EdgesGiven s m ends
  pub stages_are : n ≡ stages s
  pub chained : Chained ends 0 m n head prev
