-- Links of chains that lead to lower edges alone, so that each walk of a chain ends. Assumes nothing.
use Rattle.std.specs.Prelude.{ℕ, ◌<◌, ◌≤◌, List, length, take, slice_index}

-- the link of edge e is 1 + a lower edge, or 0
abbrev pub IsFalling : List ℕ → Type 0
IsFalling prev = (e : ℕ) → e < length prev → slice_index prev e ≤ e

-- so are those of the edges below m, whatever stands behind them
abbrev pub FallsTo : ℕ → List ℕ → Type 0
FallsTo m prev = (e : ℕ) → e < m → slice_index prev e ≤ e

-- each walk starts at an edge that has a link, or nowhere
abbrev pub StartsWithin : List ℕ → List ℕ → Type 0
StartsWithin head prev = (j : ℕ) → j < length head → slice_index head j ≤ length prev

-- each walk ends: it starts at an edge that has a link, or nowhere, and from there on its links fall. What stands behind in a table of links is not walked
abbrev pub WalksEnd : List ℕ → List ℕ → Type 0
WalksEnd head prev = (j : ℕ) → j < length head → (slice_index head j ≤ length prev) × FallsTo (slice_index head j) prev

-- what is in use of the two tables: an entry for each stage, and one for each edge
pub record Fronts : Type 0 where
  pub head : List ℕ
  pub prev : List ℕ

-- the tables have these entries, and they can be walked
pub record Walkable (stages edges : ℕ) (head prev : List ℕ) : Type 0 where
  pub stages_room : stages ≤ length head
  pub edges_room : edges ≤ length prev
  pub falling : IsFalling (take edges prev)
  pub starts_within : StartsWithin (take stages head) (take edges prev)
