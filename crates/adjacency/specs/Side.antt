-- The sides of an edge as numbers: its stages are entries 0 and 1 of its two in a table of ends. Assumes nothing.
use Rattle.std.specs.Prelude.{ℕ}
use Rattle.adjacency.specs.declared.Side.{Side}
use Rattle.adjacency.specs.declared.Side.TheVariants.{First, Second}

abbrev pub number : Side → ℕ
number First = 0
number Second = 1
