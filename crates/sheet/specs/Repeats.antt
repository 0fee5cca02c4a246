-- What looking for a repeated edge reads, and the mark of an edge (SPEC 8.3.6). Assumes nothing.
use Rattle.std.specs.Prelude.{ℕ, ◌+◌, ◌*◌, ◌<◌, ◌≡◌, List}
use Rattle.model.specs.Sheet.{Sheet, InRange, edges, source, target}
use Rattle.model.specs.Held.{EndsIn}

-- the ends of one edge
pub record EdgeGiven (s : Sheet) (e : ℕ) (ends : List ℕ) : Type 0 where
  pub in_range : InRange s
  pub below : e < edges s
  pub ends_in : EndsIn s ends

-- the ends of M edges
pub record EdgesGiven (s : Sheet) (m : ℕ) (ends : List ℕ) : Type 0 where
  pub in_range : InRange s
  pub edges_are : m ≡ edges s
  pub ends_in : EndsIn s ends

-- two edges are equal exactly where their marks are (proofs/Marks.antt, `same_mark`)
unfoldable pub mark : Sheet → ℕ → ℕ
mark s e = 256 * source s e + target s e
