-- Chains of the edges of a table of ends, by their first or by their second stage. Assumes nothing.
use Rattle.std.specs.Prelude.{ℕ, zero, suc, ◌+◌, ◌*◌, ◌≤◌, ◌<◌, ◌≡◌, cond, List, length, get_or, eqb}

-- a stage of edge e: its first on side 0, its second on side 1
abbrev pub edge_stage : List ℕ → ℕ → ℕ → ℕ
edge_stage ends side e = get_or ends (2 * e + side) 0

-- one more than the last edge below e that has stage j on this side; 0 where none has
abbrev pub last_before : List ℕ → ℕ → ℕ → ℕ → ℕ
last_before ends side zero j = 0
last_before ends side (suc e) j = cond (eqb (edge_stage ends side e) j) (suc e) (last_before ends side e j)

-- the first m edges of a table have stages below n
pub record EndsBelow (m n : ℕ) (ends : List ℕ) : Type 0 where
  pub room : 2 * m ≤ length ends
  pub below : (e side : ℕ) → e < m → side ≤ 1 → edge_stage ends side e < n

-- `head` has each stage's last edge, and `prev` for each edge the last one below it with the same stage on this side
pub record Chained (ends : List ℕ) (side m n : ℕ) (head prev : List ℕ) : Type 0 where
  pub head_room : n ≤ length head
  pub prev_room : m ≤ length prev
  pub heads : (j : ℕ) → j < n → get_or head j 0 ≡ last_before ends side m j
  pub prevs : (e : ℕ) → e < m → get_or prev e 0 ≡ last_before ends side e (edge_stage ends side e)
