-- The table of starts while it is filled (SPEC 2.1.4, 3.2). Assumes nothing.
use Rattle.std.specs.Prelude.{ℕ, ◌+◌, ◌*◌, ◌/◌, ◌%◌, Bool, ◌&&◌, List, get_or, ltb, eqb}
use Rattle.model.specs.Sheet.{Sheet}
use Rattle.model.specs.Starts.{start_rule}
use Rattle.model.specs.Tables.{filled}

-- SPEC 2.1.4: the start of stage i on kind h
abbrev pub entry : List ℕ → ℕ → ℕ → ℕ
entry starts i h = get_or starts (4 * i + h) 0

-- the entries of stage j
unfoldable pub of_row : Sheet → ℕ → ℕ → Bool
of_row s j x = eqb (x / 4) j && ltb (x % 4) s.kinds

-- the table with the starts of stage j by the rule; the other entries are kept
unfoldable pub with_starts : Sheet → ℕ → List ℕ → List ℕ
with_starts s j starts = filled (of_row s j) (λ x. start_rule s (entry starts) j (x % 4)) starts
