-- Tables with new entries (SPEC 2.3). Assumes nothing.
use Rattle.std.specs.Prelude.{ℕ, ◌+◌, ◌-◌, ◌/◌, ◌%◌, Bool, ◌&&◌, List, get_or, leb, ltb}
use Rattle.model.specs.Tables.{filled}

-- `count` of the values, from one on, at a place of a table
unfoldable pub stored : List ℕ → ℕ → ℕ → ℕ → List ℕ → List ℕ
stored values from count at old = filled (λ x. leb at x && ltb x (at + count)) (λ x. get_or values (from + (x - at)) 0) old

-- another table's entries, where they are used
unfoldable pub copied : (ℕ → Bool) → List ℕ → List ℕ → List ℕ
copied used source old = filled used (λ x. get_or source x 0) old

-- SPEC 2.1.1: the entries of the kinds, in some rows of four
unfoldable pub in_rows : ℕ → ℕ → ℕ → ℕ → Bool
in_rows first rows kinds x = leb first (x / 4) && (ltb (x / 4) (first + rows) && ltb (x % 4) kinds)

-- SPEC 2.1.3: the entries of the kinds, in the first blocks of four rows
unfoldable pub in_blocks : ℕ → ℕ → ℕ → Bool
in_blocks blocks kinds x = ltb (x / 16) blocks && (ltb (x % 16 / 4) kinds && ltb (x % 4) kinds)
