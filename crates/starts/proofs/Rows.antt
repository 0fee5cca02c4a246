-- Laws of a row of the table of starts: the entries of a stage. Assumes nothing.
use Rattle.std.proofs.Common.{◌≡◌, ℕ, ◌+◌, ◌-◌, ◌*◌, ◌/◌, ◌%◌, ◌≤◌, ◌<◌, List, get_or, ◌∙◌, arith}
use Rattle.model.specs.Sheet.{Sheet}
use Rattle.model.specs.Starts.{start_rule}
use Rattle.model.proofs.Tables.{filled_cong}
use Rattle.tables.specs.Entries.{stored}
use Rattle.tables.proofs.Tests.{Says, same, says_lt, says_eq, says_and, says_span}
use Rattle.starts.specs.Entries.{entry, of_row, with_starts}

pub says_row : (s : Sheet) (j x : ℕ) → Says (of_row s j x) ((x / 4 ≡ j) × (x % 4 < s.kinds))
unfolding of_row
says_row s j x = says_and (says_eq (x / 4) j) (says_lt (x % 4) s.kinds)

-- the starts by the rule stored as a row
pub row_stored : (s : Sheet) (j : ℕ) (times old new : List ℕ) {k : ℕ} → k ≡ s.kinds → s.kinds ≤ 4
    → ((h : ℕ) → h < k → get_or times h 0 ≡ start_rule s (entry old) j h) → new ≡ stored times 0 k (4 * j) old → new ≡ with_starts s j old
unfolding stored with_starts
row_stored s j times old new {k} q four e stores =
    stores
    ∙ filled_cong (of_row s j) _ old _ _
    (λ x. same (says_row s j x) (says_span (4 * j) k x) (λ p. omega arith) (λ p. (omega arith, omega arith)))
    (λ x t.
    let p = (says_row s j x).holds t in
    let at : 0 + (x - 4 * j) ≡ x % 4 = omega arith in
    rw at (e (x % 4) (omega arith)))
