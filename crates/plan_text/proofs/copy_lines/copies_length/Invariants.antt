use mathlib.Core.Path.{◌≡◌}
use lib.ListN.{length}
use Rattle.plan_text.specs.Rows.{rows_text}
use Rattle.plan_text.proofs.copy_lines.copies_length.Given as goal

abbrev pub invariant-loop-row : goal.invariant-loop-row
invariant-loop-row l = l.sum ≡ length (rows_text l.durations l.rows l.row-index)
