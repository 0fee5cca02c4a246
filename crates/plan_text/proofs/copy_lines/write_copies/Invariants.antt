use Rattle.text.specs.Writing.{Written}
use Rattle.plan_text.specs.Rows.{rows_text}
use Rattle.plan_text.proofs.copy_lines.write_copies.Given as goal

abbrev pub invariant-loop-row : goal.invariant-loop-row
invariant-loop-row l = Written (rows_text l.durations l.rows l.row-index) l.initial.out l.out l.at
