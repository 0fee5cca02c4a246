-- `plan_text::copy_lines::copies_length` meets its contract: the lines of the rows passed are counted. Assumes nothing.
use Prim.Native.Nat.{◌<◌, ◌/◌}
use native.Mathlib.Omega.{arith}
use mathlib.Core.Path.{◌≡◌}
use lib.ListN.{length}
use Rattle.model.specs.Lines.{print_line}
use Rattle.plan_text.specs.Rows.{row_line}
use Rattle.plan_text.proofs.LinesPrinted.{print_more_length, line_room}
use Rattle.plan_text.proofs.TableRows.{line_alone, row_alone}
use Rattle.plan_text.proofs.copy_lines.copies_length.Goals.{After-copy_length-sum}
use Rattle.plan_text.proofs.copy_lines.copies_length.Goals as goal

pub copy_length-sum-requires : goal.copy_length-sum-requires
copy_length-sum-requires c =
    let i : c.loop-row.row-index < length c.args.rows.now / 4 = omega arith in
    row_alone _ _ c.as_chunks.ensures.front _ i _ (c.requires.by_index _ i)

-- the line of this row is counted
counted : (c : After-copy_length-sum) → c.copy_length-sum.result ≡ length (print_line (row_line c.args.durations.now c.args.rows.now c.loop-row.row-index))
counted c =
    let i : c.loop-row.row-index < length c.args.rows.now / 4 = omega arith in
    rw (line_alone _ _ c.as_chunks.ensures.front _ i _) at c.copy_length-sum.ensures

pub overflow_add-sum : goal.overflow_add-sum
overflow_add-sum c =
    let lines = row_line c.args.durations.now c.args.rows.now in
    omega (arith, counted c, line_room lines (length c.args.rows.now / 4) c.loop-row.row-index (omega arith))

pub loop-row-preserved : goal.loop-row-preserved
loop-row-preserved c =
    let lines = row_line c.args.durations.now c.args.rows.now in
    omega (arith, counted c, print_more_length lines c.loop-row.row-index)
