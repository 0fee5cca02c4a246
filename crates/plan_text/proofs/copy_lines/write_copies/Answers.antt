-- `plan_text::copy_lines::write_copies` meets its contract: the lines of the rows passed are written. Assumes nothing.
use Prim.Native.Nat.{◌<◌, ◌/◌}
use native.Mathlib.Omega.{arith}
use lib.ListN.{length}
use Rattle.text.proofs.Writing.{onward, part_length}
use Rattle.plan_text.specs.Rows.{row_line}
use Rattle.plan_text.proofs.LinesPrinted.{print_more, line_room}
use Rattle.plan_text.proofs.TableRows.{line_alone, row_alone}
use Rattle.plan_text.proofs.copy_lines.write_copies.Goals.{In-loop-row}
use Rattle.plan_text.proofs.copy_lines.write_copies.Goals as goal

pub write_copy-at-requires-clause-row_in : goal.write_copy-at-requires-clause-row_in
write_copy-at-requires-clause-row_in c =
    let i : c.loop-row.row-index < length c.args.rows.now / 4 = omega arith in
    row_alone _ _ c.as_chunks.ensures.front _ i _ (c.requires.by_index _ i)

pub write_copy-at-requires-clause-copy_in_bounds : goal.write_copy-at-requires-clause-copy_in_bounds
write_copy-at-requires-clause-copy_in_bounds c =
    let l = c.loop-row in
    let lines = row_line c.args.durations.now c.args.rows.now in
    let i : l.row-index < length c.args.rows.now / 4 = omega arith in
    rw (line_alone _ _ c.as_chunks.ensures.front _ i _, part_length)
    (omega (arith, line_room lines _ _ i, l.invariant.counted))

pub loop-row-preserved : goal.loop-row-preserved
loop-row-preserved c =
    let l = c.loop-row in
    let i : l.row-index < length c.args.rows.now / 4 = omega arith in
    rw (print_more _ _)
    (onward _ _ _ l.at l.invariant _ _ _ (rw (line_alone _ _ c.as_chunks.ensures.front _ i _) at c.write_copy-at.ensures))
