-- `text::line::write_fields` meets its contract: the fields of the numbers passed are written. Assumes nothing.
use native.Mathlib.Omega.{arith}
use Rattle.text.proofs.Writing.{onward}
use Rattle.text.proofs.Lines.{fields_more}
use Rattle.text.proofs.line.write_fields.Goals as goal

pub loop-n-preserved : goal.loop-n-preserved
loop-n-preserved c =
    let l = c.loop-n in
    rw (fields_more c.args.numbers.now l.n-index (omega arith)) (onward _ _ _ l.at l.invariant _ _ _ c.write_field-at.ensures)
