-- `lines::numbers::field_numbers` meets its contract: the numbers read and those that are left are the line's (`Reading`). Assumes nothing.
use Rattle.std.proofs.Common.{length, map}
use Rattle.lines.proofs.FieldNumbers.{Reading}
use Rattle.lines.proofs.numbers.field_numbers.Given as goal

abbrev pub invariant-loop-slot : goal.invariant-loop-slot
invariant-loop-slot g l = Reading l.width l.text l.at (length l.fn.values) (map g.T.Entry.number l.slot-items) l.place l.slot-index
