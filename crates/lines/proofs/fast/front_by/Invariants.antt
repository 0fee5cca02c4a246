-- `lines::fast::front_by` meets its contract: each number in front is its field's, so the numbers read and those that are left are the line's
-- (`Pass`). Assumes nothing.
use Rattle.std.proofs.Common.{length}
use Rattle.lines.proofs.FastNumbers.{Pass}
use Rattle.lines.proofs.fast.front_by.Given as goal

abbrev pub invariant-loop-slot : goal.invariant-loop-slot
invariant-loop-slot g l = Pass l.text l.at (length l.fn.values) l.slot-items l.rest l.slot-index
