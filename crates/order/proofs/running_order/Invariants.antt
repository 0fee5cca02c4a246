use Rattle.std.proofs.Common.{◌++◌, drop}
use Rattle.model.specs.Sheet.{Sheet}
use Rattle.order.specs.Given.{Given}
use Rattle.order.proofs.Running.{Running}
use Rattle.order.proofs.running_order.Given as goal

abbrev pub invariant-loop-slot : goal.invariant-loop-slot
invariant-loop-slot l =
    (s : Sheet) → Given s l.edges l.stages l.ends l.chains.head.now l.chains.prev.now
    → Running s l.fn.order l.search (l.slot-items ++ drop l.stages l.fn.order) l.slot-index
