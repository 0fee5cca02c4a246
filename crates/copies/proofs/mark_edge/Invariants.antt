use Rattle.std.proofs.Common.{◌≤◌}
use Rattle.model.specs.Sheet.{Sheet}
use Rattle.copies.specs.Given.{EdgeGiven}
use Rattle.copies.specs.Marks.{has_in}
use Rattle.copies.proofs.Marking.{PassedTo}
use Rattle.copies.proofs.mark_edge.Given as goal

abbrev pub invariant-loop-k : goal.invariant-loop-k
invariant-loop-k l =
    (l.to ≤ 1020) × ((s : Sheet) → EdgeGiven s l.view l.row l.starts l.e → PassedTo s (has_in l.copied) l.e l.initial.marks l.k l.marks)
