use Rattle.std.proofs.Common.{◌≡◌, ◌<◌}
use Rattle.model.specs.Sheet as Sheet
use Rattle.model.specs.Sheet.{Sheet}
use Rattle.copies.specs.Given.{Given}
use Rattle.copies.specs.Marks.{has_in}
use Rattle.copies.proofs.Walks.{Walked}
use Rattle.copies.proofs.stage_kinds.Given as goal

abbrev pub invariant-loop-e : goal.invariant-loop-e
invariant-loop-e l =
    (l.e-iterator.prev.now ≡ l.chains.prev.now)
    × ((s : Sheet) → Given s l.view l.chains l.starts → l.i < Sheet.stages s → Walked s l.view.ends.now (has_in l.copied) l.i l.marks l.e-iterator.at)
