-- `sheet::repeats::first_repeat` meets its contract: no edge passed repeats one, and the set has their marks. Assumes nothing.
use Rattle.model.specs.Sheet.{Sheet}
use Rattle.sheet.specs.Repeats.{EdgesGiven}
use Rattle.sheet.proofs.Marks.{Passed}
use Rattle.sheet.proofs.repeats.first_repeat.Given as goal

abbrev pub invariant-loop-e : goal.invariant-loop-e
invariant-loop-e l = (s : Sheet) → EdgesGiven s l.edges l.ends → Passed s l.e l.seen
