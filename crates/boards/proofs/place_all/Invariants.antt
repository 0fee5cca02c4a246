use Rattle.model.specs.Sheet.{Sheet}
use Rattle.boards.specs.Given.{Keyed}
use Rattle.boards.proofs.Placing.{Placing}
use Rattle.boards.proofs.place_all.Given as goal

abbrev pub invariant-loop-c : goal.invariant-loop-c
invariant-loop-c l = (s : Sheet) → Keyed s l.durations l.clearing l.keys → Placing s l.initial.rows l.rows l.boards l.c
