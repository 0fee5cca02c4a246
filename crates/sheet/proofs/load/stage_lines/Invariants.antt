-- `sheet::load::stage_lines` meets its contract: the stages passed are read and stored. Assumes nothing.
use Rattle.std.specs.Prelude.{Ok}
use Rattle.sheet.specs.Loading.{StagesRead}
use Rattle.sheet.proofs.load.stage_lines.Given as goal

abbrev pub invariant-loop-i : goal.invariant-loop-i
invariant-loop-i l = StagesRead l.sheet l.sizes.kinds l.i l.durations (Ok l.place)
