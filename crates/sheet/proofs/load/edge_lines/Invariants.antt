-- `sheet::load::edge_lines` meets its contract: the edges passed are read and stored. Assumes nothing.
use Rattle.std.specs.Prelude.{Ok}
use Rattle.sheet.specs.Loading.{EdgesRead}
use Rattle.sheet.proofs.load.edge_lines.Given as goal

abbrev pub invariant-loop-e : goal.invariant-loop-e
invariant-loop-e l = EdgesRead l.sheet l.sizes.kinds l.sizes.stages l.e l.ends l.waits (Ok l.place)
