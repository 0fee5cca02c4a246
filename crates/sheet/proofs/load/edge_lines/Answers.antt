-- `sheet::load::edge_lines` meets its contract: the edges passed are read and stored. Assumes nothing.
use native.Mathlib.Omega.{arith}
use Rattle.tables.proofs.Entries.{stored_front}
use Rattle.sheet.proofs.LinesSofar.{edges_more}
use Rattle.sheet.proofs.load.edge_lines.Goals as goal

pub loop-e-preserved : goal.loop-e-preserved
loop-e-preserved c =
    rw (c.store_waits.ensures, c.store.ensures, stored_front c.edge_line.new.values 2 _ _ (omega arith))
    (edges_more _ _ _ _ _ _ _ c.loop-e.invariant c.in_ok-place.ensures (omega arith) (omega arith) (omega arith))
