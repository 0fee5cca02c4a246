-- `sheet::load::stage_lines` meets its contract: the stages passed are read and stored. Assumes nothing.
use native.Mathlib.Omega.{arith}
use Rattle.tables.proofs.Entries.{stored_slice}
use Rattle.sheet.proofs.LinesSofar.{stages_more}
use Rattle.sheet.proofs.load.stage_lines.Goals as goal

pub loop-i-preserved : goal.loop-i-preserved
loop-i-preserved c =
    rw (c.store.ensures, stored_slice c.stage_line.new.values 1 c.args.sizes.kinds _ _ (omega arith))
    (stages_more _ _ _ _ _ c.loop-i.invariant c.in_ok-place.ensures (omega arith) (omega arith))
