-- `sheet::load::store_waits` meets its contract: the rows passed are stored. Assumes nothing.
use mathlib.Core.Path.{◌≡◌}
use Rattle.sheet.specs.Loading.{waits_stored}
use Rattle.sheet.proofs.load.store_waits.Given as goal

abbrev pub invariant-loop-h : goal.invariant-loop-h
invariant-loop-h l = l.waits ≡ waits_stored l.values l.kinds l.edge l.h l.fn.waits
