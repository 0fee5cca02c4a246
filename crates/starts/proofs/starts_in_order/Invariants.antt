use Rattle.std.proofs.Common.{◌≡◌, length}
use Rattle.model.specs.Sheet as Sheet
use Rattle.model.specs.Sheet.{Sheet}
use Rattle.starts.specs.Given.{Ordered}
use Rattle.starts.proofs.FrontTable.{front_table}
use Rattle.starts.proofs.starts_in_order.Given as goal

abbrev pub invariant-loop-j : goal.invariant-loop-j
invariant-loop-j g l =
    (s : Sheet) → Ordered s l.fn.view l.chains l.order → length l.order ≡ Sheet.stages s → l.starts ≡ front_table s l.j-index l.initial.starts
