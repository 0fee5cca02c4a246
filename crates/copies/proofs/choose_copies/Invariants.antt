use Rattle.std.proofs.Common.{◌≡◌, List, ◌++◌, length}
use Rattle.model.specs.Sheet.{Sheet}
use Rattle.copies.specs.Given.{Ordered}
use Rattle.copies.proofs.BackTable.{back_table}
use Rattle.copies.proofs.choose_copies.Given as goal

abbrev pub invariant-loop-i : goal.invariant-loop-i
invariant-loop-i l =
    let rest = l.i-iterator.iter.rest.now in
    ((done : List _) × (l.order ≡ rest ++ done))
    × ((s : Sheet) → Ordered s l.view l.chains l.order l.starts → l.copied ≡ back_table s (length rest) l.initial.copied)
