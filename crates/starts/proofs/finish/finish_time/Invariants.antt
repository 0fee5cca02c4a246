use Rattle.std.proofs.Common.{◌≡◌}
use Rattle.model.specs.Bounded.{largest}
use Rattle.model.specs.Sheet.{Sheet}
use Rattle.model.specs.Starts.{earliest_end}
use Rattle.starts.specs.Given.{Started}
use Rattle.starts.proofs.finish.finish_time.Given as goal

abbrev pub invariant-loop-i : goal.invariant-loop-i
invariant-loop-i l =
    (s : Sheet) → Started s l.kinds l.durations l.stages l.starts → l.last ≡ largest l.i (earliest_end s)
