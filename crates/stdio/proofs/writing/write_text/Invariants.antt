use Rattle.std.proofs.Common.{length}
use Rattle.stdio.proofs.Fronts.{Left}
use Rattle.stdio.proofs.writing.write_text.Given as goal

abbrev pub invariant-loop-rest : goal.invariant-loop-rest
invariant-loop-rest l = Left l.text l.rest

abbrev pub decreases-loop-rest : goal.decreases-loop-rest
decreases-loop-rest l = length l.rest
