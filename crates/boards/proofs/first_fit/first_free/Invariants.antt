use Rattle.std.proofs.Common.{ℕ, ◌<◌, get_or}
use Rattle.boards.proofs.first_fit.first_free.Given as goal

abbrev pub invariant-loop-b : goal.invariant-loop-b
invariant-loop-b l = (j : ℕ) → j < l.b → l.start < get_or l.ends j 0
