-- `planner::list::fill` meets its contract: the first records are the copies of the rows passed, and the rest stay. Assumes nothing.
use Rattle.std.proofs.Common.{◌≡◌}
use Rattle.plan_call.specs.Answers.{copy_at}
use Rattle.planner.proofs.list.Filled.{filled}
use Rattle.planner.proofs.list.fill.Given as goal

abbrev pub invariant-loop-c : goal.invariant-loop-c
invariant-loop-c l = l.list ≡ filled (copy_at l.rows) l.c l.initial.list
