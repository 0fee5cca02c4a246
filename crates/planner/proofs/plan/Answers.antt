-- `planner::plan` meets its contract: the plain tables are the model's, and their rows go to the list. Assumes nothing.
use Rattle.planner.proofs.Done.{plan_done}
use Rattle.planner.proofs.plan.Goals as goal

pub returns : goal.returns
returns c = plan_done c.plan_tables-done.ensures c.fill.ensures
