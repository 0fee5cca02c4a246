-- `rackplan::rackplan_plan` meets its contract: `plan`'s, through the struct. Assumes nothing.
use Rattle.rackplan.proofs.Called.{plan_called}
use Rattle.rackplan.proofs.rackplan_plan.Goals as goal

pub returns : goal.returns
returns c = plan_called c.plan.ensures c.into.ensures
