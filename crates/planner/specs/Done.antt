-- What the call `plan` promises (SPEC 8.2, 10). Assumes nothing.
use Rattle.std.specs.Prelude.{ℕ, ◌≡◌, List, Result}
use Rattle.model.specs.Calls.{Buffers, plan_call}
use Rattle.model.specs.Demand.{Demand3}
use Rattle.model.specs.declared.Fault.{Fault}
use Rattle.plan_call.specs.declared.Totals as Code
use Rattle.plan_call.specs.Answers.{plan_answer, done_with}

-- SPEC 10.1, 10.2: the answer and all that is lent are the model's; SPEC 10.3: and so demand 3 holds of them
pub record PlanDone (text : List ℕ) (before after : Buffers) (r : Result Code.Totals Fault) : Type 0 where
  pub called : done_with (plan_answer r) after ≡ plan_call text before
  pub demand : Demand3 text (plan_answer r) after
