-- `plan_call::print::print_plan` meets its contract: it measures before it writes. Assumes nothing.
use Rattle.plan_text.proofs.Plans.{printable}
use Rattle.plan_call.proofs.print.print_plan.Goals as goal

pub length-printed-requires : goal.length-printed-requires
length-printed-requires c = printable c.requires.1
