-- `plan_text::TabledPlan::print` meets its contract: the first line, and the lines of all copies from there. Assumes nothing.
use Rattle.text.proofs.Writing.{onward}
use Rattle.plan_text.proofs.Plans.{tabled_parts}
use Rattle.plan_text.proofs.TabledPlan.print.Goals as goal

pub returns : goal.returns
returns c =
    let head = c.write_head-at in
    rw tabled_parts (onward _ _ _ head.result head.ensures _ _ _ c.write_copies.ensures)
