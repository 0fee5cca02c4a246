-- `layer_exports::layers_write_plan` meets its contract: the rows in use are printed. Assumes nothing.
use Rattle.layer_exports.proofs.layers_write_plan.Goals as goal

pub print-requires-clause-copies_in_bounds : goal.print-requires-clause-copies_in_bounds
print-requires-clause-copies_in_bounds c = rw c.plan_in_use.ensures.text c.requires.copies_in_bounds

pub returns : goal.returns
returns c = rw c.plan_in_use.ensures.text at c.print.ensures
