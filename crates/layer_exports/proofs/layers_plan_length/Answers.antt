-- `layer_exports::layers_plan_length` meets its contract: the rows in use are measured. Assumes nothing.
use Rattle.std.proofs.Common.{ap, ◌∙◌, length}
use Rattle.layer_exports.proofs.layers_plan_length.Goals as goal

pub returns : goal.returns
returns c = c.length.ensures ∙ ap length c.plan_in_use.ensures.text
