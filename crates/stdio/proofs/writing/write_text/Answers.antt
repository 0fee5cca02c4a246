-- `stdio::writing::write_text` meets its contract: what was written so far is the front of the text. Assumes nothing.
use Rattle.std.proofs.Common.{refl}
use Rattle.stdio.specs.Output.{nothing_written}
use Rattle.stdio.proofs.writing.write_text.Goals as goal

pub loop-rest-init : goal.loop-rest-init
loop-rest-init c = record { at = 0; front = nothing_written; is_rest = refl }
