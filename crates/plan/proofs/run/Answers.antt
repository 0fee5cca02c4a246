-- `plan::run` meets its contract: what was read is answered, and the answer written. Assumes nothing.
use Rattle.std.proofs.Common.{arith}
use Rattle.plan.proofs.Printed.{was_read, printed}
use Rattle.plan.proofs.run.Goals as goal

pub returns : goal.returns
returns c =
    let sheet = c.in_ok-sheet.sheet in
    let read = was_read c.read_input.result c.map_err.result sheet c.read_input.ensures c.map_err.ensures.cases c.in_ok-sheet.was in
    let text = c.answer-printed in
    printed c.args.words (omega arith) sheet.now text.result.now read text.ensures c.write_text.result _ c.write_text.ensures c.map_err-2.ensures.cases
