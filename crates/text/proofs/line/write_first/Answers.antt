-- `text::line::write_first` meets its contract: the tag, and the digits from there. Assumes nothing.
use native.Mathlib.Omega.{arith}
use Rattle.std.proofs.lemmas.Grind.{common_steps}
use Rattle.text.proofs.Writing.{onward}
use Rattle.text.proofs.line.write_first.Goals as goal

pub returns : goal.returns
returns c = onward _ c.args.out.now _ 2 (grind (arith, common_steps)) _ _ _ c.write_number.ensures
