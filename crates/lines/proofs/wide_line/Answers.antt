-- `lines::wide_line` meets its contract: the numbers after the tag are stored as they are. Assumes nothing.
use Rattle.std.proofs.Common.{arith}
use Rattle.std.proofs.lemmas.List.{map-id}
use Rattle.lines.proofs.Lines.{line_from}
use Rattle.lines.proofs.wide_line.Goals as goal

pub returns-then-tagged : goal.returns-then-tagged
returns-then-tagged c = let n = rw map-id at c.field_numbers.ensures in grind (arith, line_from)
