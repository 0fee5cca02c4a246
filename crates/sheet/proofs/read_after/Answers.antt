-- `sheet::read_after` meets its contract: the clearing times are bad, or the other lines are read. Assumes nothing.
use mathlib.Core.Path.{refl}
use native.Mathlib.Omega.{arith}
use Rattle.judge.proofs.Judging.{first_lines}
use Rattle.sheet.proofs.ReadCall.{sheet_done_by, four_times}
use Rattle.sheet.proofs.read_after.Goals as goal

pub read_lines-requires-clause-first_lines : goal.read_lines-requires-clause-first_lines
read_lines-requires-clause-first_lines c = first_lines c.args.sheet.now c.requires.first_line c.in-Ok.ensures refl

pub returns-in-Ok : goal.returns-in-Ok
returns-in-Ok c =
    let p = c.requires in
    sheet_done_by p.short p.first_line (omega arith) c.in-Ok.ensures (grind (arith, four_times)) c.read_lines.ensures
