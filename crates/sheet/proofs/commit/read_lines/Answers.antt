-- `sheet::commit::read_lines` meets its contract: the lines are read into tables of its own, and handed over. Assumes nothing.
use Rattle.sheet.proofs.ReadCall.{lines_handed}
use Rattle.sheet.proofs.commit.read_lines.Goals as goal

pub returns : goal.returns
returns c =
    let l = c.in_ok-lines_after.ensures in
    lines_handed c.requires.short _ c.requires.long_enough l (c.hand_over.ensures l.sheet l.held)
