-- `sheet::commit::hand_over` meets its contract: what is copied is the sheet's tables, and the first repeat is the sheet's. Assumes nothing.
use Rattle.sheet.proofs.Committed.{edges_given, repeated, unrepeated, handed_over}
use Rattle.sheet.proofs.commit.hand_over.Goals as goal

pub returns-in-Some : goal.returns-in-Some
returns-in-Some c =
    λ s h.
    let answer = repeated h (c.in-Some.ensures s (edges_given h)) in
    handed_over h _ c.copy_rows.ensures c.copy_front.ensures c.copy_blocks.ensures (rw c.edge_line_at.ensures answer)

pub returns-in-None : goal.returns-in-None
returns-in-None c =
    λ s h.
    let answer = unrepeated h (c.in-None.ensures s (edges_given h)) in
    handed_over h _ c.copy_rows.ensures c.copy_front.ensures c.copy_blocks.ensures answer
