-- `sheet::commit::read_stages` meets its contract: the T lines are read into a table of its own, and handed over. Assumes nothing.
use mathlib.Core.Path.{refl}
use Rattle.sheet.proofs.Committed.{stages_handed_over}
use Rattle.sheet.proofs.ReadCall.{enough, lines_handed}
use Rattle.sheet.proofs.commit.read_stages.Goals as goal

pub returns : goal.returns
returns c =
    let p = c.requires in
    λ es ws le lw.
    let l = c.in_ok-stages_alone.ensures es ws le lw in
    let handed = stages_handed_over l.held p.no_edges c.args.durations.now c.copy_rows.ensures refl in
    lines_handed p.short _ (enough _ es ws p.in_bounds le lw) l handed
