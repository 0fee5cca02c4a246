-- `schedule::place_copies` meets its contract: the copies that are chosen get their boards. Assumes nothing.
use Rattle.std.proofs.Common.{ℕ, arith}
use Rattle.std.proofs.lemmas.List.{length-replicate}
use Rattle.model.specs.Sheet.{Sheet}
use Rattle.model.specs.Held.{CopiesIn}
use Rattle.schedule.specs.Given.{Given}
use Rattle.schedule.proofs.Layers.{copies_after, to_place}
use Rattle.schedule.proofs.place_copies.Goals.{After-choose_copies}
use Rattle.schedule.proofs.place_copies.Goals as goal

pub choose_copies-requires-clause-ordered : goal.choose_copies-requires-clause-ordered
choose_copies-requires-clause-ordered c = let (s, g) = c.requires.given in (s, g.to_copy)

copied : (c : After-choose_copies) (s : Sheet) → Given s c.args.view.now c.args.chains.now c.args.order.now c.args.starts.now c.args.clearing
    → CopiesIn s c.choose_copies.new.copied
copied c s g = copies_after g.to_copy.given.view_of.in_range _ (omega (arith, length-replicate {A = ℕ} 1024 0)) (c.choose_copies.ensures s g.to_copy)

pub assign_boards-requires-clause-given : goal.assign_boards-requires-clause-given
assign_boards-requires-clause-given c =
    let (s, g) = c.requires.given in
    (s, to_place g (copied (goal.at.assign_boards-requires-clause-given c).After-choose_copies s g))

pub returns : goal.returns
returns c = λ s g. c.assign_boards.ensures s (to_place g (copied (goal.at.returns c).After-choose_copies s g))
