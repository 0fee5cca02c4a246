-- `copies::stage_ends::earliest` meets its contract. Assumes nothing.
use Rattle.std.proofs.Common.{◌∙◌}
use Rattle.copies.proofs.Times.{earliest_is}
use Rattle.copies.proofs.stage_ends.earliest.Goals as goal

pub returns : goal.returns
returns c = λ s i v. c.min-3.ensures ∙ rw (c.min-2.ensures, c.min.ensures) (earliest_is v)
