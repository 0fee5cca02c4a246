-- `kinds::KindSet::is_empty` meets its contract. Assumes nothing.
use Rattle.kinds.proofs.PreferredKind.{none_in}
use Rattle.kinds.proofs.set.KindSet.is_empty.Goals as goal

pub returns : goal.returns
returns c = rw (← c.self.view_is) (none_in c.self.inside.mask c.self.invariant)
