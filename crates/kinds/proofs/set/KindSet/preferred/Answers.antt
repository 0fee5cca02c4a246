-- `kinds::KindSet::preferred` meets its contract: the lowest digit that is 1. Assumes nothing.
use Rattle.kinds.proofs.PreferredKind.{preferred_alone}
use Rattle.kinds.proofs.set.KindSet.preferred.Goals as goal

pub returns : goal.returns
returns c = λ s i p u. preferred_alone c.self.inside.mask c.self.invariant (rw c.self.view_is u)
