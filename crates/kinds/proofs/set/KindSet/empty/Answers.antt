-- `kinds::KindSet::empty` meets its contract. Assumes nothing.
use Rattle.kinds.proofs.Sets.{kinds_in-zero}
use Rattle.kinds.proofs.set.KindSet.empty.Goals as goal

pub returns : goal.returns
returns c = kinds_in-zero
