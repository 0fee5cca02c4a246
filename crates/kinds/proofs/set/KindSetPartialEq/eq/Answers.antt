-- `==` of `kinds::KindSet` meets its contract: the numbers are the sets'. Assumes nothing.
use Rattle.std.proofs.Common.{arith}
use Rattle.kinds.specs.Masks.{mask_of-kinds_in}
use Rattle.kinds.proofs.set.KindSetPartialEq.eq.Goals as goal

pub returns : goal.returns
returns c = grind (arith, mask_of-kinds_in)
