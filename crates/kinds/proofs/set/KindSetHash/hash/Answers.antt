-- `Hash` of `kinds::KindSet` meets its contract: the number is the set's. Assumes nothing.
use Rattle.std.proofs.Common.{arith}
use Rattle.kinds.specs.Masks.{mask_of-kinds_in}
use Rattle.kinds.proofs.set.KindSetHash.hash.Goals as goal

pub returns : goal.returns
returns g c = grind (arith, mask_of-kinds_in)
