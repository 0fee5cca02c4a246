-- `&` of `kinds::KindSet` meets its contract. Assumes nothing.
use Rattle.std.proofs.Common.{◌∙◌, ap₂}
use Rattle.std.specs.FinSet as finite
use Rattle.kinds.proofs.Sets.{kinds_in-and}
use Rattle.kinds.proofs.set.KindSetBitAnd.bitand.Goals as goal

pub returns : goal.returns
returns c = kinds_in-and c.self.inside.mask c.other.inside.mask ∙ ap₂ finite.intersection c.self.view_is c.other.view_is
