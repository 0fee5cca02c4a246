-- `|` of `kinds::KindSet` meets its contract. Assumes nothing.
use Rattle.std.proofs.Common.{◌∙◌, ap₂}
use Rattle.std.proofs.lemmas.Nat.{or_lt}
use Rattle.std.specs.FinSet as finite
use Rattle.kinds.proofs.Sets.{kinds_in-or}
use Rattle.kinds.proofs.set.KindSetBitOr.bitor.Goals as goal

pub invariant_of-result : goal.invariant_of-result
invariant_of-result c = or_lt 4 _ _ c.self.invariant c.other.invariant

pub returns : goal.returns
returns c = kinds_in-or c.self.inside.mask c.other.inside.mask ∙ ap₂ finite.union c.self.view_is c.other.view_is
