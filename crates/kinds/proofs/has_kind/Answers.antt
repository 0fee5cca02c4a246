-- `kinds::has_kind` meets its contract. Assumes nothing.
use Rattle.model.specs.Sheet.{has_kind}
use Rattle.kinds.proofs.has_kind.Goals as goal

pub returns : goal.returns
unfolding has_kind
returns c = λ s k i. rw k
