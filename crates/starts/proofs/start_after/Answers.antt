-- `starts::start_after` meets its contract. Assumes nothing.
use Rattle.std.proofs.Common.{refl}
use Rattle.model.specs.Starts.{start_after}
use Rattle.starts.proofs.start_after.Goals as goal

pub returns : goal.returns
unfolding start_after
returns c = λ s j k. refl
