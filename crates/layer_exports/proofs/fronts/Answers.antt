-- `layer_exports::fronts` meets its contract: the front of the heads is chained, and can be walked. Assumes nothing.
use Rattle.adjacency.proofs.Adjacency.{chained_front, walks_end}
use Rattle.layer_exports.proofs.fronts.Goals as goal

pub new-requires : goal.new-requires
new-requires c = walks_end _ _ _ _ _ _ c.requires.3

pub returns : goal.returns
returns c = λ ends side m h. rw (c.new.ensures.head, c.new.ensures.prev) (chained_front _ _ _ _ _ _ h)
