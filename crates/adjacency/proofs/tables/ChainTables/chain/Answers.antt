-- `ChainTables::chain` meets its contract: what is chained can be walked. Assumes nothing.
use Rattle.adjacency.proofs.Adjacency.{fronts_walkable}
use Rattle.adjacency.proofs.tables.ChainTables.chain.Goals as goal

pub invariant_of-self : goal.invariant_of-self
invariant_of-self c = fronts_walkable _ _ _ _ _ _ c.chain.ensures
