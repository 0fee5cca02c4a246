use Rattle.adjacency.specs.Adjacency.{Chained}
use Rattle.adjacency.specs.Side.{number}
use Rattle.adjacency.proofs.chain.Given as goal

abbrev pub invariant-loop-e : goal.invariant-loop-e
invariant-loop-e l = Chained l.ends (number l.side) l.e l.stages l.head l.prev
