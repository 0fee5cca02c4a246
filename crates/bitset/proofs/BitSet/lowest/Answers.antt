-- `BitSet::lowest` meets its contract: the words before w are 0. Assumes nothing.
use Rattle.std.proofs.Common.{arith}
use Rattle.bitset.proofs.Numbers.{none_at_all, lowest_in_word}
use Rattle.bitset.proofs.BitSet.lowest.Goals as goal

pub returns-then-word-ne0-clause-lowest : goal.returns-then-word-ne0-clause-lowest
returns-then-word-ne0-clause-lowest g c = lowest_in_word c.self.inside.words _ c.self.view_is c.loop-w.w c.loop-w.invariant c.if-word-ne0.true (omega arith)

pub returns-clause-lowest : goal.returns-clause-lowest
returns-clause-lowest g c = none_at_all c.self.inside.words _ c.self.view_is c.loop-w.w c.loop-w.invariant (omega arith)
