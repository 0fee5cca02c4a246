-- `kinds::KindSet::of` meets its contract: the sum of four answers. Assumes nothing.
use Rattle.kinds.proofs.Sets.{below_4, from_four, in_sum}
use Rattle.kinds.proofs.set.KindSet.of.Goals as goal

pub returns-clause-few : goal.returns-clause-few
returns-clause-few g c = λ h l. from_four _ h l

pub returns-clause-passes : goal.returns-clause-passes
returns-clause-passes g c =
    let digits = in_sum c.test.result c.test-2.result c.test-3.result c.test-4.result in
    rw (c.from.ensures, c.from-2.ensures, c.from-3.ensures, c.from-4.ensures)
    (below_4 _ (rw digits.0 c.test.ensures) (rw digits.1 c.test-2.ensures) (rw digits.2 c.test-3.ensures) (rw digits.3 c.test-4.ensures))
