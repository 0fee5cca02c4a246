-- `stdio::reading::read_front` meets its contract: what was read so far is at the front of the buffer. Assumes nothing.
use Rattle.std.proofs.Common.{◌+◌, arith, rules}
use Rattle.stdio.proofs.Fronts.{longer, full}
use Rattle.stdio.proofs.reading.read_front.Goals as goal

pub returns-then-at-eq-INPUT_MAX : goal.returns-then-at-eq-INPUT_MAX
returns-then-at-eq-INPUT_MAX c =
    let l = c.loop in
    let new = c.read_some.new.buffer in
    let so_far = longer l.counter l.at l.buffer new l.invariant.1 c.in-Ok.count (omega arith) c.in-Ok.ensures in
    (search rules, full (l.counter + 1) _ new so_far c.if-at-eq-INPUT_MAX.true (search rules))
