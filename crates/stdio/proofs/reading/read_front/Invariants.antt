use Rattle.std.proofs.Common.{◌<◌, take}
use Rattle.stdio.specs.Input.{SoFar}
use Rattle.stdio.proofs.reading.read_front.Given as goal

abbrev pub invariant-loop : goal.invariant-loop
invariant-loop l = (l.at < 65001) × SoFar l.counter (take l.at l.buffer)
