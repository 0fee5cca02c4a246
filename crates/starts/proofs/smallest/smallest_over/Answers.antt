-- `starts::smallest::smallest_over` meets its contract: the smallest over the kinds below h. Assumes nothing.
use Rattle.std.proofs.Common.{◌≡◌, ◌∙◌, arith}
use Rattle.starts.proofs.SmallestOver.{least_all}
use Rattle.starts.proofs.smallest.smallest_over.Goals as goal

pub returns : goal.returns
returns g c = λ s i f r k same.
    let all : c.loop-h.h ≡ 4 = omega arith in
    c.loop-h.invariant s i f k same ∙ rw all (least_all s i f r)
