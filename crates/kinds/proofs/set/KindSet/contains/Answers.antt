-- `kinds::KindSet::contains` meets its contract: a kind's digit. Assumes nothing.
use Rattle.std.proofs.Common.{sym}
use Rattle.std.proofs.lemmas.Nat.Bits.{shr_and_one}
use Rattle.kinds.specs.Sets.{in_set}
use Rattle.kinds.proofs.Sets.{in_four}
use Rattle.kinds.proofs.set.KindSet.contains.Goals as goal

pub returns : goal.returns
unfolding in_set
returns c =
    let mask = c.self.inside.mask in
    rw (shr_and_one mask c.args.h, ← c.self.view_is) (sym (in_four mask c.args.h c.requires))
