-- `starts::arrivals::arrival_time` meets its contract: from each kind the sum is the arrival. Assumes nothing.
use Rattle.std.proofs.Common.{◌+◌, rules}
use Rattle.model.specs.Sheet.{dur, source, wait}
use Rattle.model.specs.Starts.{arrival}
use Rattle.starts.specs.Entries.{entry}
use Rattle.starts.proofs.Sums.{sum_tabled}
use Rattle.starts.proofs.arrivals.arrival_time.Goals as goal

pub smallest_over-requires : goal.smallest_over-requires
smallest_over-requires c =
    let p = c.requires.edge_tabled in
    (p.0, source p.0 c.args.e, p.1.view_of.kinds_are, λ h t. let e = sum_tabled p.1 c.args.k h c.requires.k_lt_kinds t in search rules)

pub returns : goal.returns
unfolding arrival
returns c = λ s g.
    let a = c.args in
    let i = source s a.e in
    c.smallest_over.ensures s i (λ h. entry a.starts.now i h + dur s i h + wait s a.e h a.k) g.view_of.in_range g.view_of.kinds_are
    (λ h r has q. let e = sum_tabled g a.k h c.requires.k_lt_kinds has in search rules)
