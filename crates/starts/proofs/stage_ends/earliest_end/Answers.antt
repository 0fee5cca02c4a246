-- `starts::stage_ends::earliest_end` meets its contract: on each kind the sum is the end. Assumes nothing.
use Rattle.std.proofs.Common.{◌+◌, rules}
use Rattle.model.specs.Sheet.{dur}
use Rattle.starts.specs.Entries.{entry}
use Rattle.starts.proofs.Sums.{end_is}
use Rattle.starts.proofs.stage_ends.earliest_end.Goals as goal

pub smallest_over-requires : goal.smallest_over-requires
smallest_over-requires c =
    let p = c.requires in
    (p.0, c.args.i, p.2, λ h t. let e = end_is p.1 h t in search rules)

pub returns : goal.returns
returns c = λ s t k.
    let i = c.args.i in
    c.smallest_over.ensures s i (λ h. entry c.args.starts.now i h + dur s i h) t.in_range k (λ h r has q. let e = end_is t h has in search rules)
