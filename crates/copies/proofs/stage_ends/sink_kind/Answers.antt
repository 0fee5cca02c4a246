-- `copies::stage_ends::sink_kind` meets its contract: the set is that of the kinds that end at the earliest. Assumes nothing.
use Rattle.std.proofs.Common.{◌+◌, ◌==◌, rules}
use Rattle.model.specs.Sheet.{dur}
use Rattle.model.specs.Starts.{start, earliest_end}
use Rattle.model.specs.Copies.{sink_kind}
use Rattle.copies.proofs.Times.{ends_then}
use Rattle.copies.proofs.stage_ends.sink_kind.Goals as goal

pub returns : goal.returns
unfolding sink_kind
returns c = λ s g.
    let i = c.args.i in
    let v = c.row_ends-row.ensures s g in
    let end = c.earliest-end.ensures s i v in
    c.preferred.ensures s i (λ h. start s i h + dur s i h == earliest_end s i)
    (record {
      four = v.acyclic.in_range.kinds_4;
      members = λ h l. let a = c.of.ensures.passes h l in search (rules, ends_then v end h l);
    })
