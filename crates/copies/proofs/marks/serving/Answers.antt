-- `copies::marks::serving` meets its contract: kind by kind. Assumes nothing.
use Rattle.std.proofs.Common.{rules}
use Rattle.copies.proofs.marks.serving.Goals as goal

pub returns : goal.returns
returns c = λ s g q.
    record {
      four = g.ends_of.acyclic.in_range.kinds_4;
      members = λ h l. let a = c.of.ensures.passes h l in search rules;
    }
