-- `copies::marks::Marks::chosen` meets its contract: a set that is not empty has a preferred kind. Assumes nothing.
use Rattle.std.proofs.Common.{rules}
use Rattle.kinds.proofs.PreferredKind.{some_preferred}
use Rattle.copies.specs.Marks.{chosen_of}
use Rattle.copies.proofs.marks.Marks.chosen.Goals as goal

pub returns-then-is_empty : goal.returns-then-is_empty
unfolding chosen_of
returns-then-is_empty c = λ s i missed picked m h l. rw (some_preferred m.serving c.is_empty.ensures, c.if-is_empty.true) (m.picking h l)

pub returns-else-is_empty : goal.returns-else-is_empty
unfolding chosen_of
returns-else-is_empty c = λ s i missed picked m h l.
    rw (some_preferred m.serving c.is_empty.ensures, c.if-is_empty.false) (search rules)
