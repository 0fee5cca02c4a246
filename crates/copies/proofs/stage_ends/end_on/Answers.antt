-- `copies::stage_ends::end_on` meets its contract: the tables have room for a kind that the stage has. Assumes nothing.
use Rattle.std.proofs.Common.{rules}
use Rattle.copies.proofs.Times.{end_tabled}
use Rattle.copies.proofs.stage_ends.end_on.Goals as goal

pub end_time-requires : goal.end_time-requires
end_time-requires c = search (rules, end_tabled c.requires.1 c.args.h)
