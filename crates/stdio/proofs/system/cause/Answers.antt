-- `stdio::system::cause` marks the number that it gives. Assumes nothing.
use Rattle.std.proofs.Common.{pos}
use Rattle.stdio.specs.System.{errno_was}
use Rattle.stdio.proofs.system.cause.Goals as goal

pub returns : goal.returns
returns c = errno_was (pos c.into.result.0) c.into.ensures
