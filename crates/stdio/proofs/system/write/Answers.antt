-- `stdio::system::write` marks the call that it makes, with what it answered. Assumes nothing.
use Rattle.std.proofs.Common.{Err}
use Rattle.stdio.specs.System.{has_written}
use Rattle.stdio.proofs.Streams.{moved, failed}
use Rattle.stdio.proofs.system.write.Goals as goal

pub returns-in-Ok : goal.returns-in-Ok
returns-in-Ok g c = moved _ (λ fd. has_written fd c.args.part.now) _ c.in-Ok.ensures.bound

pub returns-in-Err : goal.returns-in-Err
returns-in-Err g c = failed _ (λ fd. has_written fd c.args.part.now) (Err c.cause.result) c.cause.ensures
