-- `stdio::system::read` marks the call that it makes, with what it answered. Assumes nothing.
use Rattle.std.proofs.Common.{Err}
use Rattle.stdio.specs.System.{has_read}
use Rattle.stdio.proofs.Streams.{moved, failed}
use Rattle.stdio.proofs.system.read.Goals as goal

pub returns-in-Ok : goal.returns-in-Ok
returns-in-Ok g c = moved _ (λ fd. has_read fd c.read.new.buf) _ c.in-Ok.ensures.bound.0

pub returns-in-Err : goal.returns-in-Err
returns-in-Err g c = failed _ (λ fd. has_read fd c.read.new.buf) (Err c.cause.result) c.cause.ensures
