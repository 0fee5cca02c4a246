use Rattle.std.proofs.Common.{◌≡◌, length}
use Rattle.model.specs.Sheet.{Sheet}
use Rattle.starts.specs.Given.{StageGiven}
use Rattle.starts.proofs.AlongChain.{Reached}
use Rattle.starts.proofs.inputs.Given as goal

abbrev pub invariant-loop-e : goal.invariant-loop-e
invariant-loop-e l = record {
  four : length l.times ≡ 4;
  prev : l.e-iterator.prev.now ≡ l.chains.prev.now;
  reached : (s : Sheet) → StageGiven s l.view l.chains l.starts l.j → Reached s l.view l.starts l.j l.times l.e-iterator.at;
}
