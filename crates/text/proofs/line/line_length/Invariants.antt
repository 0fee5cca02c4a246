use Prim.Native.Nat.{◌+◌, ◌*◌, ◌≤◌}
use mathlib.Core.Path.{◌≡◌}
use lib.ListN.{length, take}
use Rattle.model.specs.Lines.{fields}
use Rattle.text.proofs.line.line_length.Given as goal

abbrev pub invariant-loop-n : goal.invariant-loop-n
invariant-loop-n l = (l.sum ≡ length (fields (take l.n-index l.numbers)) + 2) × (l.sum ≤ 2 + 11 * l.n-index)
