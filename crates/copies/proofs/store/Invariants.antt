use Prim.Native.Nat.{min}
use Rattle.std.specs.Prelude.{◌≡◌}
use Rattle.std.specs.FinSet as finite
use Rattle.model.specs.Held.{bit}
use Rattle.copies.specs.Flags.{row_filled}
use Rattle.copies.proofs.store.Given as goal

abbrev pub invariant-loop-h : goal.invariant-loop-h
invariant-loop-h l = l.copied ≡ row_filled (min l.h l.kinds) l.i (λ h. bit (finite.contains l.chosen h)) l.initial.copied
