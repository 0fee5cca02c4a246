-- When a copy's board is free again, by the numbers in the tables: the model's `freed`, which is opened here alone. Assumes nothing.
use Prim.Native.Nat.{ℕ, ◌+◌, ◌*◌, ◌≤◌, ◌<◌}
use mathlib.Core.Path.{◌≡◌, ap₂}
use mathlib.Core.List.{List}
use native.Mathlib.Omega.{arith}
use lib.ListN.{get_or}
use Rattle.model.specs.Sheet.{Sheet, stages}
use Rattle.model.specs.declared.Copy.{Copy}
use Rattle.model.specs.Plans.{end, freed}
use Rattle.model.specs.Held.{Acyclic}
use Rattle.model.proofs.Starts.{end_le}
use Rattle.model.proofs.Boards.{Ours}
use Rattle.model.proofs.Held.{ranked_of}
use Rattle.boards.specs.Given.{CopyGiven}

module _ {s : Sheet} {c : Copy} {ds gs : List ℕ} {i h t : ℕ} (g : CopyGiven s c ds gs i h t) where
  end_is : t + get_or ds (4 * i + h) 0 ≡ end s c
  unfolding end
  end_is = rw (g.stage_is, g.kind_is) (ap₂ ◌+◌ g.start_is (g.durations_in.entries c.stage c.kind g.stage_below g.kind_below))

  pub freed_is : t + get_or ds (4 * i + h) 0 + get_or gs h 0 ≡ freed s c
  unfolding freed
  freed_is = ap₂ ◌+◌ end_is (rw g.kind_is (g.clearing_in.entries c.kind g.kind_below))

  pub start_fits : t < 4294967296
  start_fits = omega (arith, freed_is, g.freed_fits)

-- of our copies
pub freed_le : {s : Sheet} → Acyclic s → {c : Copy} → Ours s (stages s) c → freed s c ≤ 512000000
unfolding freed end
freed_le {s} a {c} o =
    let ends = end_le s (ranked_of a) a.in_range c.stage c.kind o.stage_below o.kind_below in
    omega (arith, o.at_start, ends, a.in_range.clear_to c.kind o.kind_below)
