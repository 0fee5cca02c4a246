-- `stdio::system::Errno::from` gives a number of 31 bits. Assumes nothing.
use Rattle.std.proofs.Common.{ℕ, ◌^◌, ◌<◌, ℤ, pos, negsuc, SFits, w32, rules, arith, Result, Ok, Err}
use Rattle.std.proofs.Math.IntN.{nat_abs}
use Rattle.std.proofs.lemmas.Int.{to_z-of_z}
use Rattle.std.specs.Int.{FitsUnsignedBits}
use Rattle.std.specs.Int.Signed.{mag}
use Rattle.std.specs.Result.{OkIff, result_unwrap_or}
use Rattle.stdio.proofs.system.ErrnoFromError.from.Goals as goal

-- a number that is not negative has one bit fewer as an unsigned one
below : {E : Type 0} (r : Result ℕ E) (z : ℤ) (most : ℕ) → OkIff r (FitsUnsignedBits 32 z) (nat_abs z) → mag z < most → result_unwrap_or r 0 < most
below (Ok x) (pos n) most h m = omega (arith, h.1)
below (Ok x) (negsuc n) most h m = absurd h.0
below (Err e) z most h m = omega arith

pub returns : goal.returns
returns c =
    let f : SFits w32 c.unwrap_or-code.result = search rules in
    let h = simp to_z-of_z at c.try_from.ensures in
    rw c.unwrap_or.ensures (below c.try_from.result c.unwrap_or-code.result (2 ^ 31) h f.sfits)
