-- A test as a number, 1 or 0: as `bit` in the tables, and as the code has it. Assumes nothing.
use Prim.Native.Nat.{◌≤◌}
use mathlib.Core.Path.{◌≡◌, refl}
use mathlib.Core.Bool.{Bool, true, false}
use native.Mathlib.Omega.{arith}
use lib.Dec.{eqb}
use mir.Val.{bool_byte}
use Rattle.model.specs.Held.{bit}

pub bit_le : (b : Bool) → bit b ≤ 1
bit_le true = omega arith
bit_le false = omega arith

pub bit_is : (b : Bool) → eqb (bit b) 1 ≡ b
bit_is true = refl
bit_is false = refl

pub bit_one : (b : Bool) → bit b ≡ 1 → b ≡ true
bit_one true o = refl
bit_one false o = absurd (omega arith)

pub bit_not_one : (b : Bool) → (bit b ≡ 1 → ⊥) → b ≡ false
bit_not_one true n = absurd (n refl)
bit_not_one false n = refl

pub bit_zero : (b : Bool) → bit b ≡ 0 → b ≡ false
bit_zero true z = absurd (omega arith)
bit_zero false z = refl

pub byte_is : (b : Bool) → bool_byte b ≡ bit b
byte_is true = refl
byte_is false = refl

pub byte_le : (b : Bool) → bool_byte b ≤ 1
byte_le b = rw (byte_is b) (bit_le b)
