-- That a number comes back from the set of its kinds, which the model of `KindSet` cites; and what is in the set. Assumes nothing.
use Rattle.std.proofs.Common.{◌≡◌, ℕ, zero, suc, ◌<◌, Bool, ◌&&◌, ◌==◌, nat_eq, refl, sym, ap, ◌∙◌, arith}
use Rattle.std.proofs.lemmas.Nat.Bits.{bit_at-lt}
use Rattle.std.specs.FinSet as finite
use Rattle.std.specs.FinSet.{contains-retain, contains-from_list_nat, nat_cmp-IsAntisymmetric}
use Rattle.std.specs.Int.{bit_at, from_bool}
use Rattle.std.specs.List.{list_any}
use Rattle.kinds.specs.Sets.{in_set, four_kinds, kinds_in, mask_of}

pub in_kinds : (mask h : ℕ) → finite.contains (kinds_in mask) h ≡ (list_any (λ y. nat_eq y h) four_kinds && in_set mask h)
unfolding kinds_in
in_kinds mask h =
    contains-retain (finite.from_list four_kinds) (in_set mask) h (λ x tied. sym (ap (in_set mask) (nat_cmp-IsAntisymmetric h x tied)))
    ∙ ap (λ (b : Bool). b && in_set mask h) (contains-from_list_nat four_kinds h)

from_digit : (d : ℕ) → d < 2 → from_bool (d == 1) ≡ d
from_digit zero _ = refl
from_digit (suc zero) _ = refl
from_digit (suc (suc d)) below = absurd (omega arith)

digit_in : (mask h : ℕ) → from_bool (in_set mask h) ≡ bit_at mask h
unfolding in_set
digit_in mask h = from_digit (bit_at mask h) (bit_at-lt mask h)

-- no number is lost
pub mask_of-kinds_in : (mask : ℕ) → mask < 16 → mask_of (kinds_in mask) ≡ mask
unfolding mask_of
mask_of-kinds_in mask small =
    rw (in_kinds mask 0, in_kinds mask 1, in_kinds mask 2, in_kinds mask 3)
    (rw (digit_in mask 0, digit_in mask 1, digit_in mask 2, digit_in mask 3) (omega arith))
