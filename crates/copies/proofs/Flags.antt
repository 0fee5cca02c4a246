-- Laws of the flags in a stage's row of the table of copies. Assumes nothing.
use Rattle.std.proofs.Common.{◌≡◌, ℕ, ◌+◌, ◌*◌, ◌/◌, ◌%◌, ◌<◌, Bool, true, false, ◌&&◌, ◌==◌, nat_le, nat_lt, List, length, set}
use Rattle.std.proofs.Common.{refl, ap, arith, eqb-true, eq-eqb, ltb-true, lt-ltb, le-ltb}
use mathlib.Core.Bool.{and-false}
use Rattle.std.proofs.lemmas.Bool.Decides.{nat_tests}
use Rattle.std.specs.Int.{from_bool}
use Rattle.model.specs.Held.{bit}
use Rattle.model.proofs.Bit.{byte_is}
use Rattle.model.proofs.Bounded.{and_left, and_right, and_both}
use Rattle.model.proofs.Tables.{filled_none, filled_cong, filled_more}
use Rattle.copies.specs.Flags.{row_filled}

-- tests

pub and_where : (a : Bool) {b c : Bool} → (a ≡ true → b ≡ c) → (a && b) ≡ (a && c)
and_where true f = f refl
and_where false f = refl

-- below h + 1 is below h, or h
below_one_more : (h x : ℕ) → (x ≡ h → ⊥) → nat_lt x (h + 1) ≡ nat_lt x h
below_one_more h x n = grind (arith, nat_tests)

-- from h on is h, or from h + 1 on
pub from_one_more : (h x : ℕ) → (x ≡ h → ⊥) → nat_le h x ≡ nat_le (h + 1) x
from_one_more h x n = grind (arith, nat_tests)

-- a stage's row

pub in_row : (i k x : ℕ) → (x / 4 == i && nat_lt (x % 4) k) ≡ true → (x / 4 ≡ i) × (x % 4 < k)
in_row i k x t = (eqb-true (x / 4) i (and_left (x / 4 == i) _ t), ltb-true (x % 4) k (and_right (x / 4 == i) _ t))

module _ (i : ℕ) (flag : ℕ → ℕ) (old : List ℕ) where
  pub row_none : row_filled 0 i flag old ≡ old
  unfolding row_filled
  row_none = filled_none (λ x. x / 4 == i && nat_lt (x % 4) 0) _ old (λ x. rw (le-ltb (x % 4) 0 (omega arith)) (and-false (x / 4 == i)))

  row_more : (h : ℕ) → h < 4 → 4 * i + h < length old → set (row_filled h i flag old) (4 * i + h) (flag h) ≡ row_filled (h + 1) i flag old
  unfolding row_filled
  row_more h l b =
      filled_more _ _ old (λ x. x / 4 == i && nat_lt (x % 4) h) (4 * i + h) (flag h) b (ap flag (omega arith))
      (and_both ((4 * i + h) / 4 == i) (nat_lt ((4 * i + h) % 4) (h + 1)) (eq-eqb ((4 * i + h) / 4) i (omega arith))
      (lt-ltb ((4 * i + h) % 4) (h + 1) (omega arith)))
      (λ x n. and_where (x / 4 == i) (λ t. let q = eqb-true (x / 4) i t in below_one_more h (x % 4) (λ e. n (omega arith))))

  -- stored as a byte of the flag's test
  pub row_stored : (h : ℕ) (b : Bool) → bit b ≡ flag h → h < 4 → 4 * i + h < length old
      → set (row_filled h i flag old) (4 * i + h) (from_bool b) ≡ row_filled (h + 1) i flag old
  row_stored h b e l r = rw (byte_is b, e) (row_more h l r)

  pub row_same : (k : ℕ) (flag₁ : ℕ → ℕ) → ((h : ℕ) → h < k → flag₁ h ≡ flag h) → row_filled k i flag₁ old ≡ row_filled k i flag old
  unfolding row_filled
  row_same k flag₁ e = filled_cong _ _ old _ _ (λ x. refl) (λ x t. e (x % 4) (in_row i k x t).1)
