-- Sets of kinds as numbers, with a binary digit for each of four kinds. Assumes nothing.
use Rattle.std.specs.Prelude.{◌≡◌, ℕ, ◌+◌, ◌*◌, ◌≤◌, ◌<◌, Bool, ◌&&◌, ◌==◌, List, [], ◌∷◌}
use Rattle.std.specs.FinSet as finite
use Rattle.std.specs.Int.{bit_at, from_bool}
use Rattle.std.specs.Ordering.{nat_cmp}
use Rattle.model.specs.Sheet.{Sheet, has_kind}

-- kind h is in a set where binary digit h is 1
unfoldable pub in_set : ℕ → ℕ → Bool
in_set mask h = bit_at mask h == 1

abbrev pub four_kinds : List ℕ
four_kinds = 0 ∷ 1 ∷ 2 ∷ 3 ∷ []

unfoldable pub kinds_in : ℕ → finite.FinSet nat_cmp
kinds_in mask = finite.retain (finite.from_list four_kinds) (in_set mask)

-- back to the number
unfoldable pub mask_of : finite.FinSet nat_cmp → ℕ
mask_of s = let digit : ℕ → ℕ = λ h. from_bool (finite.contains s h) in digit 0 + 2 * digit 1 + 4 * digit 2 + 8 * digit 3

-- of at most four kinds, the set of those that stage i has and that pass the test p
pub record KindsOf (s : Sheet) (i : ℕ) (p : ℕ → Bool) (kinds : finite.FinSet nat_cmp) : Type 0 where
  pub four : s.kinds ≤ 4
  pub members : (h : ℕ) → h < 4 → finite.contains kinds h ≡ (has_kind s i h && p h)
