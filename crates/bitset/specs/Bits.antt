-- The numbers that words of 64 bits have. Assumes nothing.
use Rattle.std.specs.Prelude.{ℕ, zero, suc, ◌*◌, ◌/◌, ◌%◌, Bool, if◌then◌else◌, ◌==◌, List, length, slice_index}
use Rattle.std.specs.FinSet as finite
use Rattle.std.specs.Int.{bit_at}
use Rattle.std.specs.Ordering.{nat_cmp}

-- a set of numbers, 64 in a word: j is one of them
unfoldable pub has : List ℕ → ℕ → Bool
has words j = bit_at (slice_index words (j / 64)) (j % 64) == 1

-- the numbers below n that pass a test
unfoldable pub passing : (ℕ → Bool) → ℕ → finite.FinSet nat_cmp
passing p zero = finite.empty
passing p (suc n) = if p n then finite.insert (passing p n) n else passing p n

-- all numbers of the words
unfoldable pub numbers : List ℕ → finite.FinSet nat_cmp
numbers words = passing (has words) (64 * length words)
