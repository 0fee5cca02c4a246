-- Bytes as one number, and the digits in it. Assumes nothing.
use Rattle.std.specs.Prelude.{◌≡◌, ℕ, zero, suc, ◌+◌, ◌*◌, ◌/◌, ◌%◌, ◌≤◌, List, [], ◌∷◌}

-- bytes as one number, the first lowest
abbrev pub word_of : List ℕ → ℕ
word_of [] = 0
word_of (b ∷ bs) = b + 256 * word_of bs

-- the k lowest bytes of a number are digits' values, and it has no others
abbrev pub DigitBytes : ℕ → ℕ → Type 0
DigitBytes zero y = y ≡ 0
DigitBytes (suc k) y = (y % 256 ≤ 9) × DigitBytes k (y / 256)

-- the number that they denote, the lowest first, after those that denote v
abbrev pub decimal_of : ℕ → ℕ → ℕ → ℕ
decimal_of zero v y = v
decimal_of (suc k) v y = decimal_of k (10 * v + y % 256) (y / 256)
