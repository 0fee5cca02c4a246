-- What the answers of this crate say. Assumes nothing.
use Rattle.std.specs.Prelude.{◌≡◌, ℕ, zero, suc, ◌+◌, ◌≤◌, if◌then◌else◌, List, [], ◌∷◌, length, take, nat_le, nat_lt, slice_index, Option, None, Some}
use Rattle.model.specs.Lines.{digit, number}
use Rattle.numerals.specs.declared.digits.LeadingNumber.{LeadingNumber}

-- what a digit counts; a byte that is no digit has a value above 9
pub record DigitValue (b v : ℕ) : Type 0 where
  pub is_digit : digit b ≡ nat_le v 9
  pub counts : v ≤ 9 → v + 48 ≡ b

-- how many digits bytes begin with
abbrev pub digit_count : List ℕ → ℕ
digit_count [] = zero
digit_count (b ∷ bs) = if digit b then suc (digit_count bs) else zero

-- a number of n digits with the place after the byte after them, and that byte
abbrev pub counted : Option ℕ → ℕ → ℕ → Option LeadingNumber
counted None n after = None
counted (Some v) n after = Some (record { value = v; next = n + 1; after = after })

-- the number that bytes begin with, if there is a byte after its digits
unfoldable pub leading_answer : List ℕ → Option LeadingNumber
leading_answer bytes =
    let n = digit_count bytes in
    if nat_lt n (length bytes) then counted (number 7 (take n bytes)) n (slice_index bytes n) else None
