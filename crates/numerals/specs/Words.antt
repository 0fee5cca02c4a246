-- A number that a byte ends. Assumes nothing.
use Rattle.std.specs.Prelude.{ℕ, if◌then◌else◌, ◌==◌, Option, None, Some}
use Rattle.numerals.specs.declared.digits.LeadingNumber.{LeadingNumber}

-- a number found, if the byte `stop` ends it
abbrev pub ended_by : ℕ → Option LeadingNumber → Option LeadingNumber
ended_by stop None = None
ended_by stop (Some l) = if l.after == stop then Some l else None
