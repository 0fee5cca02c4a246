-- The numbers of a line, if the pass found them: of at most seven digits each. Assumes nothing.
use Rattle.std.specs.Prelude.{ℕ, List, Option, None, Some}
use Rattle.lines.specs.Numbers.{NumbersTo}

-- where there is no answer, nothing is said
abbrev pub front_read : List ℕ → ℕ → ℕ → List ℕ → Option ℕ → Type 0
front_read s at count values None = Unit {0}
front_read s at count values (Some next) = NumbersTo 7 s at count values next
