-- A line of a tag and numbers. Assumes nothing.
use Rattle.std.specs.Prelude.{ℕ, List, get_or}
use Rattle.model.specs.Lines.{print_line}

-- a line of a tag, as "P,", and numbers
unfoldable pub line_text : List ℕ → List ℕ → List ℕ
line_text tag numbers = print_line (record { tag = get_or tag 0 0; numbers = numbers })
