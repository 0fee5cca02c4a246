-- Lines of a tag and numbers of at most w digits, read from a place of a text on, and where that leaves the reader. Assumes nothing.
use Rattle.std.specs.Prelude.{ℕ, ◌+◌, ◌≤◌, ◌≡◌, Bool, false, cond, ◌&&◌, List, length, get_or, take, drop, leb, eqb, Option, None, Some}
use Rattle.model.specs.Lines.{Line, lines}
use Rattle.fields.specs.Fields.{stops}

-- SPEC 1.3: a tag is two bytes, one that ends no field, and a comma
pub record Tag (tag : List ℕ) : Type 0 where
  pub two : length tag ≡ 2
  pub letter : stops (get_or tag 0 0) ≡ false
  pub comma : get_or tag 1 0 ≡ 44

unfoldable pub has_tag : List ℕ → ℕ → List ℕ → Bool
has_tag s at tag = leb (at + 2) (length s) && (eqb (get_or s at 0) (get_or tag 0 0) && eqb (get_or s (at + 1) 0) (get_or tag 1 0))

-- the numbers of a line that has this tag and this many of them
abbrev pub of_form : ℕ → ℕ → Option Line → Option (List ℕ)
of_form tag count None = None
of_form tag count (Some l) = cond (eqb l.tag tag && eqb (length l.numbers) count) (Some l.numbers) None

-- so of the first line of a text
unfoldable pub line_numbers : ℕ → ℕ → ℕ → List ℕ → Option (List ℕ)
line_numbers w tag count text = of_form tag count (get_or (lines w text) 0 None)

-- n lines have been read up to a place
pub record Place (w : ℕ) (s : List ℕ) (n at : ℕ) : Type 0 where
  pub left : drop n (lines w s) ≡ lines w (drop at s)
  pub within : at ≤ length s

pub record LineRead (w : ℕ) (s : List ℕ) (at tag count : ℕ) (values : List ℕ) (next : ℕ) : Type 0 where
  pub numbers : line_numbers w tag count (drop at s) ≡ Some (take count values)
  -- one line more
  pub onward : (n : ℕ) → Place w s n at → Place w s (n + 1) next

abbrev pub line_read : ℕ → List ℕ → ℕ → ℕ → ℕ → List ℕ → Option ℕ → Type 0
line_read w s at tag count values None = line_numbers w tag count (drop at s) ≡ None
line_read w s at tag count values (Some next) = LineRead w s at tag count values next
