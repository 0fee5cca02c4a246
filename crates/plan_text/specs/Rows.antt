-- A plan in tables, whether it is a sheet's or not: the lines of its copies, by their rows, and its whole text. Assumes nothing.
use Rattle.std.specs.Prelude.{ℕ, ◌+◌, ◌*◌, ◌^◌, ◌≤◌, ◌<◌, ◌≡◌, List, [], ◌∷◌, length, get_or, take}
use Rattle.model.specs.Bounded.{table}
use Rattle.model.specs.Lines.{Line, print}
use Rattle.model.specs.PlanText.{PrintedCopy, PrintedPlan, copy_line, printed_text}
use Rattle.text.specs.LineText.{line_text}

-- the copy that row c is: stage, kind, board and start, and as its end the start with the duration
unfoldable pub row_copy : List ℕ → List ℕ → ℕ → PrintedCopy
row_copy durations rows c =
    let stage = get_or rows (4 * c) 0 in
    let kind = get_or rows (4 * c + 1) 0 in
    let start = get_or rows (4 * c + 3) 0 in
    record { stage = stage; kind = kind; board = get_or rows (4 * c + 2) 0; start = start; end = start + get_or durations (4 * stage + kind) 0 }

unfoldable pub row_line : List ℕ → List ℕ → ℕ → Line
row_line durations rows c = copy_line (row_copy durations rows c)

-- a row that has a duration, and an end of 32 bits
pub record RowIn (durations rows : List ℕ) (c : ℕ) : Type 0 where
  pub room : 4 * c + 4 ≤ length rows
  pub entry : 4 * get_or rows (4 * c) 0 + get_or rows (4 * c + 1) 0 < length durations
  pub fits : get_or rows (4 * c + 3) 0 + get_or durations (4 * get_or rows (4 * c) 0 + get_or rows (4 * c + 1) 0) 0 < 2 ^ 32

-- the lines of n rows
abbrev pub rows_text : List ℕ → List ℕ → ℕ → List ℕ
rows_text durations rows n = print (table n (row_line durations rows))

-- `P,finish,b..`: the boards used of as many kinds as there are
abbrev pub head_text : ℕ → ℕ → List ℕ → List ℕ
head_text kinds finish counts = line_text (80 ∷ 44 ∷ []) (take (kinds + 1) (finish ∷ counts))

-- the plan of n rows, with its finish and the counts of k kinds
unfoldable pub tabled_plan : ℕ → List ℕ → ℕ → List ℕ → List ℕ → ℕ → PrintedPlan
tabled_plan k durations finish counts rows n = record { finish = finish; counts = take k counts; copies = table n (row_copy durations rows) }

abbrev pub tabled_text : ℕ → List ℕ → ℕ → List ℕ → List ℕ → ℕ → List ℕ
tabled_text k durations finish counts rows n = printed_text (tabled_plan k durations finish counts rows n)

-- such a plan can be printed: its rows are there, and its text is not long
pub record Printable (k : ℕ) (durations : List ℕ) (finish : ℕ) (counts rows : List ℕ) (n : ℕ) : Type 0 where
  pub kinds_4 : k ≤ 4
  pub counts_4 : length counts ≡ 4
  pub row_in : (c : ℕ) → c < n → RowIn durations rows c
  pub short : length (tabled_text k durations finish counts rows n) < 65536
