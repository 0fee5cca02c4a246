-- What reading the lines finds, in the model's words. Assumes nothing.
use Rattle.std.specs.Prelude.{ℕ, zero, suc, ◌+◌, ◌*◌, ◌≡◌, List, get_or, Result, Ok, Err, IfOk}
use Rattle.model.specs.Bounded.{table}
use Rattle.model.specs.Sheet.{Sheet, Edge}
use Rattle.model.specs.Lines.{lines}
use Rattle.model.specs.SheetText.{Judged, judged, ◌>>◌, each, stage_line_at, stage_line, edge_line_at, edge_line, sheet_of}
use Rattle.model.specs.declared.Fault.{Fault}
use Rattle.model.specs.Faults.{fault_judged, answered}
use Rattle.model.specs.Held.{SheetHeld}
use Rattle.tables.specs.Entries.{stored}
use Rattle.judge.specs.Judging.{AtLine}

-- the first n of the lines that `line` judges, and the place after them
pub record LinesRead {A : Type 0} (s : List ℕ) (line : ℕ → Judged A) (line_at : ℕ → ℕ) (n : ℕ) (xs : List A) (r : Result ℕ Fault) : Type 0 where
  pub answer : each n line ≡ (answered r >> judged xs)
  pub place : IfOk r (AtLine s (line_at n))

-- the T lines: their durations, row by row in a table
abbrev pub row_in : ℕ → List ℕ → ℕ → List ℕ
row_in k ds i = table k (λ h. get_or ds (4 * i + h) 0)

abbrev pub rows : ℕ → ℕ → List ℕ → List (List ℕ)
rows k n ds = table n (row_in k ds)

abbrev pub StagesRead : List ℕ → ℕ → ℕ → List ℕ → Result ℕ Fault → Type 0
StagesRead s k n ds r = LinesRead s (stage_line (lines 7 s) k) stage_line_at n (rows k n ds) r

-- some rows of an edge's waits stored
abbrev pub waits_stored : List ℕ → ℕ → ℕ → ℕ → List ℕ → List ℕ
waits_stored values k e zero old = old
waits_stored values k e (suc h) old = stored values (2 + k * h) k (16 * e + 4 * h) (waits_stored values k e h old)

-- the E lines: their stages, pair by pair in a table, and their waits, block by block in another
abbrev pub waits_in : ℕ → List ℕ → ℕ → List (List ℕ)
waits_in k ws e = table k (λ h. table k (λ j. get_or ws (16 * e + 4 * h + j) 0))

abbrev pub edges_of : ℕ → ℕ → List ℕ → List ℕ → List Edge
edges_of k m es ws = table m (λ e. record { source = get_or es (2 * e) 0; target = get_or es (2 * e + 1) 0; waits = waits_in k ws e })

abbrev pub EdgesRead : List ℕ → ℕ → ℕ → ℕ → List ℕ → List ℕ → Result ℕ Fault → Type 0
EdgesRead s k n m es ws r = LinesRead s (edge_line (lines 7 s) k n) (edge_line_at n) m (edges_of k m es ws) r

-- all lines: the fault, or the sheet, and tables that hold it
pub record SheetLoaded (text : List ℕ) (k n m : ℕ) (ds es ws : List ℕ) : Type 0 where
  pub sheet : Sheet
  pub is_read : sheet_of (lines 7 text) ≡ judged sheet
  pub held : SheetHeld sheet k n m ds es ws

abbrev pub sheet_loaded : List ℕ → ℕ → ℕ → ℕ → List ℕ → List ℕ → List ℕ → Result (Unit {0}) Fault → Type 0
sheet_loaded text k n m ds es ws (Err f) = sheet_of (lines 7 text) ≡ fault_judged f
sheet_loaded text k n m ds es ws (Ok u) = SheetLoaded text k n m ds es ws
