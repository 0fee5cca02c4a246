-- What the answers of judging say, and what is promised of each line, in the model's words. Assumes nothing.
use Rattle.std.specs.Prelude.{ℕ, ◌+◌, ◌-◌, ◌*◌, ◌≡◌, List, [], ◌∷◌, get_or, Result, Ok, Err}
use Rattle.model.specs.Bounded.{table}
use Rattle.model.specs.Sheet.{Edge}
use Rattle.model.specs.Lines.{lines}
use Rattle.model.specs.SheetText.{Judged, judged, ◌>>=◌, ◌>>◌, Header, header, clearing_line_at, clearing_line}
use Rattle.model.specs.SheetText.{stage_line_at, stage_line, edge_line_at, edge_line}
use Rattle.model.specs.Faults.{fault_judged, answered}
use Rattle.model.specs.declared.Fault.{Fault}
use Rattle.lines.specs.Lines.{Place}
use Rattle.judge.specs.declared.HeaderValues.{HeaderValues}
use Rattle.judge.specs.declared.ClearingValues.{ClearingValues}

-- the answers: a fault's number and line, or

-- K, N and M, and the place after the first line
pub record SizesAt : Type 0 where
  pub sizes : Header
  pub next : ℕ

abbrev pub header_answer : Result HeaderValues Fault → Judged SizesAt
header_answer (Ok h) = judged (record { sizes = record { kinds = h.sizes.kinds; stages = h.sizes.stages; edges = h.sizes.edges }; next = h.next })
header_answer (Err f) = fault_judged f

-- the clearing times, and the place after their line
pub record TimesAt : Type 0 where
  pub times : List ℕ
  pub next : ℕ

abbrev pub clearing_answer : Result ClearingValues Fault → Judged TimesAt
clearing_answer (Ok g) = judged (record { times = g.times; next = g.next })
clearing_answer (Err f) = fault_judged f

-- a value, where a test refuses nothing
abbrev pub if_passed : {A : Type 0} → Judged (Unit {0}) → A → Judged A
if_passed test a = test >> judged a

-- the place where a line begins: the lines before it are read. Lines count from 1
abbrev pub AtLine : List ℕ → ℕ → ℕ → Type 0
AtLine s line at = Place 7 s (line - 1) at

-- the first line

abbrev pub sizes_at : List ℕ → ℕ → SizesAt
sizes_at values next = record { sizes = record { kinds = get_or values 0 0; stages = get_or values 1 0; edges = get_or values 2 0 }; next = next }

pub record HeaderRead (s : List ℕ) (r : Result HeaderValues Fault) : Type 0 where
  pub answer : header (lines 7 s) ≡ (header_answer r >>= (λ a. judged a.sizes))
  pub place : (h : HeaderValues) → r ≡ Ok h → AtLine s clearing_line_at h.next

-- judged good
pub record FirstLine (s : List ℕ) (k n m next : ℕ) : Type 0 where
  pub sizes : header (lines 7 s) ≡ judged (record { kinds = k; stages = n; edges = m })
  pub place : AtLine s clearing_line_at next

-- the clearing times of K kinds

abbrev pub times_at : List ℕ → ℕ → TimesAt
times_at values next =
    record { times = get_or values 0 0 ∷ get_or values 1 0 ∷ get_or values 2 0 ∷ get_or values 3 0 ∷ []; next = next }

abbrev pub times_row : ℕ → List ℕ → List ℕ
times_row k g = table k (λ h. get_or g h 0)

pub record ClearingRead (s : List ℕ) (k : ℕ) (r : Result ClearingValues Fault) : Type 0 where
  pub answer : clearing_line (lines 7 s) k ≡ (clearing_answer r >>= (λ a. judged (times_row k a.times)))
  pub place : (g : ClearingValues) → r ≡ Ok g → AtLine s (stage_line_at 0) g.next

-- both lines judged good
pub record FirstLines (s : List ℕ) (k n m next : ℕ) : Type 0 where
  pub sizes : header (lines 7 s) ≡ judged (record { kinds = k; stages = n; edges = m })
  pub clearing : (gs : List ℕ) × (clearing_line (lines 7 s) k ≡ judged gs)
  pub place : AtLine s (stage_line_at 0) next

-- stage i: its durations are the values after the first
abbrev pub durations_of : ℕ → List ℕ → List ℕ
durations_of k values = table k (λ h. get_or values (1 + h) 0)

pub record StageRead (s : List ℕ) (k i : ℕ) (values : List ℕ) (r : Result ℕ Fault) : Type 0 where
  pub answer : stage_line (lines 7 s) k i ≡ (answered r >> judged (durations_of k values))
  pub place : (next : ℕ) → r ≡ Ok next → AtLine s (stage_line_at (i + 1)) next

-- edge e: its stages are the first two values, its waits the others, row by row
abbrev pub edge_of : ℕ → List ℕ → Edge
edge_of k values = record { source = get_or values 0 0; target = get_or values 1 0; waits = table k (λ h. table k (λ j. get_or values (2 + (k * h + j)) 0)) }

pub record EdgeRead (s : List ℕ) (k n e : ℕ) (values : List ℕ) (r : Result ℕ Fault) : Type 0 where
  pub answer : edge_line (lines 7 s) k n e ≡ (answered r >> judged (edge_of k values))
  pub place : (next : ℕ) → r ≡ Ok next → AtLine s (edge_line_at n (e + 1)) next
