-- The lines judged so far: the loops over the T lines and over the E lines begin, go on, and are refused as the model's `each`. Assumes nothing.
use Prim.Native.Nat.{ℕ, zero, suc, ◌+◌, ◌*◌, ◌≤◌, ◌<◌}
use mathlib.Core.Path.{◌≡◌, refl, subst}
use mathlib.Core.Logic.{⊎_elim}
use mathlib.Core.List.{List, [], ◌∷◌, ◌++◌}
use native.Mathlib.Nat.{not-suc-le-zero, le_of_suc-le-suc, eq-or-lt_of_le}
use native.Mathlib.Numerals.{add-one}
use lib.ListN.{length}
use Rattle.std.specs.Prelude.{Result, Ok, Err, IsErrAnd}
use Rattle.std.proofs.lemmas.Result.{err_from_is_err_and}
use Rattle.model.specs.SheetText.{Judged, refused, judged, each}
use Rattle.model.specs.Faults.{fault_judged}
use Rattle.model.specs.declared.Fault.{Fault}
use Rattle.judge.specs.Judging.{AtLine, StageRead, EdgeRead}
use Rattle.tables.specs.Entries.{stored}
use Rattle.sheet.specs.Loading.{LinesRead, waits_stored, StagesRead, EdgesRead}
use Rattle.sheet.proofs.StoredLines.{rows_more, one_edge_more}

-- what a `?` returns
pub returned : {A E : Type 0} {r : Result A E} {f : E} → IsErrAnd r (λ e. e ≡ f) → r ≡ Err f
returned {r} q = let p = err_from_is_err_and r q in rw (p.1, p.2)

-- judged first to last: a refusal on the way
after_refused : {A : Type 0} (line : ℕ → Judged A) (n i : ℕ) (xs : List A) (a b : ℕ) → i < n → each i line ≡ judged xs → line i ≡ refused a b
    → each n line ≡ refused a b
after_refused line zero i xs a b l e q = absurd (not-suc-le-zero l)
after_refused line (suc n) i xs a b l e q =
    ⊎_elim (λ s. subst (λ (k : ℕ). each (suc k) line ≡ refused a b) s (rw (e, q))) (λ h. rw (after_refused line n i xs a b h e q))
    (eq-or-lt_of_le (le_of_suc-le-suc l))

module _ {A : Type 0} {s : List ℕ} {line : ℕ → Judged A} {line_at : ℕ → ℕ} {i place : ℕ} {xs : List A}
    (q : LinesRead s line line_at i xs (Ok place)) where
  one_read : {x : A} {ys : List A} {next : ℕ} → line i ≡ judged x → ys ≡ xs ++ (x ∷ []) → AtLine s (line_at (i + 1)) next
      → LinesRead s line line_at (i + 1) ys (Ok next)
  one_read e more p = record { answer = rw (more, add-one, q.answer, e); place = p }

  one_refused : {n : ℕ} {ys : List A} {f : Fault} → i < n → line i ≡ fault_judged f → LinesRead s line line_at n ys (Err f)
  one_refused {n} l e = record { answer = after_refused line n i xs _ _ l q.answer e; place = tt }

-- a line that is refused ends the loop
pub stages_refused : (s : List ℕ) (k i n : ℕ) (ds ds' values : List ℕ) {place : ℕ} {f : Fault} → StagesRead s k i ds (Ok place)
    → StageRead s k i values (Err f) → i < n → StagesRead s k n ds' (Err f)
stages_refused s k i n ds ds' values q p l = one_refused q l p.answer

pub stages_stop : (s : List ℕ) (k i n : ℕ) (ds ds' values : List ℕ) {place : ℕ} {f : Fault} {r : Result ℕ Fault} → StagesRead s k i ds (Ok place)
    → StageRead s k i values (Err f) → i < n → IsErrAnd r (λ e. e ≡ f) → StagesRead s k n ds' r
stages_stop s k i n ds ds' values q p l e = rw (returned e) (stages_refused s k i n ds ds' values q p l)

pub edges_refused : (s : List ℕ) (k n e m : ℕ) (es es' ws ws' values : List ℕ) {place : ℕ} {f : Fault}
    → EdgesRead s k n e es ws (Ok place) → EdgeRead s k n e values (Err f) → e < m → EdgesRead s k n m es' ws' (Err f)
edges_refused s k n e m es es' ws ws' values q p l = one_refused q l p.answer

pub edges_stop : (s : List ℕ) (k n e m : ℕ) (es es' ws ws' values : List ℕ) {place : ℕ} {f : Fault} {r : Result ℕ Fault}
    → EdgesRead s k n e es ws (Ok place) → EdgeRead s k n e values (Err f) → e < m → IsErrAnd r (λ e. e ≡ f) → EdgesRead s k n m es' ws' r
edges_stop s k n e m es es' ws ws' values q p l e' = rw (returned e') (edges_refused s k n e m es es' ws ws' values q p l)

-- a line that is read is stored
pub stages_more : (s : List ℕ) (k i : ℕ) (ds values : List ℕ) {place next : ℕ} → StagesRead s k i ds (Ok place) → StageRead s k i values (Ok next)
    → k ≤ 4 → 4 * i + 4 ≤ length ds → StagesRead s k (i + 1) (stored values 1 k (4 * i) ds) (Ok next)
stages_more s k i ds values q p k4 room = one_read q p.answer (rows_more k i values ds k4 room) (p.place _ refl)

pub edges_more : (s : List ℕ) (k n e : ℕ) (es ws values : List ℕ) {place next : ℕ} → EdgesRead s k n e es ws (Ok place)
    → EdgeRead s k n e values (Ok next) → k ≤ 4 → 2 * e + 2 ≤ length es → 16 * e + 16 ≤ length ws
    → EdgesRead s k n (e + 1) (stored values 0 2 (2 * e) es) (waits_stored values k e k ws) (Ok next)
edges_more s k n e es ws values q p k4 le lw = one_read q p.answer (one_edge_more k e values es ws k4 le lw) (p.place _ refl)
