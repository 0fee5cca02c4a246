-- Tables that hold a sheet, copied: the used entries of each are the model's table of that sheet. Assumes nothing.
use Prim.Native.Nat.{ℕ, ◌*◌, ◌/◌, ◌%◌, ◌≤◌}
use mathlib.Core.Path.{◌≡◌, sym, ◌∙◌}
use mathlib.Core.List.{List}
use native.Mathlib.Omega.{arith}
use borrow.Author.Tests.{eqb-true, eqb-false}
use lib.Dec.{ltb, eqb}
use lib.ListN.{length, take}
use Rattle.model.specs.Sheet.{Sheet, stages, edges}
use Rattle.model.specs.Tables.{of_stage, durations_table, ends_table, waits_table}
use Rattle.model.specs.Held.{DurationsIn, EndsIn, WaitsIn}
use Rattle.model.proofs.Bounded.{on}
use Rattle.model.proofs.Tables.{filled_cong}
use Rattle.tables.specs.Entries.{copied, in_rows, in_blocks}
use Rattle.tables.proofs.Tests.{same, says_lt, says_and, says_rows, says_blocks}
use Rattle.tables.proofs.Entries.{same_entry, front_part}

-- what `copy_rows` gives of the durations
pub durations_copied : {s : Sheet} {k n : ℕ} {ds : List ℕ} → k ≡ s.kinds → n ≡ stages s → DurationsIn s ds
    → (old : List ℕ) → durations_table s old ≡ copied (in_rows 0 n k) ds old
unfolding durations_table copied of_stage
durations_copied {s} {k} {n} {ds} ks ns d old =
    filled_cong (in_rows 0 n k) _ old _ _
    (λ x. same (says_rows 0 n k x) (says_and (says_lt (x / 4) (stages s)) (says_lt (x % 4) s.kinds)) (λ p. omega arith) (λ p. omega arith))
    (λ x t.
    let p = (says_rows 0 n k x).holds t in
    sym (d.entries (x / 4) (x % 4) (omega arith) (omega arith)) ∙ same_entry ds (omega arith))

-- what `copy_front` gives of the ends
pub ends_copied : {s : Sheet} {m : ℕ} {es : List ℕ} → m ≡ edges s → EndsIn s es → (old : List ℕ) → ends_table s old ≡ copied (λ x. ltb x (2 * m)) es old
unfolding ends_table copied
ends_copied {s} {m} {es} ms d old =
    filled_cong (λ x. ltb x (2 * m)) _ old _ _
    (λ x. same (says_lt x (2 * m)) (says_lt (x / 2) (edges s)) (λ p. omega arith) (λ p. omega arith))
    (λ x t.
    let p = (says_lt x (2 * m)).holds t in
    on (eqb (x % 2) 0)
    (λ z. let q = eqb-true (x % 2) 0 z in rw z (sym (d.sources (x / 2) (omega arith)) ∙ same_entry es (omega arith)))
    (λ z. let q = eqb-false (x % 2) 0 z in rw z (sym (d.targets (x / 2) (omega arith)) ∙ same_entry es (omega arith))))

-- of their front alone
pub ends_front_copied : {s : Sheet} {m : ℕ} {es : List ℕ} → m ≡ edges s → EndsIn s es → 2 * m ≤ length es
    → (old : List ℕ) → ends_table s old ≡ copied (λ x. ltb x (length (take (2 * m) es))) (take (2 * m) es) old
ends_front_copied {m = m} {es = es} ms d within old = ends_copied ms d old ∙ sym (front_part es old (2 * m) within)

-- what `copy_blocks` gives of the waits
pub waits_copied : {s : Sheet} {k m : ℕ} {ws : List ℕ} → k ≡ s.kinds → m ≡ edges s → WaitsIn s ws
    → (old : List ℕ) → waits_table s old ≡ copied (in_blocks m k) ws old
unfolding waits_table copied in_blocks
waits_copied {s} {k} {m} {ws} ks ms d old =
    filled_cong (in_blocks m k) _ old _ _ (λ x. rw (ks, ms))
    (λ x t.
    let p = (says_blocks m k x).holds t in
    sym (d.entries (x / 16) (x % 16 / 4) (x % 4) (omega arith) (omega arith) (omega arith)) ∙ same_entry ws (omega arith))
