-- The copies that rows of four numbers are: each row by itself, and the rows in use alone. Assumes nothing.
use Prim.Native.Nat.{ℕ, ◌+◌, ◌*◌, ◌/◌, ◌≤◌, ◌<◌}
use mathlib.Core.Path.{◌≡◌}
use mathlib.Core.List.{List, []}
use native.Mathlib.Omega.{arith}
use lib.ListN.{length, get_or, take}
use Rattle.std.proofs.Common.{add-zero}
use Rattle.std.specs.Simd.{first_chunks}
use Rattle.model.proofs.Bounded.{table_cong}
use Rattle.plan_text.proofs.TableRows.{entry_is, front_entry, front_count}
use Rattle.plan_call.specs.Answers.{copy_at, copies_of}

-- a row of one table and a row of another, with the same four numbers
same_copy : (rows part : List ℕ) (c d : ℕ) → ((j : ℕ) → j < 4 → get_or part (4 * d + j) 0 ≡ get_or rows (4 * c + j) 0) → copy_at part d ≡ copy_at rows c
unfolding copy_at
same_copy rows part c d same =
    let stage : get_or part (4 * d) 0 ≡ get_or rows (4 * c) 0 = simp add-zero at (same 0 (omega arith)) in
    rw (stage, same 1 (omega arith), same 2 (omega arith), same 3 (omega arith))

-- a row, taken by itself
pub copy_alone : (rows : List ℕ) (chunks : List (List ℕ)) → chunks ≡ first_chunks 4 (length rows / 4) rows → (c : ℕ) → c < length rows / 4
    → copy_at (get_or chunks c []) 0 ≡ copy_at rows c
copy_alone rows chunks whole c l = same_copy rows (get_or chunks c []) c 0 (entry_is rows chunks whole c l)

-- the first n rows of a table, taken as a whole
pub copies_front : (rows : List ℕ) (n : ℕ) → 4 * n ≤ length rows → copies_of (take (4 * n) rows) (length (take (4 * n) rows) / 4) ≡ copies_of rows n
unfolding copies_of
copies_front rows n room =
    let all = take (4 * n) rows in
    rw (front_count rows n room) (table_cong n _ _ (λ c l. same_copy rows all c c (λ j h. front_entry rows n c j l h)))
