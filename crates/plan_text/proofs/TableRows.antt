-- Rows of four numbers: each by itself, and those at the front of a table. Assumes nothing.
use Prim.Native.Nat.{ℕ, zero, suc, ◌+◌, ◌*◌, ◌-◌, ◌/◌, ◌≤◌, ◌<◌}
use mathlib.Core.Path.{◌≡◌, refl, sym, ap, ◌∙◌}
use mathlib.Core.List.{List, [], ◌∷◌}
use native.Mathlib.Nat.{not-suc-le-zero}
use native.Mathlib.Omega.{arith}
use lib.ListN.{length, get_or, take, drop, length-drop}
use lib.Seq.{length-take-le, ext_get_or}
use Rattle.std.proofs.Common.{add-zero, eq-zero-or-pos, inl, inr}
use Rattle.std.specs.Simd.{first_chunks}
use Rattle.std.proofs.lemmas.List.{get_or-take, get_or-drop, drop-drop}
use Rattle.model.specs.Bounded.{table}
use Rattle.model.specs.PlanText.{copy_line}
use Rattle.model.proofs.SheetText.{get_or_table}
use Rattle.model.proofs.Bounded.{table_cong}
use Rattle.model.proofs.Chunks.{chunk_is}
use Rattle.plan_text.specs.Rows.{row_copy, row_line, RowIn, tabled_plan, tabled_text, Printable}

-- a row of one table and a row of another, with the same four numbers
module _ (ds rows part : List ℕ) (c d : ℕ) (same : (j : ℕ) → j < 4 → get_or part (4 * d + j) 0 ≡ get_or rows (4 * c + j) 0) where
  stage_is : get_or part (4 * d) 0 ≡ get_or rows (4 * c) 0
  stage_is = simp add-zero at (same 0 (omega arith))

  pub same_copy : row_copy ds part d ≡ row_copy ds rows c
  unfolding row_copy
  same_copy = rw (stage_is, same 1 (omega arith), same 2 (omega arith), same 3 (omega arith))

  pub same_row : 4 * d + 4 ≤ length part → RowIn ds rows c → RowIn ds part d
  same_row l r =
      record {
        room = l;
        entry = rw (stage_is, same 1 (omega arith)) r.entry;
        fits = rw (stage_is, same 1 (omega arith), same 3 (omega arith)) r.fits;
      }

-- a row of the table, taken by itself
module _ (rows : List ℕ) (chunks : List (List ℕ)) (whole : chunks ≡ first_chunks 4 (length rows / 4) rows) (c : ℕ) (l : c < length rows / 4) where
  row_is : get_or chunks c [] ≡ take 4 (drop (4 * c) rows)
  row_is = rw whole (chunk_is 4 (length rows / 4) rows c l)

  pub entry_is : (j : ℕ) → j < 4 → get_or (get_or chunks c []) (4 * 0 + j) 0 ≡ get_or rows (4 * c + j) 0
  entry_is j h = let e : 4 * 0 + j ≡ j = omega arith in rw (e, row_is, get_or-take, get_or-drop)

  pub line_alone : (ds : List ℕ) → row_line ds (get_or chunks c []) 0 ≡ row_line ds rows c
  unfolding row_line
  line_alone ds = ap copy_line (same_copy ds rows (get_or chunks c []) c 0 entry_is)

  pub row_alone : (ds : List ℕ) → RowIn ds rows c → RowIn ds (get_or chunks c []) 0
  row_alone ds =
      let room : 4 ≤ length (drop (4 * c) rows) = omega (arith, length-drop (4 * c) rows) in
      same_row ds rows (get_or chunks c []) c 0 entry_is (rw row_is (omega (arith, length-take-le 4 (drop (4 * c) rows) room)))

-- the first n rows of a table
module _ (rows : List ℕ) (n : ℕ) where
  pub front_entry : (c j : ℕ) → c < n → j < 4 → get_or (take (4 * n) rows) (4 * c + j) 0 ≡ get_or rows (4 * c + j) 0
  front_entry c j l h = get_or-take (4 * n) rows (4 * c + j) 0 (omega arith)

  pub front_room : 4 * n ≤ length rows → 4 * n ≤ length (take (4 * n) rows)
  front_room l = omega (arith, length-take-le (4 * n) rows l)

  pub front_count : 4 * n ≤ length rows → length (take (4 * n) rows) / 4 ≡ n
  front_count l = omega (arith, length-take-le (4 * n) rows l)

-- they are printed as they are in the table
module _ {k : ℕ} {ds : List ℕ} {f : ℕ} {counts rows : List ℕ} {n : ℕ} (p : Printable k ds f counts rows n) where
  pub rows_in_use : 4 * n ≤ length rows
  rows_in_use =
      elim (eq-zero-or-pos n) [
        | inl z ↦ omega arith
        | inr s ↦ let last = (p.row_in (n - 1) (omega arith)).room in omega arith
      ]

  pub in_use_text : tabled_text k ds f counts (take (4 * n) rows) (length (take (4 * n) rows) / 4) ≡ tabled_text k ds f counts rows n
  unfolding tabled_plan
  in_use_text =
      let all = take (4 * n) rows in
      let copies = table_cong n (row_copy ds all) (row_copy ds rows) (λ c l. same_copy ds rows all c c (λ j h. front_entry rows n c j l h)) in
      rw (front_count rows n rows_in_use, copies)

  pub in_use_printable : Printable k ds f counts (take (4 * n) rows) (length (take (4 * n) rows) / 4)
  in_use_printable =
      record {
        kinds_4 = p.kinds_4;
        counts_4 = p.counts_4;
        row_in = λ c l.
            let b : c < n = omega (arith, front_count rows n rows_in_use) in
            let room = front_room rows n rows_in_use in
            same_row ds rows (take (4 * n) rows) c c (λ j h. front_entry rows n c j b h) (omega arith) (p.row_in c b);
        short = rw in_use_text p.short;
      }

-- four counts, read one by one
pub counts_read : (counts : List ℕ) → length counts ≡ 4 → get_or counts 0 0 ∷ get_or counts 1 0 ∷ get_or counts 2 0 ∷ get_or counts 3 0 ∷ [] ≡ counts
counts_read counts four =
    let at = λ (i : ℕ). get_or counts i 0 in
    sym (ext_get_or 0 counts (table 4 at) four (λ i h. sym (get_or_table 4 at 0 i (omega arith))))
