-- Lines are left exactly where bytes are: what is found at the end of a sheet. Assumes nothing.
use Prim.Native.Nat.{ℕ, suc, ◌-◌, ◌≤◌, ◌<◌}
use mathlib.Core.Path.{◌≡◌, sym, ap, ◌∙◌, subst}
use mathlib.Core.List.{List, [], ◌∷◌}
use native.Mathlib.Omega.{arith}
use borrow.Author.Tests.{lt-ltb, le-ltb}
use lib.Dec.{eqb}
use lib.ListN.{length, get_or, drop, length-drop, drop_of_length-le}
use lib.Seq.{drop-cons}
use Rattle.model.specs.Lines.{split, lines_from, lines}
use Rattle.model.specs.SheetText.{refused, judged, edge_line_at, end_check}
use Rattle.model.proofs.Bounded.{on}
use Rattle.model.proofs.Lines.{lines_end}
use Rattle.model.proofs.SheetText.{edge_from_1}
use Rattle.lines.specs.Lines.{Place}
use Rattle.judge.specs.Judging.{AtLine}

some_line : (b : ℕ) (v : List ℕ) → 1 ≤ length (lines 7 (b ∷ v))
unfolding lines
some_line b v = on (eqb b 10) (λ t. rw t (omega arith)) (λ t. rw t (go (split 10 v).head (split 10 v).parts))
  where
    go : (h : List ℕ) (ps : List (List ℕ)) → 1 ≤ length (lines_from 7 (b ∷ h) ps)
    go h [] = omega arith
    go h (p ∷ ps) = omega arith

module _ (s : List ℕ) (n at : ℕ) (p : Place 7 s n at) where
  more_lines : at < length s → n < length (lines 7 s)
  more_lines l =
      let some = subst (λ (u : List ℕ). 1 ≤ length (lines 7 u)) (sym (drop-cons s at 0 l)) (some_line (get_or s at 0) (drop (suc at) s)) in
      omega (arith, length-drop n (lines 7 s), ap length p.left)

  no_more_lines : length s ≤ at → length (lines 7 s) ≤ n
  no_more_lines l =
      let none : length (lines 7 (drop at s)) ≡ 0 = ap (λ (u : List ℕ). length (lines 7 u)) (drop_of_length-le s l) ∙ ap length (lines_end 7) in
      omega (arith, length-drop n (lines 7 s), ap length p.left)

-- the line after the last one
module _ (s : List ℕ) (n m at : ℕ) (p : AtLine s (edge_line_at n m) at) where
  pub extra_bytes : at < length s → end_check (lines 7 s) n m ≡ refused 3 (edge_line_at n m)
  unfolding end_check
  extra_bytes l =
      let more = more_lines s (edge_line_at n m - 1) at p l in
      rw (le-ltb (length (lines 7 s)) (edge_line_at n m) (omega arith))

  pub nothing_left : length s ≤ at → end_check (lines 7 s) n m ≡ judged tt
  unfolding end_check
  nothing_left l =
      let few = no_more_lines s (edge_line_at n m - 1) at p l in
      rw (lt-ltb (length (lines 7 s)) (edge_line_at n m) (omega (arith, edge_from_1 n m)))
