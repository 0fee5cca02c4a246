-- Lines printed one after the other. Assumes nothing.
use Prim.Native.Nat.{ℕ, zero, suc, ◌+◌, ◌≤◌, ◌<◌}
use mathlib.Core.Path.{◌≡◌, refl, ap, ◌∙◌}
use mathlib.Core.List.{List, [], ◌∷◌, ◌++◌, append_assoc, append-nil}
use native.Mathlib.Nat.{not-suc-le-zero}
use native.Mathlib.Numerals.{add-one}
use native.Mathlib.Omega.{arith}
use lib.ListN.{length, length-append}
use Rattle.model.specs.Bounded.{table}
use Rattle.model.specs.Lines.{Line, print_line, print}
use Rattle.model.proofs.Bounded.{below_suc}

pub print_append : (ls ms : List Line) → print (ls ++ ms) ≡ print ls ++ print ms
print_append [] ms = refl
print_append (l ∷ ls) ms = rw (print_append ls ms, append_assoc)

module _ (f : ℕ → Line) where
  pub print_more : (n : ℕ) → print (table (n + 1) f) ≡ print (table n f) ++ print_line (f n)
  print_more n = rw (add-one, print_append, append-nil)

  pub print_more_length : (n : ℕ) → length (print (table (n + 1) f)) ≡ length (print (table n f)) + length (print_line (f n))
  print_more_length n = ap length (print_more n) ∙ length-append (print (table n f)) (print_line (f n))

  -- the next line fits where all do
  pub line_room : (n c : ℕ) → c < n → length (print (table c f)) + length (print_line (f c)) ≤ length (print (table n f))
  line_room zero = λ c l. absurd (not-suc-le-zero l)
  line_room (suc n) =
      let whole = rw add-one at (print_more_length n) in
      below_suc (λ c. length (print (table c f)) + length (print_line (f c)) ≤ length (print (table (suc n) f))) n (λ c l. omega (arith, line_room n c l))
      (omega arith)
