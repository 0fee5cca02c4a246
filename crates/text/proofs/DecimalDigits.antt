-- Decimal digits: one more of them, and how many there are. Assumes nothing.
use Prim.Native.Nat.{ℕ, zero, suc, ◌+◌, ◌/◌, ◌%◌, ◌^◌, ◌≤◌, ◌<◌}
use mathlib.Core.Path.{◌≡◌, ap, ◌∙◌}
use mathlib.Core.List.{List, [], ◌∷◌, ◌++◌}
use native.Mathlib.Nat.{not-suc-le-zero}
use native.Mathlib.Omega.{arith}
use borrow.Author.Tests.{ltb-false, lt-ltb, le-ltb}
use lib.Dec.{ltb}
use lib.ListN.{length, length-append}
use Rattle.model.specs.Lines.{decimal_in, decimal}
use Rattle.model.proofs.Bounded.{on}
use Rattle.std.specs.Fmt as Fmt
use Rattle.std.proofs.lemmas.Fmt.{decimal_by_steps}

-- a larger bound on their number changes nothing
same_digits : (f g n : ℕ) → n < f → n < g → decimal_in f n ≡ decimal_in g n
same_digits zero g n h l = absurd (not-suc-le-zero h)
same_digits (suc f) zero n h l = absurd (not-suc-le-zero l)
same_digits (suc f) (suc g) n h l =
    on (ltb n 10) (λ t. rw t) (λ t. let q = ltb-false n 10 t in rw (t, same_digits f g (n / 10) (omega arith) (omega arith)))

pub decimal_one : (n : ℕ) → n < 10 → decimal n ≡ (48 + n) ∷ []
unfolding decimal
decimal_one n h = rw (lt-ltb n 10 h)

pub decimal_more : (n : ℕ) → 10 ≤ n → decimal n ≡ decimal (n / 10) ++ ((48 + n % 10) ∷ [])
unfolding decimal
decimal_more n h = rw (le-ltb n 10 h, same_digits n (suc (n / 10)) (n / 10) (omega arith) (omega arith))

pub length_one : (n : ℕ) → n < 10 → length (decimal n) ≡ 1
length_one n h = ap length (decimal_one n h)

pub length_more : (n : ℕ) → 10 ≤ n → length (decimal n) ≡ length (decimal (n / 10)) + 1
length_more n h = ap length (decimal_more n h) ∙ length-append (decimal (n / 10)) _

pub length_four_more : (n : ℕ) → 10000 ≤ n → length (decimal n) ≡ length (decimal (n / 10000)) + 4
length_four_more n h = grind (arith, length_more)

pub ruleset digit_counts = (length_one, length_more, length_four_more)

-- the library prints the same
pub same_decimal : (n : ℕ) → n < 2 ^ 64 → decimal n ≡ Fmt.decimal n
same_decimal =
    decimal_by_steps (λ n ds. decimal n ≡ ds) decimal_one
    (λ n ds h e. decimal_more n h ∙ ap (λ (ds : List ℕ). ds ++ ((48 + n % 10) ∷ [])) e)
