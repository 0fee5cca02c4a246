-- What the tests of entries say of numbers, so that `omega` can compare them. Assumes nothing.
use Prim.Native.Nat.{ℕ, ◌+◌, ◌/◌, ◌%◌, ◌≤◌, ◌<◌}
use mathlib.Core.Path.{◌≡◌, sym, ◌∙◌}
use mathlib.Core.Bool.{Bool, true, false, ◌&&◌}
use borrow.Author.Tests.{ltb-true, leb-true, eqb-true, lt-ltb, le-leb, eq-eqb}
use lib.Dec.{leb, ltb, eqb}
use Rattle.model.proofs.Bounded.{on, never, and_left, and_right, and_both}
use Rattle.tables.specs.Entries.{in_rows, in_blocks}

-- a test passes where a fact holds, and nowhere else
pub record Says (b : Bool) (P : Type 0) : Type 0 where
  pub holds : b ≡ true → P
  pub passes : P → b ≡ true

pub fails : {b : Bool} {P : Type 0} → Says b P → (P → ⊥) → b ≡ false
fails {b} s n = on b (λ t. absurd (n (s.holds t))) (λ t. t)

pub refutes : {b : Bool} {P : Type 0} → Says b P → b ≡ false → P → ⊥
refutes s f p = never (s.passes p) f

pub same : {a b : Bool} {P Q : Type 0} → Says a P → Says b Q → (P → Q) → (Q → P) → a ≡ b
same {a} {b} p q f g = on a (λ t. t ∙ sym (q.passes (f (p.holds t)))) (λ t. t ∙ sym (fails q (λ r. refutes p t (g r))))

pub says_lt : (m n : ℕ) → Says (ltb m n) (m < n)
says_lt m n = record { holds = ltb-true m n; passes = lt-ltb m n }

pub says_le : (m n : ℕ) → Says (leb m n) (m ≤ n)
says_le m n = record { holds = leb-true m n; passes = le-leb m n }

pub says_eq : (m n : ℕ) → Says (eqb m n) (m ≡ n)
says_eq m n = record { holds = eqb-true m n; passes = eq-eqb m n }

pub says_and : {a b : Bool} {P Q : Type 0} → Says a P → Says b Q → Says (a && b) (P × Q)
says_and {a} {b} p q =
    record { holds = λ t. (p.holds (and_left a b t), q.holds (and_right a b t)); passes = λ r. and_both a b (p.passes r.0) (q.passes r.1) }

-- the entries of a store, of rows and of blocks

pub says_span : (at count x : ℕ) → Says (leb at x && ltb x (at + count)) ((at ≤ x) × (x < at + count))
says_span at count x = says_and (says_le at x) (says_lt x (at + count))

pub says_rows : (first rows kinds x : ℕ) → Says (in_rows first rows kinds x) ((first ≤ x / 4) × ((x / 4 < first + rows) × (x % 4 < kinds)))
unfolding in_rows
says_rows first rows kinds x = says_and (says_le first (x / 4)) (says_and (says_lt (x / 4) (first + rows)) (says_lt (x % 4) kinds))

pub says_blocks : (blocks kinds x : ℕ) → Says (in_blocks blocks kinds x) ((x / 16 < blocks) × ((x % 16 / 4 < kinds) × (x % 4 < kinds)))
unfolding in_blocks
says_blocks blocks kinds x = says_and (says_lt (x / 16) blocks) (says_and (says_lt (x % 16 / 4) kinds) (says_lt (x % 4) kinds))
