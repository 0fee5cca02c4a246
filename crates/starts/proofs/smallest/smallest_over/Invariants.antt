use Rattle.std.proofs.Common.{◌≡◌, ℕ, true}
use Rattle.model.specs.Sheet.{Sheet, has_kind}
use Rattle.starts.proofs.SmallestOver.{least}
use Rattle.starts.proofs.smallest.smallest_over.Given as goal

abbrev pub invariant-loop-h : goal.invariant-loop-h
invariant-loop-h g l =
    (s : Sheet) (i : ℕ) (f : ℕ → ℕ) → l.kinds ≡ s.kinds → ((h r : ℕ) → has_kind s i h ≡ true → goal.F-post g l.time h r → r ≡ f h) → l.least ≡ least s i f l.h
