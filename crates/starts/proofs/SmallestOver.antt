-- Laws of the smallest over the kinds that a stage has, kind by kind. Assumes nothing.
use Rattle.std.proofs.Common.{◌≡◌, ℕ, ◌≤◌, false, Option, None, Some, sym, ap, ◌∙◌, arith}
use Rattle.model.specs.Bounded.{smallest_of, or_zero}
use Rattle.model.specs.Sheet.{Sheet, InRange, has_kind, smallest_over}
use Rattle.model.proofs.Bounded.{on, smallest_of_le}
use Rattle.model.proofs.StageKinds.{kind_below, some_kind}
use Rattle.adjacency.proofs.Adjacency.{leap}

-- while there is none, the largest 32-bit number
abbrev pub or_largest : Option ℕ → ℕ
or_largest None = 4294967295
or_largest (Some x) = x

module _ (s : Sheet) (i : ℕ) (f : ℕ → ℕ) where
  -- over the kinds below n
  abbrev pub least : ℕ → ℕ
  least n = or_largest (smallest_of n (has_kind s i) f)

  -- no stage has a fifth kind, and each has some kind
  pub least_all : InRange s → least 4 ≡ smallest_over s i f
  unfolding smallest_over
  least_all r =
      let k = some_kind s r i in
      let found = smallest_of_le s.kinds (has_kind s i) f k.0 (kind_below s i k.0 k.1) k.1 in
      let all : smallest_of 4 (has_kind s i) f ≡ smallest_of s.kinds (has_kind s i) f =
      leap (λ n. smallest_of n (has_kind s i) f) s.kinds 4 r.kinds_4 (λ d b _. rw (lacks d b)) in
      ap or_largest (all ∙ found.1) ∙ sym (ap or_zero found.1)
    where
      lacks : (d : ℕ) → s.kinds ≤ d → has_kind s i d ≡ false
      lacks d b = on (has_kind s i d) (λ t. absurd (omega (arith, kind_below s i d t))) (λ t. t)
