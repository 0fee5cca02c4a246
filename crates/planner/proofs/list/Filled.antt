-- A list whose first elements are replaced, one after the other. For any type of element. Assumes nothing.
use mathlib.Core.Path.{◌≡◌, sym, ◌∙◌, ap}
use Prim.Native.Nat.{ℕ, suc, ◌+◌, ◌<◌}
use native.Mathlib.Numerals.{add-one}
use mathlib.Core.List.{List, [], ◌∷◌, ◌++◌, append_assoc}
use lib.ListN.{length, set, drop}
use lib.Seq.{drop-cons, set_at}
use Rattle.model.specs.Bounded.{table}
use Rattle.model.specs.Tables.{over}
use Rattle.model.proofs.Distinct.{length_table}

module _ {X : Type 0} (f : ℕ → X) where
  -- l with f 0, …, f (n - 1) in the place of its first n
  abbrev pub filled : ℕ → List X → List X
  filled n l = over (table n f) l

  in_front : (n : ℕ) (l : List X) → filled n l ≡ table n f ++ drop n l
  in_front n l = ap (λ (k : ℕ). table n f ++ drop k l) (length_table n f)

  pub filled_next : (n : ℕ) (l : List X) → n < length l → set (filled n l) n (f n) ≡ filled (n + 1) l
  filled_next n l h =
      ap (λ (r : List X). set r n (f n)) (in_front n l) ∙ ap (λ (r : List X). set (table n f ++ r) n (f n)) (drop-cons l n (f n) h)
      ∙ set_at (table n f) _ _ (f n) n (length_table n f) ∙ sym (append_assoc (table n f) (f n ∷ []) (drop (suc n) l))
      ∙ sym (in_front (suc n) l) ∙ ap (λ (k : ℕ). filled k l) (sym (add-one n))
