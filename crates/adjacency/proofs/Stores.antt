-- What a store to a table leaves: the new entry, and the others. Assumes nothing.
use Prim.Native.Nat.{ℕ, ◌<◌}
use mathlib.Core.Path.{◌≡◌, sym, subst}
use mathlib.Core.List.{List}
use native.Mathlib.Decide.{ℕ_discrete}
use lib.ListN.{length, get_or, set}
use lib.Seq.{get_or-set_same, get_or-set_other}

-- what P asks of entry i it asks of the new one, and of the others as they were
pub entry_by_entry : (P : ℕ → ℕ → Type 0) (l : List ℕ) (i v : ℕ) → i < length l → P i v → ((j : ℕ) → (j ≡ i → ⊥) → P j (get_or l j 0))
    → (j : ℕ) → P j (get_or (set l i v) j 0)
entry_by_entry P l i v b here other j = at (ℕ_discrete j i)
  where
    at : Dec (j ≡ i) → P j (get_or (set l i v) j 0)
    at (yes q) = subst (λ (k : ℕ). P k (get_or (set l i v) k 0)) (sym q) (rw (get_or-set_same l i v 0 b) here)
    at (no q) = rw (get_or-set_other l i j v 0 q) (other j q)
