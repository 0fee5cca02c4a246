-- Laws of the entries stored and copied, one more turn at a time. Assumes nothing.
use Prim.Native.Nat.{ℕ, ◌+◌, ◌-◌, ◌*◌, ◌/◌, ◌≤◌, ◌<◌}
use mathlib.Core.Path.{◌≡◌, refl, sym, ap, ◌∙◌}
use mathlib.Core.Bool.{Bool, false, ◌&&◌}
use mathlib.Core.List.{List, ◌++◌}
use native.Mathlib.Nat.{lt_of_not-le, zero-add}
use native.Mathlib.Omega.{arith}
use borrow.Author.Tests.{ltb-true, ltb-false}
use lib.Seq.{ext_get_or}
use lib.Dec.{leb, ltb}
use lib.ListN.{length, get_or, set, take, drop, get_or-append}
use Rattle.std.proofs.lemmas.List.{get_or-append_right, get_or-drop, get_or-take, length-append, length-drop, length-take}
use Rattle.model.specs.Tables.{filled}
use Rattle.model.proofs.Bounded.{on}
use Rattle.model.proofs.Tables.{length_filled, filled_used, filled_kept, filled_none, filled_cong, filled_more, filled_over}
use Rattle.tables.specs.Entries.{stored, copied, in_rows, in_blocks}
use Rattle.tables.proofs.Tests.{fails, refutes, same, says_lt, says_span, says_rows, says_blocks}

pub same_entry : (l : List ℕ) {x y : ℕ} → x ≡ y → get_or l x 0 ≡ get_or l y 0
same_entry l e = ap (λ (i : ℕ). get_or l i 0) e

-- values stored at a place

module _ (values : List ℕ) (from at : ℕ) (old : List ℕ) where
  pub stored_none : stored values from 0 at old ≡ old
  unfolding stored
  stored_none = filled_none _ _ old (λ x. fails (says_span at 0 x) (λ p. omega arith))

  pub stored_more : (j : ℕ) → at + j < length old → set (stored values from j at old) (at + j) (get_or values (from + j) 0) ≡ stored values from (j + 1) at old
  unfolding stored
  stored_more j b =
      filled_more _ _ old (λ x. leb at x && ltb x (at + j)) (at + j) (get_or values (from + j) 0) b (same_entry values (omega arith))
      ((says_span at (j + 1) (at + j)).passes (omega arith)) (λ y n. same (says_span at (j + 1) y) (says_span at j y) (λ p. omega arith) (λ p. omega arith))

-- the first of them
module _ (values : List ℕ) (at : ℕ) (old : List ℕ) where
  pub first_none : stored values 0 0 at old ≡ old
  first_none = stored_none values 0 at old

  pub first_more : (j : ℕ) → at + j < length old → set (stored values 0 j at old) (at + j) (get_or values j 0) ≡ stored values 0 (j + 1) at old
  first_more j b = rw zero-add at (stored_more values 0 at old j b)

-- a part of the values, handed over as a slice of its own

stored_part : (part values : List ℕ) (from count at : ℕ) (old : List ℕ) → length part ≡ count
    → ((x : ℕ) → x < count → get_or part x 0 ≡ get_or values (from + x) 0) → stored part 0 (length part) at old ≡ stored values from count at old
unfolding stored
stored_part part values from count at old n same =
    filled_cong _ _ old _ _ (λ x. rw n)
    (λ x t.
    let p = (says_span at count x).holds t in
    let e : 0 + (x - at) ≡ x - at = omega arith in
    rw e (same (x - at) (omega arith)))

module _ (values : List ℕ) (from count at : ℕ) (old : List ℕ) (within : from + count ≤ length values) where
  abbrev slice : List ℕ
  slice = take (from + count - from) (drop from values)

  pub stored_slice : stored slice 0 (length slice) at old ≡ stored values from count at old
  stored_slice =
      let l : length slice ≡ count = omega (arith, length-take (from + count - from) (drop from values), length-drop from values) in
      stored_part slice values from count at old l
      (λ x b. get_or-take (from + count - from) (drop from values) x 0 (omega arith) ∙ get_or-drop from values x 0)

pub stored_front : (values : List ℕ) (count at : ℕ) (old : List ℕ) → count ≤ length values
    → stored (take count values) 0 (length (take count values)) at old ≡ stored values 0 count at old
stored_front values count at old within =
    let l : length (take count values) ≡ count = omega (arith, length-take count values) in
    stored_part (take count values) values 0 count at old l
    (λ x b. let e : 0 + x ≡ x = omega arith in rw e (get_or-take count values x 0 b))

-- another table's entries copied

module _ (source old : List ℕ) where
  copied_none : (used : ℕ → Bool) → ((x : ℕ) → used x ≡ false) → copied used source old ≡ old
  unfolding copied
  copied_none used n = filled_none used _ old n

  copied_same : (used₁ used₂ : ℕ → Bool) → ((x : ℕ) → used₂ x ≡ used₁ x) → copied used₁ source old ≡ copied used₂ source old
  unfolding copied
  copied_same used₁ used₂ e = filled_cong used₂ _ old used₁ _ e (λ x t. refl)

  pub front_none : copied (λ x. ltb x 0) source old ≡ old
  front_none = copied_none (λ x. ltb x 0) (λ x. fails (says_lt x 0) (λ p. omega arith))

  -- the whole of another table, before the entries that stay
  pub front_copied : length source ≤ length old → source ++ drop (length source) old ≡ copied (λ x. ltb x (length source)) source old
  unfolding copied
  front_copied fits =
      let used = λ (x : ℕ). ltb x (length source) in
      let value = λ (x : ℕ). get_or source x 0 in
      let whole : length (source ++ drop (length source) old) ≡ length old = simp (length-append, length-drop) (omega arith) in
      ext_get_or 0 (source ++ drop (length source) old) (filled used value old) (whole ∙ sym (length_filled used value old))
      (λ x b. on (ltb x (length source))
      (λ t.
      get_or-append source (drop (length source) old) 0 x (ltb-true x (length source) t)
      ∙ sym (filled_used used value old x (omega arith) t))
      (λ f.
      let l : length source ≤ x = ltb-false x (length source) f in
      let at : length source + (x - length source) ≡ x = omega arith in
      get_or-append_right source (drop (length source) old) (length source) x 0 refl l
      ∙ get_or-drop (length source) old (x - length source) 0 ∙ same_entry old at ∙ sym (filled_kept used value old x (omega arith) f)))

  -- a front of it, handed over as a slice of its own
  pub front_part : (count : ℕ) → count ≤ length source
      → copied (λ x. ltb x (length (take count source))) (take count source) old ≡ copied (λ x. ltb x count) source old
  unfolding copied
  front_part count within =
      let l : length (take count source) ≡ count = omega (arith, length-take count source) in
      filled_cong _ _ old _ _ (λ x. rw l) (λ x t. get_or-take count source x 0 (ltb-true x count t))

  pub rows_none : (first kinds : ℕ) → copied (in_rows first 0 kinds) source old ≡ old
  rows_none first kinds = copied_none (in_rows first 0 kinds) (λ x. fails (says_rows first 0 kinds x) (λ p. omega arith))

  pub blocks_none : (kinds : ℕ) → copied (in_blocks 0 kinds) source old ≡ old
  blocks_none kinds = copied_none (in_blocks 0 kinds) (λ x. fails (says_blocks 0 kinds x) (λ p. omega arith))

  -- with four kinds the blocks have no unused entry
  pub blocks_whole : (blocks : ℕ) → copied (λ x. ltb x (16 * blocks)) source old ≡ copied (in_blocks blocks 4) source old
  blocks_whole blocks =
      copied_same (λ x. ltb x (16 * blocks)) (in_blocks blocks 4)
      (λ x. same (says_blocks blocks 4 x) (says_lt x (16 * blocks)) (λ p. omega arith) (λ p. omega arith))

  pub rows_more : (first r kinds : ℕ) → kinds ≤ 4
      → stored source (4 * (first + r)) kinds (4 * (first + r)) (copied (in_rows first r kinds) source old) ≡ copied (in_rows first (r + 1) kinds) source old
  unfolding stored copied
  rows_more first r kinds four =
      filled_over _ _ old _ _ _
      (λ x t.
      let p = (says_span (4 * (first + r)) kinds x).holds t in
      ((says_rows first (r + 1) kinds x).passes (omega arith), same_entry source (omega arith)))
      (λ x f. same (says_rows first (r + 1) kinds x) (says_rows first r kinds x)
      (λ p. let q : x / 4 < first + r = lt_of_not-le (λ h. refutes (says_span (4 * (first + r)) kinds x) f (omega arith)) in omega arith) (λ p. omega arith))

  pub blocks_more : (e kinds : ℕ) → kinds ≤ 4
      → copied (in_rows (4 * e) kinds kinds) source (copied (in_blocks e kinds) source old) ≡ copied (in_blocks (e + 1) kinds) source old
  unfolding copied
  blocks_more e kinds four =
      filled_over _ _ old _ _ _
      (λ x t. let p = (says_rows (4 * e) kinds kinds x).holds t in ((says_blocks (e + 1) kinds x).passes (omega arith), refl))
      (λ x f. same (says_blocks (e + 1) kinds x) (says_blocks e kinds x)
      (λ p. let q : x / 16 < e = lt_of_not-le (λ h. refutes (says_rows (4 * e) kinds kinds x) f (omega arith)) in omega arith) (λ p. omega arith))
