-- What the tables hold when one more line is stored. Assumes nothing.
use Prim.Native.Nat.{ℕ, zero, suc, ◌+◌, ◌-◌, ◌*◌, ◌≤◌, ◌<◌}
use mathlib.Core.Path.{◌≡◌, refl, sym, ap, ◌∙◌, subst}
use mathlib.Core.Logic.{⊎_elim}
use mathlib.Core.Bool.{◌&&◌}
use mathlib.Core.List.{List, [], ◌∷◌, ◌++◌}
use native.Mathlib.Nat.{not-suc-le-zero, le_of_suc-le-suc, eq-or-lt_of_le, add_assoc, add-zero, zero-add}
use native.Mathlib.Numerals.{add-one}
use native.Mathlib.Omega.{arith}
use borrow.Author.Tests.{le-leb, lt-leb, lt-ltb}
use lib.Dec.{leb, ltb}
use lib.ListN.{length, get_or}
use Rattle.std.proofs.lemmas.Nat.{mul-le}
use Rattle.model.proofs.Bounded.{and_both, table_cong}
use Rattle.model.proofs.Tables.{length_filled, filled_used, filled_kept}
use Rattle.judge.specs.Judging.{durations_of, edge_of}
use Rattle.tables.specs.Entries.{stored}
use Rattle.tables.proofs.Entries.{same_entry}
use Rattle.sheet.specs.Loading.{row_in, rows, waits_stored, waits_in, edges_of}

-- values stored at a place

module _ (values : List ℕ) (from count at : ℕ) (old : List ℕ) where
  pub length_stored : length (stored values from count at old) ≡ length old
  unfolding stored
  length_stored = length_filled (λ x. leb at x && ltb x (at + count)) (λ x. get_or values (from + (x - at)) 0) old

  stored_in : (j : ℕ) → j < count → at + j < length old → get_or (stored values from count at old) (at + j) 0 ≡ get_or values (from + j) 0
  unfolding stored
  stored_in j l b =
      let e : from + (at + j - at) ≡ from + j = omega arith in
      filled_used (λ x. leb at x && ltb x (at + count)) (λ x. get_or values (from + (x - at)) 0) old (at + j) b
      (and_both (leb at (at + j)) (ltb (at + j) (at + count)) (le-leb at (at + j) (omega arith)) (lt-ltb (at + j) (at + count) (omega arith)))
      ∙ ap (λ (x : ℕ). get_or values x 0) e

  stored_before : (x : ℕ) → x < at → x < length old → get_or (stored values from count at old) x 0 ≡ get_or old x 0
  unfolding stored
  stored_before x l b =
      filled_kept (λ x. leb at x && ltb x (at + count)) (λ x. get_or values (from + (x - at)) 0) old x b (rw (lt-leb at x l))

-- the durations of stage i, after those of the stages before it
pub rows_more : (k i : ℕ) (values ds : List ℕ) → k ≤ 4 → 4 * i + 4 ≤ length ds
    → rows k (i + 1) (stored values 1 k (4 * i) ds) ≡ rows k i ds ++ (durations_of k values ∷ [])
rows_more k i values ds k4 l =
    let new = stored values 1 k (4 * i) ds in
    let kept : (j h : ℕ) → j < i → h < k → get_or new (4 * j + h) 0 ≡ get_or ds (4 * j + h) 0 =
    λ j h lj lh. stored_before values 1 k (4 * i) ds (4 * j + h) (omega arith) (omega arith) in
    let before : rows k i new ≡ rows k i ds = table_cong i _ _ (λ j lj. table_cong k _ _ (λ h lh. kept j h lj lh)) in
    let here : row_in k new i ≡ durations_of k values = table_cong k _ _ (λ h lh. stored_in values 1 k (4 * i) ds h lh (omega arith)) in
    rw (add-one, before, here)

-- the waits of edge e, row by row

module _ (values : List ℕ) (k e : ℕ) (old : List ℕ) where
  pub length_waits : (r : ℕ) → length (waits_stored values k e r old) ≡ length old
  length_waits zero = refl
  length_waits (suc r) = length_stored values (2 + k * r) k (16 * e + 4 * r) (waits_stored values k e r old) ∙ length_waits r

  before_row : (r x : ℕ) → x < 16 * e + 4 * r → x < length old
      → get_or (waits_stored values k e (suc r) old) x 0 ≡ get_or (waits_stored values k e r old) x 0
  before_row r x l b = stored_before values (2 + k * r) k (16 * e + 4 * r) (waits_stored values k e r old) x l (omega (arith, length_waits r))

  waits_kept : (r x : ℕ) → x < 16 * e → x < length old → get_or (waits_stored values k e r old) x 0 ≡ get_or old x 0
  waits_kept zero x l b = refl
  waits_kept (suc r) x l b = before_row r x (omega arith) b ∙ waits_kept r x l b

  in_row : (r j : ℕ) → j < k → k ≤ 4 → 16 * e + 4 * suc r ≤ length old
      → get_or (waits_stored values k e (suc r) old) (16 * e + 4 * r + j) 0 ≡ get_or values (2 + (k * r + j)) 0
  in_row r j l k4 b =
      stored_in values (2 + k * r) k (16 * e + 4 * r) (waits_stored values k e r old) j l (omega (arith, length_waits r))
      ∙ same_entry values (add_assoc 2 (k * r) j)

  wait_at : (r h j : ℕ) → h < r → j < k → k ≤ 4 → 16 * e + 4 * r ≤ length old
      → get_or (waits_stored values k e r old) (16 * e + 4 * h + j) 0 ≡ get_or values (2 + (k * h + j)) 0
  wait_at zero h j l lj k4 b = absurd (not-suc-le-zero l)
  wait_at (suc r) h j l lj k4 b =
      ⊎_elim
      (λ q.
      subst (λ (i : ℕ). get_or (waits_stored values k e (suc r) old) (16 * e + 4 * i + j) 0 ≡ get_or values (2 + (k * i + j)) 0) (sym q) (in_row r j lj k4 b))
      (λ m. before_row r (16 * e + 4 * h + j) (omega arith) (omega arith) ∙ wait_at r h j m lj k4 (omega arith))
      (eq-or-lt_of_le (le_of_suc-le-suc l))

-- edge e, after those before it

module _ (k e : ℕ) (values es ws : List ℕ) (k4 : k ≤ 4) (le : 2 * e + 2 ≤ length es) (lw : 16 * e + 16 ≤ length ws) where
  abbrev es' : List ℕ
  es' = stored values 0 2 (2 * e) es

  abbrev ws' : List ℕ
  ws' = waits_stored values k e k ws

  end_at : (x : ℕ) → x < 2 → get_or es' (2 * e + x) 0 ≡ get_or values x 0
  end_at x l = stored_in values 0 2 (2 * e) es x l (omega arith) ∙ same_entry values (zero-add x)

  edge_here : record { source = get_or es' (2 * e) 0; target = get_or es' (2 * e + 1) 0; waits = waits_in k ws' e } ≡ edge_of k values
  edge_here =
      let a : get_or es' (2 * e) 0 ≡ get_or values 0 0 = same_entry es' (sym (add-zero (2 * e))) ∙ end_at 0 (omega arith) in
      let b : get_or es' (2 * e + 1) 0 ≡ get_or values 1 0 = end_at 1 (omega arith) in
      let w : waits_in k ws' e ≡ (edge_of k values).waits =
      table_cong k _ _ (λ h lh. table_cong k _ _ (λ j lj. wait_at values k e ws k h j lh lj k4 (omega arith))) in
      λ i. record { source = a i; target = b i; waits = w i }

  edges_before : edges_of k e es' ws' ≡ edges_of k e es ws
  edges_before =
      table_cong e _ _
      (λ d l.
      let a : get_or es' (2 * d) 0 ≡ get_or es (2 * d) 0 = stored_before values 0 2 (2 * e) es (2 * d) (omega arith) (omega arith) in
      let b : get_or es' (2 * d + 1) 0 ≡ get_or es (2 * d + 1) 0 = stored_before values 0 2 (2 * e) es (2 * d + 1) (omega arith) (omega arith) in
      let w : waits_in k ws' d ≡ waits_in k ws d =
      table_cong k _ _ (λ h lh. table_cong k _ _ (λ j lj. waits_kept values k e ws k (16 * d + 4 * h + j) (omega arith) (omega arith))) in
      λ i. record { source = a i; target = b i; waits = w i })

  pub one_edge_more : edges_of k (e + 1) es' ws' ≡ edges_of k e es ws ++ (edge_of k values ∷ [])
  one_edge_more = rw (add-one, edges_before, edge_here)

-- one row of an edge's waits more
pub waits_more : (values : List ℕ) (k e h : ℕ) (old : List ℕ)
    → waits_stored values k e (h + 1) old ≡ stored values (2 + k * h) k (16 * e + 4 * h) (waits_stored values k e h old)
waits_more values k e h old = rw add-one

-- row h of an edge's waits begins among the values of its line
pub row_begins : (k h : ℕ) → k ≤ 4 → h < k → k * h ≤ 12
row_begins k h k4 l = mul-le k h 4 3 k4 (omega arith)
