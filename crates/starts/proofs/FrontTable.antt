-- Laws of the table of starts whose rows are done in running order: one stage more, and all of them. Assumes nothing.
use Rattle.std.proofs.Common.{◌≡◌, ℕ, ◌+◌, ◌*◌, ◌/◌, ◌%◌, ◌≤◌, ◌<◌, Bool, true, false, ◌&&◌, List, [], ◌∷◌, length, get_or, ltb, arith}
use Rattle.std.proofs.Common.{refl, sym, ap, subst, ⊎_elim, ◌∙◌}
use Rattle.model.specs.Bounded.{elem}
use Rattle.model.specs.Sheet.{Sheet, InRange, stages, edges, source, target}
use Rattle.model.specs.Starts.{start}
use Rattle.model.specs.Paths.{next, order_in, running_order, circular}
use Rattle.model.specs.Tables.{filled, of_stage, starts_table}
use Rattle.model.specs.declared.SheetView.{SheetView}
use Rattle.model.proofs.StageKinds.{kind_below}
use Rattle.model.proofs.Distinct.{elem_append_left, elem_append_right, elem_append_cases, elem_here, elem_singleton}
use Rattle.model.proofs.Starts.{start_le}
use Rattle.model.proofs.Paths.{order_reaches, order_sound, order_length, ranked, start_next}
use Rattle.model.proofs.Tables.{length_filled, filled_used, filled_none, filled_cong, filled_over, stage_at}
use Rattle.adjacency.specs.declared.chains.Chains.{Chains}
use Rattle.tables.proofs.Tests.{Says, refutes, same, says_lt, says_and}
use Rattle.starts.specs.Entries.{entry, of_row, with_starts}
use Rattle.starts.specs.Given.{StartsBounded, StageGiven, Ordered}
use Rattle.starts.proofs.Rows.{says_row}
use Rattle.starts.proofs.Front.{sources_done, front_in_range, front_below, front_can_run, front_more, front_at}

-- the entries of the first x stages of the running order, and the table that has their starts
unfoldable pub of_front : Sheet → ℕ → ℕ → Bool
of_front s x y = elem (y / 4) (order_in s x) && ltb (y % 4) s.kinds

unfoldable pub front_table : Sheet → ℕ → List ℕ → List ℕ
front_table s x old = filled (of_front s x) (λ y. start s (y / 4) (y % 4)) old

says_test : (b : Bool) → Says b (b ≡ true)
says_test b = record { holds = λ t. t; passes = λ t. t }

says_front : (s : Sheet) (x y : ℕ) → Says (of_front s x y) ((elem (y / 4) (order_in s x) ≡ true) × (y % 4 < s.kinds))
unfolding of_front
says_front s x y = says_and (says_test (elem (y / 4) (order_in s x))) (says_lt (y % 4) s.kinds)

module _ (s : Sheet) (old : List ℕ) where
  pub front_none : front_table s 0 old ≡ old
  unfolding front_table of_front
  front_none = filled_none _ _ old (λ y. refl)

  front_table_length : (x : ℕ) → length (front_table s x old) ≡ length old
  unfolding front_table
  front_table_length x = length_filled (of_front s x) _ old

module _ (s : Sheet) (r : InRange s) (c : circular s ≡ false) (old : List ℕ) (room : 1024 ≤ length old) where
  front_entry : (x i h : ℕ) → elem i (order_in s x) ≡ true → h < s.kinds → entry (front_table s x old) i h ≡ start s i h
  unfolding front_table
  front_entry x i h m l =
      let four = r.kinds_4 in
      let q : (4 * i + h) / 4 ≡ i = omega arith in
      filled_used (of_front s x) _ old (4 * i + h) (omega (arith, front_in_range s i x m, r.stages_256))
      ((says_front s x (4 * i + h)).passes (rw q m, omega arith))
      ∙ stage_at s r old (start s) i h l

  -- the first stages of the edges to the next stage have their starts, which are small
  front_bounded : (x : ℕ) → x < stages s → (e : ℕ) → e < edges s → target s e ≡ next s (order_in s x) → StartsBounded s (front_table s x old) (source s e)
  front_bounded x l e b q =
      let done = sources_done s (order_in s x) (next s (order_in s x)) e (front_can_run s c x l) b q in
      record {
        room = rw (front_table_length s old x) room;
        small = λ h k. rw (front_entry x (source s e) h done k) (start_le s (ranked s r c) r (source s e) h (r.source_below e b) k);
      }

  -- the next stage's row is added
  front_table_more : (x : ℕ) → x < stages s → with_starts s (next s (order_in s x)) (front_table s x old) ≡ front_table s (x + 1) old
  unfolding with_starts front_table
  front_table_more x l =
      let j = next s (order_in s x) in
      filled_over (of_front s (x + 1)) _ old (of_front s x) (of_row s j) _
      (λ y t.
      let p = (says_row s j y).holds t in (
        (says_front s (x + 1) y).passes (rw (front_more s c x l) (elem_append_right (y / 4) (order_in s x) (j ∷ []) (elem_here (y / 4) [] p.0)), p.1),
        start_next s (ranked s r c) (order_in s x) (entry (front_table s x old)) (λ i h m k. front_entry x i h m (kind_below s i h k)) j (y % 4)
            (front_below s c x l) (front_can_run s c x l)
            ∙ ap (λ (i : ℕ). start s i (y % 4)) (sym p.0),
      ))
      (λ y f.
      same (says_front s (x + 1) y) (says_front s x y)
      (λ p. (
        ⊎_elim (λ m. m) (λ m. absurd (refutes (says_row s j y) f (elem_singleton (y / 4) j m, p.1)))
            (elem_append_cases (y / 4) (order_in s x) (j ∷ []) (rw (front_more s c x l) at p.0)),
        p.1,
      ))
      (λ p. (rw (front_more s c x l) (elem_append_left (y / 4) (order_in s x) (j ∷ []) p.0), p.1)))

  -- all stages are done
  front_all : front_table s (stages s) old ≡ starts_table s old
  unfolding front_table of_front starts_table of_stage running_order
  front_all =
      filled_cong (of_stage s) _ old (of_front s (stages s)) _
      (λ y.
      ap (λ (b : Bool). b && ltb (y % 4) s.kinds)
      (same (says_lt (y / 4) (stages s)) (says_test (elem (y / 4) (running_order s))) (order_reaches s c (y / 4)) ((order_sound s).below (y / 4))))
      (λ y t. refl)

-- one more stage of an order in a table
pub record Turn (s : Sheet) (old : List ℕ) (x j : ℕ) : Type 0 where
  pub below : j < stages s
  pub bounded : (e : ℕ) → e < edges s → target s e ≡ j → StartsBounded s (front_table s x old) (source s e)
  pub more : with_starts s j (front_table s x old) ≡ front_table s (x + 1) old

module _ {s : Sheet} {view : SheetView} {chains : Chains} {order : List ℕ} (g : Ordered s view chains order)
    (old : List ℕ) (room : 1024 ≤ length old) where
  pub turn : (x : ℕ) → x < stages s → Turn s old x (get_or order x 0)
  turn x b =
      let r = g.given.view_of.in_range in
      let c = g.acyclic in
      rw (g.order_in.entries x (omega (arith, order_length s c)), front_at s c x b)
      (record { below = front_below s c x b; bounded = front_bounded s r c old room x b; more = front_table_more s r c old room x b })

  -- for a view whose number of kinds is a constant
  pub stage_given : {x j : ℕ} → Turn s old x j → {starts : List ℕ} → starts ≡ front_table s x old → {kinds : ℕ} → view.kinds ≡ kinds
      → StageGiven s (record view { kinds = kinds }) chains starts j
  stage_given {x} {j} t {starts} e q =
      subst (λ (n : ℕ). StageGiven s (record view { kinds = n }) chains starts j) q
      (subst (λ (l : List ℕ). StageGiven s view chains l j) (sym e)
      (record { given = g.given; below = t.below; room = rw (front_table_length s old x) room; inputs = t.bounded }))

  pub turns_done : (x : ℕ) → x ≡ stages s → front_table s x old ≡ starts_table s old
  turns_done x q = ap (λ (y : ℕ). front_table s y old) q ∙ front_all s g.given.view_of.in_range g.acyclic old room
