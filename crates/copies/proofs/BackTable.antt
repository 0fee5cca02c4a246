-- Laws of the table of copies whose rows are done in running order from its end: one stage more, and all of them. Assumes nothing.
use Rattle.std.proofs.Common.{◌≡◌, ℕ, ◌+◌, ◌*◌, ◌/◌, ◌%◌, ◌≤◌, ◌<◌, Bool, true, false, ◌&&◌, ◌==◌, nat_le, nat_lt, List, ◌∷◌, ◌++◌}
use Rattle.std.proofs.Common.{length, get_or, refl, sym, ap, ◌∙◌, arith, ltb-true, lt-ltb, le-leb, eq-eqb, length-append}
use Rattle.std.proofs.Math.Seq.{get_or-append_seam}
use Rattle.std.proofs.lemmas.Bool.{lt-leb}
use mathlib.Core.Bool.{and-true, and-false}
use Rattle.model.specs.Sheet.{Sheet, InRange, stages, edges, source, target}
use Rattle.model.specs.Paths.{running_order, circular}
use Rattle.model.specs.Copies.{copy_rule, has_copy}
use Rattle.model.specs.Tables.{filled, of_stage}
use Rattle.model.specs.Held.{bit, copies_table}
use Rattle.model.specs.declared.SheetView.{SheetView}
use Rattle.model.proofs.Bit.{bit_is}
use Rattle.model.proofs.Bounded.{never, and_left, and_right, and_both}
use Rattle.model.proofs.Paths.{place, place_lt, elem_at, place_at, at_place, order_reaches, order_sound, order_length, ranked}
use Rattle.model.proofs.Copies.{copy_rule_next}
use Rattle.model.proofs.Tables.{filled_used, filled_none, filled_cong, filled_over, stage_used, stage_at}
use Rattle.adjacency.specs.declared.chains.Chains.{Chains}
use Rattle.copies.specs.Given.{Ordered}
use Rattle.copies.specs.Marks.{has_in}
use Rattle.copies.specs.Flags.{row_filled}
use Rattle.copies.proofs.Flags.{and_where, from_one_more, in_row, row_same}

-- the entries of the stages from place `at` of the running order on, and the table that has their copies
of_back : Sheet → ℕ → ℕ → Bool
of_back s at x = of_stage s x && nat_le at (place (x / 4) (running_order s))

pub back_table : Sheet → ℕ → List ℕ → List ℕ
back_table s at old = filled (of_back s at) (λ x. bit (has_copy s (x / 4) (x % 4))) old

-- the stage at a place of the order
module _ (s : Sheet) (c : circular s ≡ false) (at : ℕ) (before : at < stages s) (i : ℕ) (this : i ≡ get_or (running_order s) at 0) where
  in_order : at < length (running_order s)
  in_order = omega (arith, order_length s c)

  stage_in_order : i < stages s
  stage_in_order = rw this ((order_sound s).below (get_or (running_order s) at 0) (elem_at (running_order s) at in_order))

  place_in_order : place i (running_order s) ≡ at
  place_in_order = rw this (place_at (running_order s) at (order_sound s).distinct in_order)

module _ (s : Sheet) (r : InRange s) (c : circular s ≡ false) (old : List ℕ) where
  -- an entry that the sheet uses
  used : (x : ℕ) → of_stage s x ≡ true → (x / 4 < stages s) × (x % 4 < s.kinds)
  unfolding of_stage
  used x t = (ltb-true (x / 4) (stages s) (and_left (nat_lt (x / 4) (stages s)) _ t), ltb-true (x % 4) s.kinds (and_right (nat_lt (x / 4) (stages s)) _ t))

  pub back_none : back_table s (stages s) old ≡ old
  unfolding back_table of_back
  back_none =
      filled_none (of_back s (stages s)) _ old
      (λ x. and_where (of_stage s x) (λ t. lt-leb (stages s) (place (x / 4) (running_order s)) (last x t)) ∙ and-false (of_stage s x))
    where
      last : (x : ℕ) → of_stage s x ≡ true → place (x / 4) (running_order s) < stages s
      last x t = omega (arith, place_lt (x / 4) (running_order s) (order_reaches s c (x / 4) (used x t).0), order_length s c)

  pub back_all : back_table s 0 old ≡ copies_table s old
  unfolding back_table of_back copies_table
  back_all =
      filled_cong (of_stage s) _ old _ _ (λ x. sym (rw (le-leb 0 (place (x / 4) (running_order s)) (omega arith)) (and-true (of_stage s x)))) (λ x t. refl)

  -- one stage more: its successors are done
  module _ (room : 1024 ≤ length old) (at : ℕ) (before : at < stages s) (i : ℕ) (this : i ≡ get_or (running_order s) at 0) where
    this_below : i < stages s
    this_below = stage_in_order s c at before i this

    this_place : place i (running_order s) ≡ at
    this_place = place_in_order s c at before i this

    abbrev done : List ℕ
    done = back_table s (at + 1) old

    successors : (e : ℕ) → e < edges s → source s e ≡ i → (k : ℕ) → k < s.kinds → has_in done (target s e) k ≡ has_copy s (target s e) k
    unfolding back_table of_back
    successors e l q k b =
        let j = target s e in
        let x = 4 * j + k in
        let jb = r.target_below e l in
        let later = rw (q, this_place) at ((order_sound s).earlier e l (order_reaches s c j jb)).1 in
        let four = r.kinds_4 in
        let of = stage_used s r old j k jb b in
        let row : x / 4 ≡ j = omega arith in
        let in_back : nat_le (at + 1) (place (x / 4) (running_order s)) ≡ true = rw row (le-leb (at + 1) (place j (running_order s)) (omega arith)) in
        ap (λ (v : ℕ). v == 1)
        (filled_used (of_back s (at + 1)) (λ x. bit (has_copy s (x / 4) (x % 4))) old x (omega (arith, r.stages_256)) (and_both (of_stage s x) _ of in_back)
        ∙ stage_at s r old (λ i h. bit (has_copy s i h)) j k b)
        ∙ bit_is (has_copy s j k)

    back_more : row_filled s.kinds i (λ h. bit (copy_rule s (has_in done) i h)) done ≡ back_table s at old
    unfolding back_table of_back row_filled of_stage
    back_more =
        row_same i (λ h. bit (has_copy s i h)) done s.kinds _ (λ h l. ap bit (copy_rule_next s r (ranked s r c) (has_in done) i this_below successors h))
        ∙ filled_over (of_back s at) (λ x. bit (has_copy s (x / 4) (x % 4))) old (of_back s (at + 1))
        (λ x. x / 4 == i && nat_lt (x % 4) s.kinds) (λ x. bit (has_copy s i (x % 4))) new kept
      where
        new : (x : ℕ) → (x / 4 == i && nat_lt (x % 4) s.kinds) ≡ true
            → (of_back s at x ≡ true) × (bit (has_copy s i (x % 4)) ≡ bit (has_copy s (x / 4) (x % 4)))
        new x t =
            let q = in_row i s.kinds x t in
            let b = this_below in (
              and_both (of_stage s x) _ (and_both (nat_lt (x / 4) (stages s)) _ (lt-ltb (x / 4) (stages s) (omega arith)) (lt-ltb (x % 4) s.kinds q.1))
                  (rw (q.0, this_place) (le-leb at at (omega arith))),
              rw q.0,
            )

        kept : (x : ℕ) → (x / 4 == i && nat_lt (x % 4) s.kinds) ≡ false → of_back s at x ≡ of_back s (at + 1) x
        kept x f =
            and_where (of_stage s x)
            (λ t.
            let u = used x t in
            from_one_more at (place (x / 4) (running_order s))
            (λ p.
            let here : x / 4 ≡ i = sym (at_place (x / 4) (running_order s) (order_reaches s c (x / 4) u.0)) ∙ rw p (sym this) in
            never (and_both (x / 4 == i) _ (eq-eqb (x / 4) i here) (lt-ltb (x % 4) s.kinds u.1)) f))

-- the last of the stages that are not done
module _ {s : Sheet} {view : SheetView} {chains : Chains} {order ts : List ℕ} (o : Ordered s view chains order ts)
    (rest done : List ℕ) (i : ℕ) (parts : order ≡ rest ++ i ∷ done) where
  abbrev at : ℕ
  at = length rest

  before : at < stages s
  before =
      omega (arith, o.order_whole, ap (λ (l : List ℕ). length l) parts, length-append rest (i ∷ done))

  this : i ≡ get_or (running_order s) at 0
  this = sym (ap (λ (l : List ℕ). get_or l at 0) parts ∙ get_or-append_seam rest i done 0)
      ∙ o.order_in.entries at (omega (arith, before, order_length s o.given.acyclic))

  pub stage_below : i < stages s
  stage_below = stage_in_order s o.given.acyclic at before i this

  pub back_next : (copied₀ : List ℕ) → 1024 ≤ length copied₀
      → row_filled view.kinds i (λ h. bit (copy_rule s (has_in (back_table s (at + 1) copied₀)) i h)) (back_table s (at + 1) copied₀) ≡ back_table s at copied₀
  back_next copied₀ room = let g = o.given in rw g.view_of.kinds_are (back_more s g.view_of.in_range g.acyclic copied₀ room at before i this)
