-- Clearing times decide boards and nothing else; and where they are 0, our plan is that of the rule with the end alone (SPEC 5.4). Assumes nothing.
use Prim.Native.Nat.{ℕ, zero, suc, ◌+◌, ◌<◌}
use mathlib.Core.Path.{◌≡◌, refl, sym, ap, ◌∙◌, subst, fun_ext}
use mathlib.Core.Bool.{Bool, cond}
use mathlib.Core.List.{List, [], ◌∷◌, ◌++◌, map}
use native.Mathlib.Decide.{dec_lt}
use native.Mathlib.Omega.{arith}
use lib.Dec.{ltb, eqb}
use lib.ListN.{length, get_or, get_or-eq_default}
use Rattle.model.specs.Bounded.{largest}
use Rattle.model.specs.Sheet.{Sheet, InRange, stages, edges, clear, with_clearing, dur, edge, source, target, wait, has_kind, smallest_over, preferred}
use Rattle.model.specs.Starts.{arrival, inputs_by, start_after, start_rule, start_in, start, earliest_end, finish}
use Rattle.model.specs.Paths.{can_run, next, order_in, running_order, circular}
use Rattle.model.specs.Copies.{serves, has_successor, sink_kind, serves_all, common_kind, serving_kind, picked, copy_rule, copy_in, has_copy}
use Rattle.model.specs.Plans.{Copy, on_board, end, freed}
use Rattle.model.specs.Boards.{unassigned, with_stage, ordered, free_board, occupy, ends_with, assign, plan}

-- a copy without its board
abbrev pub bare : Copy → Copy
bare c = on_board c 0

-- SPEC 5.4: what two sheets that differ in their clearing times only have in common
pub record SameTimes (s u : Sheet) : Type 0 where
  pub starts : start s ≡ start u
  pub finish : finish s ≡ finish u
  pub running : running_order s ≡ running_order u
  pub circular : circular s ≡ circular u
  pub copies : has_copy s ≡ has_copy u
  pub ends : end s ≡ end u
  pub plans : map bare (plan s) ≡ map bare (plan u)

bare_assigned : (s : Sheet) (ends : ℕ → List ℕ) (p : List Copy) → map bare (assign s ends p) ≡ map bare p
bare_assigned s ends [] = refl
bare_assigned s ends (c ∷ p) = ap (λ (q : List Copy). bare c ∷ q) (bare_assigned s (ends_with s ends c) p)

module _ (gs : List ℕ) (s : Sheet) where
  start_rule_same : (t : ℕ → ℕ → ℕ) (j k : ℕ) → start_rule (with_clearing gs s) t j k ≡ start_rule s t j k
  unfolding with_clearing stages edges dur edge source target wait has_kind smallest_over arrival inputs_by start_after start_rule
  start_rule_same t j k = refl

  start_in_same : (n j k : ℕ) → start_in (with_clearing gs s) n j k ≡ start_in s n j k
  start_in_same zero j k = refl
  start_in_same (suc n) j k =
      start_rule_same (start_in (with_clearing gs s) n) j k
      ∙ ap (λ (t : ℕ → ℕ → ℕ). start_rule s t j k) (fun_ext (λ i. fun_ext (λ h. start_in_same n i h)))

  start_same : start (with_clearing gs s) ≡ start s
  unfolding start with_clearing stages
  start_same = fun_ext (λ j. fun_ext (λ k. start_in_same (stages s) j k))

  finish_same : finish (with_clearing gs s) ≡ finish s
  unfolding with_clearing stages dur has_kind smallest_over earliest_end finish
  finish_same = ap (λ (t : ℕ → ℕ → ℕ). largest (stages s) (λ i. smallest_over s i (λ h. t i h + dur s i h))) start_same

  copy_rule_same : (has : ℕ → ℕ → Bool) (i h : ℕ) → copy_rule (with_clearing gs s) has i h ≡ copy_rule s has i h
  unfolding with_clearing stages edges dur edge source target wait has_kind smallest_over preferred earliest_end
      serves has_successor sink_kind serves_all common_kind serving_kind picked copy_rule
  copy_rule_same has i h = rw start_same

  copy_in_same : (n i h : ℕ) → copy_in (with_clearing gs s) n i h ≡ copy_in s n i h
  copy_in_same zero i h = refl
  copy_in_same (suc n) i h =
      copy_rule_same (copy_in (with_clearing gs s) n) i h
      ∙ ap (λ (has : ℕ → ℕ → Bool). copy_rule s has i h) (fun_ext (λ j. fun_ext (λ k. copy_in_same n j k)))

  copies_same : has_copy (with_clearing gs s) ≡ has_copy s
  unfolding has_copy with_clearing stages
  copies_same = fun_ext (λ i. fun_ext (λ h. copy_in_same (stages s) i h))

  with_stage_same : (i h : ℕ) (p : List Copy) → with_stage (with_clearing gs s) i h p ≡ with_stage s i h p
  unfolding unassigned
  with_stage_same i zero p = refl
  with_stage_same i (suc h) p = rw (copies_same, start_same, with_stage_same i h p)

  ordered_same : (n : ℕ) → ordered (with_clearing gs s) n ≡ ordered s n
  unfolding with_clearing
  ordered_same zero = refl
  ordered_same (suc n) = with_stage_same n s.kinds (ordered (with_clearing gs s) n) ∙ ap (with_stage s n s.kinds) (ordered_same n)

  next_same : (done : List ℕ) → next (with_clearing gs s) done ≡ next s done
  unfolding with_clearing stages edges edge source target can_run next
  next_same done = refl

  order_in_same : (n : ℕ) → order_in (with_clearing gs s) n ≡ order_in s n
  unfolding with_clearing stages
  order_in_same zero = refl
  order_in_same (suc n) =
      let step : List ℕ → List ℕ = λ done. cond (ltb (next s done) (stages s)) (done ++ (next s done ∷ [])) done in
      rw (next_same (order_in (with_clearing gs s) n)) (ap step (order_in_same n))

  running_same : running_order (with_clearing gs s) ≡ running_order s
  unfolding running_order with_clearing stages
  running_same = order_in_same (stages s)

  circular_same : circular (with_clearing gs s) ≡ circular s
  unfolding circular with_clearing stages
  circular_same = ap (λ (l : List ℕ). ltb (length l) (stages s)) running_same

  plans_same : map bare (plan (with_clearing gs s)) ≡ map bare (plan s)
  unfolding plan with_clearing stages
  plans_same =
      bare_assigned (with_clearing gs s) (λ k. []) (ordered (with_clearing gs s) (stages s))
      ∙ ap (map bare) (ordered_same (stages s))
      ∙ sym (bare_assigned s (λ k. []) (ordered s (stages s)))

  pub with_clearing_same : SameTimes (with_clearing gs s) s
  unfolding with_clearing stages edges edge source target dur end
  with_clearing_same =
      record {
        starts = start_same;
        finish = finish_same;
        running = running_same;
        circular = circular_same;
        copies = copies_same;
        ends = refl;
        plans = plans_same;
      }

-- SPEC 5.4: so have any two that differ in these only
pub clearing_apart : (s u : Sheet) → s.kinds ≡ u.kinds → s.durations ≡ u.durations → s.edge_list ≡ u.edge_list → SameTimes s u
unfolding with_clearing
clearing_apart s u k d e =
    let same : with_clearing s.clearing u ≡ s = λ i. record { kinds = sym k i; clearing = s.clearing; durations = sym d i; edge_list = sym e i } in
    subst (λ (x : Sheet). SameTimes x u) same (with_clearing_same s.clearing u)

-- boards by any rule of when a board is free again
abbrev pub ends_by : (Copy → ℕ) → (ℕ → List ℕ) → Copy → ℕ → List ℕ
ends_by free ends c k = cond (eqb k c.kind) (occupy (ends k) (free_board (ends k) c.start) (free c)) (ends k)

abbrev pub assign_by : (Copy → ℕ) → (ℕ → List ℕ) → List Copy → List Copy
assign_by free ends [] = []
assign_by free ends (c ∷ p) = on_board c (free_board (ends c.kind) c.start) ∷ assign_by free (ends_by free ends c) p

assign_is : (s : Sheet) (ends : ℕ → List ℕ) (p : List Copy) → assign s ends p ≡ assign_by (freed s) ends p
unfolding ends_with
assign_is s ends [] = refl
assign_is s ends (c ∷ p) = ap {B = List Copy} (λ (q : List Copy). on_board c (free_board (ends c.kind) c.start) ∷ q) (assign_is s (ends_with s ends c) p)

-- SPEC 5.4: with clearing times of 0 a board is free again at its copy's end, and our plan has the boards of that rule
module _ (s : Sheet) (r : InRange s) (zeros : (k : ℕ) → k < s.kinds → clear s k ≡ 0) where
  at_once : (k : ℕ) → clear s k ≡ 0
  unfolding clear
  at_once k = go (dec_lt k s.kinds)
    where
      go : Dec (k < s.kinds) → get_or s.clearing k 0 ≡ 0
      go (yes l) = zeros k l
      go (no l) = get_or-eq_default s.clearing 0 (omega (arith, r.clearing_row))

  pub freed_at_once : freed s ≡ end s
  unfolding freed
  freed_at_once = fun_ext (λ c. omega (arith, at_once c.kind))

  pub plan_at_once : plan s ≡ assign_by (end s) (λ k. []) (ordered s (stages s))
  unfolding plan
  plan_at_once = assign_is s (λ k. []) (ordered s (stages s)) ∙ rw freed_at_once
