-- `schedule::schedule` meets its contract: circular by the running order, or each step hands on what the next one asks for. Assumes nothing.
use Rattle.std.proofs.Common.{rules, ◌≡◌, ℕ, false, take, refl, sym, ◌∙◌, arith}
use Rattle.std.proofs.lemmas.List.{length-replicate}
use Rattle.model.specs.Sheet.{Sheet, stages, edges}
use Rattle.model.specs.Held.{SheetHeld}
use Rattle.adjacency.specs.Adjacency.{Chained}
use Rattle.schedule.specs.Given.{Ordered}
use Rattle.schedule.proofs.Layers.{stages_below, few, chains_of, to_order, to_ordered, to_given, starts_after}
use Rattle.schedule.proofs.schedule.Goals.{After-chains-chains, After-running_order}
use Rattle.schedule.proofs.schedule.Goals as goal

pub chain-requires-clause-ends_below : goal.chain-requires-clause-ends_below
chain-requires-clause-ends_below c = stages_below c.requires.sheet_held.1

chained : (c : After-chains-chains) (s : Sheet)
    → SheetHeld s c.args.sizes.kinds c.args.sizes.stages c.args.sizes.edges c.args.durations.now c.args.ends.now c.args.waits.now
    → Chained c.args.ends.now 0 (edges s) (stages s) c.chains-chains.result.head.now c.chains-chains.result.prev.now
chained c s h = chains_of h 0 c.chain.ensures c.chains-chains.ensures.head c.chains-chains.ensures.prev

pub running_order-requires-clause-given : goal.running_order-requires-clause-given
running_order-requires-clause-given c =
    let (s, h, v) = c.requires.sheet_held in
    (s, to_order h (chained (goal.at.running_order-requires-clause-given c).After-chains-chains s h))

pub returns-then-running_order : goal.returns-then-running_order
returns-then-running_order c =
    λ s h v.
    let k = (goal.at.returns-then-running_order c).After-chains-chains in
    (sym (c.running_order.ensures s (to_order h (chained k s h))).0 ∙ c.if-running_order.true, refl, refl)

-- the order is whole where the sheet has no closed path
ordered : (c : After-running_order) (s : Sheet)
    → SheetHeld s c.args.sizes.kinds c.args.sizes.stages c.args.sizes.edges c.args.durations.now c.args.ends.now c.args.waits.now
    → Chained c.args.ends.now 0 (edges s) (stages s) c.chains-chains.result.head.now c.chains-chains.result.prev.now
    → c.running_order.result ≡ false
    → Ordered s (record { kinds = c.args.sizes.kinds; durations = c.args.durations; ends = c.args.ends; waits = c.args.waits }) c.args.sizes
    (take c.args.sizes.stages c.running_order.new.order)
ordered c s h d left =
    let run = c.running_order.ensures s (to_order h d) in
    to_ordered h _ _ (sym run.0 ∙ left) (omega (arith, few h, c.running_order.auto, length-replicate {A = ℕ} 256 0)) run.1

pub start_table-finish-requires-clause-ordered : goal.start_table-finish-requires-clause-ordered
start_table-finish-requires-clause-ordered c =
    let k = goal.at.start_table-finish-requires-clause-ordered c in
    let (s, h, v) = c.requires.sheet_held in
    let left : c.running_order.result ≡ false = search rules in
    (s, ordered k.After-running_order s h (chained k.After-chains-chains s h) left)

pub place_copies-copies-requires-clause-given : goal.place_copies-copies-requires-clause-given
place_copies-copies-requires-clause-given c =
    let k = goal.at.place_copies-copies-requires-clause-given c in
    let (s, h, v) = c.requires.sheet_held in
    let d = chained k.After-chains-chains s h in
    let left : c.running_order.result ≡ false = search rules in
    let o = ordered k.After-running_order s h d left in
    let there = starts_after h.in_range _ c.requires.in_bounds.0 (c.start_table-finish.ensures s o).1 in
    (s, to_given o d there v)

pub returns : goal.returns
returns c =
    λ s h v.
    let k = goal.at.returns c in
    let d = chained k.After-chains-chains s h in
    let left : c.running_order.result ≡ false = search rules in
    let o = ordered k.After-running_order s h d left in
    let f = c.start_table-finish.ensures s o in
    let there = starts_after h.in_range _ c.requires.in_bounds.0 f.1 in
    let placed = c.place_copies-copies.ensures s (to_given o d there v) in
    record {
      acyclic = o.acyclic;
      finish_is = f.0;
      starts_are = f.1;
      copies_are = placed.copies_are;
      rows_are = placed.rows_are;
      boards_are = placed.boards_are;
    }
