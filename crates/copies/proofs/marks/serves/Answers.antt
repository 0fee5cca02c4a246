-- `copies::marks::serves` meets its contract: the sum fits. Assumes nothing.
use Rattle.std.proofs.Common.{◌≡◌, true, sym, ◌∙◌, arith}
use Rattle.model.specs.Sheet.{Sheet, source, has_kind}
use Rattle.copies.specs.Given.{WaitsGiven}
use Rattle.copies.proofs.Times.{arrival_small, serves_is}
use Rattle.copies.proofs.marks.serves.Goals.{Then-has_kind}
use Rattle.copies.proofs.marks.serves.Goals as goal

has : (c : Then-has_kind) (s : Sheet) → WaitsGiven s c.args.view.now c.args.row c.args.e → has_kind s (source s c.args.e) c.args.h ≡ true
has c s g = sym (c.has_kind.ensures s g.kinds_are _) ∙ c.if-has_kind.true

pub overflow_add-result-then-has_kind-2 : goal.overflow_add-result-then-has_kind-2
overflow_add-result-then-has_kind-2 c =
    let p = c.requires.waits_given in
    let t = (goal.at.overflow_add-result-then-has_kind-2 c).Then-has_kind in
    omega (arith, arrival_small p.1 c.args.h c.args.k (has t p.0 p.1) c.requires.k_lt_kinds.0)

pub returns-then-has_kind : goal.returns-then-has_kind
returns-then-has_kind c = λ s g q.
    let t = (goal.at.returns-then-has_kind c).Then-has_kind in
    serves_is g c.args.h c.args.k (has t s g) c.requires.k_lt_kinds.0 c.args.start q
