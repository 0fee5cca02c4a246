-- `Search::next_ready` meets its contract: no stage below the one found is ready. Assumes nothing.
use Rattle.std.proofs.Common.{◌≡◌, ◌≢◌, get_or, arith, rules, tests}
use Rattle.std.proofs.lemmas.Iterator.{first_from_Range}
use Rattle.order.proofs.Behind.{next_ahead}
use Rattle.order.proofs.search.Search.next_ready.Goals as goal

pub returns : goal.returns
returns c =
    let s = c.self in
    let table = s.inside.pending in
    next_ahead s.invariant s.view_is c.in_default.ensures.lowest _
    (first_from_Range _ _ _ _ (λ j. get_or table j 0 ≡ 0) (λ j. get_or table j 0 ≢ 0) c.find.ensures.ran
    (λ x q k. grind (arith, tests)) (λ x q k. (search rules, grind (arith, tests))))
