-- `starts::stage_starts` meets its contract: the starts after the inputs are the row. Assumes nothing.
use Rattle.std.proofs.Common.{◌≡◌, ◌<◌, ◌∙◌, length, arith, length-take-le, get_or-take}
use Rattle.model.specs.Starts.{start_rule}
use Rattle.starts.proofs.Rows.{row_stored}
use Rattle.starts.proofs.stage_starts.Goals as goal

pub returns : goal.returns
unfolding start_rule
returns c = λ s g.
    let a = c.args in
    let v = g.given.view_of in
    let long = length-take-le a.view.now.kinds c.inputs-times.result in
    let k : length c.starts_after.new.times ≡ s.kinds = omega (arith, long, v.kinds_are, v.in_range.kinds_4) in
    row_stored s a.j _ a.starts.now _ k v.in_range.kinds_4
    (λ h b.
    let used : h < a.view.now.kinds = omega (arith, long) in
    c.starts_after.ensures s a.j h (omega (arith, long))
    ∙ rw (get_or-take a.view.now.kinds c.inputs-times.result h 0 used, c.inputs-times.ensures s g h used)) c.store.ensures
