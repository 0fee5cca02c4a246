-- `fields::field_end` meets its contract: the byte found is the first that ends a field. Assumes nothing.
use Rattle.std.proofs.Common.{◌≡◌, length, true, false, refl, arith, rules, tests, add-one}
use Rattle.std.specs.List.{between}
use Rattle.std.proofs.lemmas.Iterator.{YieldsList-from_slice, IsFirst-from_position, index_from_first}
use Rattle.std.proofs.lemmas.Slice.{between_to_end}
use Rattle.fields.specs.Fields.{stops, field_length}
use Rattle.fields.proofs.field_end.Goals as goal

pub returns : goal.returns
returns c =
    let s = c.args.sheet.now in
    let rest = between c.args.at (length s) s in
    let first = IsFirst-from_position _ _ _ (λ b. stops b ≡ true) (λ b. stops b ≡ false) c.position.ensures.ran
    (YieldsList-from_slice rest cc) (λ x q k. search (rules, tests)) (λ x q k. search (rules, tests)) in
    let is = index_from_first field_length (λ b. stops b ≡ true) (λ b. stops b ≡ false) refl (λ x bs h. rw h) (λ x bs h. rw (h, add-one)) rest _ first in
    rw (c.unwrap_or.ensures, ← is, between_to_end s c.args.at (length s) (omega arith))
