-- `copies::marks::Marks::after_copy` meets its contract: kind by kind. Assumes nothing.
use Rattle.std.proofs.Common.{◌≡◌, Bool, true, false, not, ◌&&◌, ◌||◌, refl, ap₂, ◌∙◌}
use Rattle.std.specs.Cmp.{nat_cmp_total}
use Rattle.std.specs.FinSet.{contains-union}
use Rattle.kinds.proofs.Sets.{kinds_same, kinds_and}
use Rattle.copies.proofs.marks.Marks.after_copy.Goals as goal

without : (a b : Bool) → (not a && b) ≡ not (a || not b)
without true b = refl
without false true = refl
without false false = refl

pub returns : goal.returns
returns c = λ s i p u missed picked m.
    record {
      serving = rw c.bitand.ensures (kinds_same (kinds_and m.serving u) _ (λ h. without (missed h) (p h)));
      picking = λ h l.
          rw c.bitor.ensures
          (contains-union nat_cmp_total _ _ h ∙ ap₂ ◌||◌ (m.picking h l) (c.preferred.ensures s i p u h l));
    }
