-- What a function is given holds with the sheet's own numbers too: for the functions that aren't handed them. Assumes nothing.
use Rattle.std.proofs.Common.{ℕ, List, refl}
use Rattle.model.specs.Sheet.{Sheet, stages, edges}
use Rattle.order.specs.Given.{Given}

pub own_numbers : {s : Sheet} {m n : ℕ} {ends head prev : List ℕ} → Given s m n ends head prev → Given s (edges s) (stages s) ends head prev
own_numbers g =
    let e = g.edges_given in
    record {
      edges_given = record { in_range = e.in_range; edges_are = refl; ends_in = e.ends_in };
      stages_are = refl;
      chained = rw g.stages_are at (rw e.edges_are at g.chained);
    }
