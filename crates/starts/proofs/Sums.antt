-- Laws of the sums as the code reads them off the tables: each entry is there, and the sums fit. Assumes nothing.
use Rattle.std.proofs.Common.{◌≡◌, ℕ, ◌+◌, ◌<◌, true, List, ap, arith}
use Rattle.model.specs.Sheet.{Sheet, source, has_kind}
use Rattle.model.specs.declared.SheetView.{SheetView}
use Rattle.model.proofs.StageKinds.{kind_below}
use Rattle.starts.specs.Entries.{entry}
use Rattle.starts.specs.Given.{StageTabled, EndIs, EdgeTabled, SumTabled}

-- of a stage on a kind that it has
pub end_is : {s : Sheet} {durations starts : List ℕ} {i : ℕ} → StageTabled s durations starts i
    → (h : ℕ) → has_kind s i h ≡ true → EndIs s durations starts i h
end_is {s} {starts = starts} {i} t h k =
    let b = kind_below s i h k in
    let r = t.in_range in
    let four = r.kinds_4 in
    let few = r.stages_256 in
    let below = t.below in
    let sum = ap (λ (d : ℕ). entry starts i h + d) (t.durations_in.entries i h below b) in
    record {
      tabled = record {
        durations_room = omega (arith, t.durations_in.room);
        starts_room = omega (arith, t.bounded.room);
        fits = omega (arith, sum, t.bounded.small h b, r.dur_to i h below b);
      };
      end_is = sum;
      small = omega (arith, sum, t.bounded.small h b, r.dur_to i h below b);
    }

-- along an edge, from such a kind of its first stage
pub sum_tabled : {s : Sheet} {view : SheetView} {starts : List ℕ} {e : ℕ} → EdgeTabled s view starts e
    → (k h : ℕ) → k < view.kinds → has_kind s (source s e) h ≡ true → SumTabled s view starts e k h
sum_tabled {s} {e = e} g k h l t =
    let v = g.view_of in
    let b = kind_below s (source s e) h t in
    let c : k < s.kinds = omega (arith, v.kinds_are) in
    let r = v.in_range in
    let four = r.kinds_4 in
    let few = r.edges_1024 in
    let below = g.below in
    let first : StageTabled s _ _ (source s e) =
    record { in_range = r; below = r.source_below e below; durations_in = v.durations_in; bounded = g.bounded } in
    record {
      ends_room = omega (arith, v.ends_in.room);
      source_is = v.ends_in.sources e below;
      end_there = rw (v.ends_in.sources e below) (end_is first h t);
      edge_small = omega arith;
      kinds_small = (omega arith, omega arith);
      waits_room = v.waits_in.room;
      wait_is = v.waits_in.entries e h k below b c;
      wait_small = r.wait_to e h k below b c;
    }
