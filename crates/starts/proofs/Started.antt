-- Laws of a sheet whose starts are all in the table: its stages, and their earliest ends. Assumes nothing.
use Rattle.std.proofs.Common.{◌≡◌, ℕ, ◌+◌, ◌<◌, List, arith}
use Rattle.model.specs.Sheet.{Sheet, stages, dur, smallest_over}
use Rattle.model.specs.Starts.{earliest_end}
use Rattle.model.proofs.StageKinds.{kind_below, smallest_over_cong}
use Rattle.model.proofs.Starts.{start_le}
use Rattle.model.proofs.Held.{ranked_of}
use Rattle.starts.specs.Entries.{entry}
use Rattle.starts.specs.Given.{StageTabled, Started}

module _ {s : Sheet} {k n : ℕ} {durations starts : List ℕ} (g : Started s k durations n starts) (i : ℕ) (l : i < n) where
  below : i < stages s
  below = omega (arith, g.stages_are)

  pub stage_tabled : StageTabled s durations starts i
  stage_tabled =
      let r = g.acyclic.in_range in
      record {
        in_range = r;
        below = below;
        durations_in = g.durations_in;
        bounded = record {
          room = g.starts_in.room;
          small = λ h b. rw (g.starts_in.entries i h below b) (start_le s (ranked_of g.acyclic) r i h below b);
        };
      }

  pub earliest_is : smallest_over s i (λ h. entry starts i h + dur s i h) ≡ earliest_end s i
  unfolding earliest_end
  earliest_is = smallest_over_cong s i _ _ (λ h b. rw (g.starts_in.entries i h below (kind_below s i h b)))
