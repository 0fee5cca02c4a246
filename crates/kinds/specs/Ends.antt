-- When a stage ends on a kind, by the tables of durations and starts. Assumes nothing.
use Rattle.std.specs.Prelude.{ℕ, ◌+◌, ◌*◌, ◌^◌, ◌<◌, List, length, slice_index}

-- the sum of what the tables have for stage i on kind h
abbrev pub end_by : List ℕ → List ℕ → ℕ → ℕ → ℕ
end_by durations starts i h = slice_index starts (4 * i + h) + slice_index durations (4 * i + h)

-- a kind of stage i that the tables have room for, and the sum fits
pub record EndTabled (durations starts : List ℕ) (i h : ℕ) : Type 0 where
  pub durations_room : 4 * i + h < length durations
  pub starts_room : 4 * i + h < length starts
  pub fits : end_by durations starts i h < 2 ^ 32
