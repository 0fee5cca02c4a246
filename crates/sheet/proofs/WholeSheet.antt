-- The whole sheet: from its first two lines, the T lines, the E lines and its end to the model's `sheet_of`, and to tables that hold it. Assumes nothing.
use Prim.Native.Nat.{ℕ, ◌≤◌}
use mathlib.Core.Path.{◌≡◌, refl, sym}
use mathlib.Core.List.{List}
use native.Mathlib.Omega.{arith}
use lib.ListN.{length}
use Rattle.std.specs.Prelude.{Result, Ok, Err}
use Rattle.model.specs.Sheet.{Sheet, SizesInRange, stages, edges, dur, edge, source, target, wait, with_clearing}
use Rattle.model.specs.Lines.{lines}
use Rattle.model.specs.SheetText.{judged, ◌>>◌, stage_line_at, edge_line_at, end_check, sheet_of}
use Rattle.model.specs.Faults.{fault_judged, answered}
use Rattle.model.specs.Tables.{tabled}
use Rattle.model.specs.declared.Fault.{Fault}
use Rattle.model.proofs.SheetText.{header_good, first_edge, sheet_in_range}
use Rattle.model.proofs.Tables.{tabled_stages, tabled_edges, tabled_dur, tabled_source, tabled_target, tabled_wait}
use Rattle.judge.specs.Judging.{AtLine, FirstLine, FirstLines}
use Rattle.sheet.specs.Loading.{StagesRead, EdgesRead, SheetLoaded, sheet_loaded}
use Rattle.sheet.proofs.LinesSofar.{returned}

-- K, N and M of a good first line are in range
pub first_in_range : {s : List ℕ} {k n m at : ℕ} → FirstLine s k n m at → SizesInRange k n m
first_in_range {s} first = header_good (lines 7 s) _ first.sizes

pub sizes_in_range : {s : List ℕ} {k n m at : ℕ} → FirstLines s k n m at → SizesInRange k n m
sizes_in_range {s} first = header_good (lines 7 s) _ first.sizes

-- the E lines follow the T lines
pub first_edge_at : (s : List ℕ) (n at : ℕ) → AtLine s (stage_line_at n) at → AtLine s (edge_line_at n 0) at
first_edge_at s n at p = rw (first_edge n) p

-- without edges
pub end_at : (s : List ℕ) (n : ℕ) {m at : ℕ} → m ≡ 0 → AtLine s (stage_line_at n) at → AtLine s (edge_line_at n m) at
end_at s n none p = rw none (first_edge_at s n _ p)

pub no_edges : (s : List ℕ) (k n : ℕ) {m at : ℕ} → m ≡ 0 → AtLine s (stage_line_at n) at → (es ws : List ℕ) → EdgesRead s k n m es ws (Ok at)
no_edges s k n none p es ws = record { answer = rw none; place = end_at s n none p }

-- a sheet in the tables that were read, with its clearing times
module _ (k n m : ℕ) (gs ds es ws : List ℕ) where
  abbrev whole : Sheet
  whole = with_clearing gs (tabled k n m ds es ws)

  kinds_are : k ≡ whole.kinds
  unfolding with_clearing tabled
  kinds_are = refl

  sheet_held : (text : List ℕ) → 1024 ≤ length ds → 2048 ≤ length es → 16384 ≤ length ws → sheet_of (lines 7 text) ≡ judged whole
      → SheetLoaded text k n m ds es ws
  unfolding with_clearing stages edges dur edge source target wait
  sheet_held text ld le lw e =
      let ns = tabled_stages k n m ds es ws in
      let ms = tabled_edges k n m ds es ws in
      let ks = kinds_are in
      record {
        sheet = whole;
        is_read = e;
        held = record {
          in_range = sheet_in_range (lines 7 text) whole e;
          kinds_are = ks;
          stages_are = sym ns;
          edges_are = sym ms;
          durations_in = record { room = ld; entries = λ i h l b. sym (tabled_dur k n m ds es ws i h (omega arith) (omega arith)) };
          ends_in = record {
            room = le;
            sources = λ d l. sym (tabled_source k n m ds es ws d (omega arith));
            targets = λ d l. sym (tabled_target k n m ds es ws d (omega arith));
          };
          waits_in = record { room = lw; entries = λ d h j l b c. sym (tabled_wait k n m ds es ws d h j (omega arith) (omega arith) (omega arith)) };
        };
      }

-- the lines, one part after the other

module _ {s : List ℕ} {k n m at : ℕ} (first : FirstLines s k n m at) (ds : List ℕ) where
  pub stages_refused : {f : Fault} → StagesRead s k n ds (Err f) → sheet_of (lines 7 s) ≡ fault_judged f
  unfolding sheet_of
  stages_refused stages = rw (first.sizes, first.clearing.1, stages.answer)

  module _ {place : ℕ} (stages : StagesRead s k n ds (Ok place)) (es ws : List ℕ) where
    pub edges_refused : {f : Fault} → EdgesRead s k n m es ws (Err f) → sheet_of (lines 7 s) ≡ fault_judged f
    unfolding sheet_of
    edges_refused edges = rw (first.sizes, first.clearing.1, stages.answer, edges.answer)

    module _ {next : ℕ} (edges : EdgesRead s k n m es ws (Ok next)) where
      sheet_is : (r : Result (Unit {0}) Fault) → answered r ≡ end_check (lines 7 s) n m
          → sheet_of (lines 7 s) ≡ (answered r >> judged (whole k n m first.clearing.0 ds es ws))
      unfolding sheet_of with_clearing tabled
      sheet_is r e = rw (first.sizes, first.clearing.1, stages.answer, edges.answer, ← e)

      pub all_loaded : 1024 ≤ length ds → 2048 ≤ length es → 16384 ≤ length ws → (r : Result (Unit {0}) Fault)
          → answered r ≡ end_check (lines 7 s) n m → sheet_loaded s k n m ds es ws r
      all_loaded ld le lw (Err f) e = sheet_is (Err f) e
      all_loaded ld le lw (Ok u) e = sheet_held k n m first.clearing.0 ds es ws s ld le lw (sheet_is (Ok u) e)

pub ruleset whole_sheet = (returned, first_edge_at, end_at, no_edges, stages_refused, edges_refused, all_loaded)
