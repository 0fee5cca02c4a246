-- The call `read`: from a fault, or the sheet that was handed over, to the model's `read_call`, and to the clearing times beside it. Assumes nothing.
use Prim.Native.Nat.{ℕ, ◌≤◌, ◌<◌}
use mathlib.Core.Path.{◌≡◌, refl, sym, ap, ◌∙◌}
use mathlib.Core.Bool.{true, false}
use mathlib.Core.List.{List, [], ◌∷◌}
use native.Mathlib.Omega.{arith}
use borrow.Author.Tests.{le-leb, lt-leb}
use lib.ListN.{length, get_or}
use Rattle.std.specs.Prelude.{Result, Ok, Err}
use Rattle.std.proofs.lemmas.Bool.Decides.{nat_tests}
use Rattle.std.proofs.lemmas.Slice.Eq.{text_from_reads}
use Rattle.model.specs.Sheet.{Sheet, clear}
use Rattle.model.specs.Lines.{lines}
use Rattle.model.specs.SheetText.{refused, sheet_of, read_sheet}
use Rattle.model.specs.Faults.{fault_judged}
use Rattle.model.specs.Calls.{SheetTables, tables_of, long_enough, read_call}
use Rattle.model.specs.Held.{ClearingIn}
use Rattle.model.specs.declared.Fault.{Fault}
use Rattle.model.specs.declared.Fault.TheVariants.{ShortTable}
use Rattle.model.specs.declared.Sizes as Code
use Rattle.model.proofs.Bounded.{never}
use Rattle.model.proofs.SheetText.{get_or_table, refused≢judged, head_of}
use Rattle.judge.specs.Judging.{HeaderRead, FirstLine, ClearingRead, times_row}
use Rattle.judge.specs.declared.ClearingValues.{ClearingValues}
use Rattle.sheet.specs.Answers.{ReadDone, refusing, SheetDone}
use Rattle.sheet.specs.Commit.{HandedOver}
use Rattle.sheet.specs.Loading.{SheetLoaded}

-- tables that are long enough

pub enough : (ds es ws : List ℕ) → 1024 ≤ length ds → 2048 ≤ length es → 16384 ≤ length ws → long_enough (tables_of ds es ws) ≡ true
unfolding long_enough
enough ds es ws d e w = grind (arith, nat_tests)

pub tables_long : (ds es ws : List ℕ) → long_enough (tables_of ds es ws) ≡ true → (1024 ≤ length ds) × (2048 ≤ length es) × (16384 ≤ length ws)
unfolding long_enough
tables_long ds es ws l = (grind (arith, nat_tests), grind (arith, nat_tests), grind (arith, nat_tests))

-- what is judged of a sheet by its length

pub sheet_long : (text : List ℕ) → 65000 < length text → read_sheet text ≡ refused 2 0
unfolding read_sheet
sheet_long text l = rw (lt-leb (length text) 65000 l)

pub short_sheet : (text : List ℕ) → length text ≤ 65000 → read_sheet text ≡ sheet_of (lines 7 text)
unfolding read_sheet
short_sheet text l = rw (le-leb (length text) 65000 l)

-- a fault leaves everything as it was

pub read_short : (text : List ℕ) (t : SheetTables) → long_enough t ≡ false → ReadDone text t t (Err ShortTable)
unfolding read_call
read_short text t l = record { answer = rw l; tables = rw l }

pub read_refused : (text : List ℕ) (t : SheetTables) (f : Fault) → long_enough t ≡ true → read_sheet text ≡ fault_judged f → ReadDone text t t (Err f)
unfolding read_call
read_refused text t f l e = record { answer = rw (l, e); tables = rw (l, e) }

-- by the lines
module _ {text : List ℕ} (short : length text ≤ 65000) (t : SheetTables) (long : long_enough t ≡ true) where
  pub lines_refused : {f : Fault} → sheet_of (lines 7 text) ≡ fault_judged f → ReadDone text t t (Err f)
  lines_refused e = read_refused text t _ long (short_sheet text short ∙ e)

  pub lines_handed : {k n m : ℕ} {ds es ws : List ℕ} (l : SheetLoaded text k n m ds es ws) {u : SheetTables} {r : Result Code.Sizes Fault}
      → HandedOver l.sheet t u r → ReadDone text t u r
  unfolding read_call
  lines_handed l h =
      let e = short_sheet text short ∙ l.is_read in
      record { answer = h.answer ∙ rw (long, e); tables = h.tables ∙ rw (long, e) }

-- with the clearing times

pub short_done : (text : List ℕ) (t : SheetTables) → long_enough t ≡ false → SheetDone text t t (refusing ShortTable)
short_done text t l = record { done = read_short text t l; clearing = λ e. absurd (never e l) }

pub refused_done : (text : List ℕ) (t : SheetTables) (f : Fault) → long_enough t ≡ true → read_sheet text ≡ fault_judged f → SheetDone text t t (refusing f)
refused_done text t f l e = record { done = read_refused text t f l e; clearing = λ long s q. absurd (refused≢judged (sym e ∙ q)) }

pub header_refused : (text : List ℕ) → length text ≤ 65000 → {f : Fault} → HeaderRead text (Err f) → read_sheet text ≡ fault_judged f
unfolding sheet_of
header_refused text l q = short_sheet text l ∙ rw q.answer

module _ {text : List ℕ} (short : length text ≤ 65000) {k n m at : ℕ} (first : FirstLine text k n m at) where
  pub clearing_refused : {f : Fault} → ClearingRead text k (Err f) → read_sheet text ≡ fault_judged f
  unfolding sheet_of
  clearing_refused q = short_sheet text short ∙ rw (first.sizes, q.answer)

  clearing_in : (s : Sheet) (times : List ℕ) → length times ≡ 4 → s.kinds ≡ k → s.clearing ≡ times_row k times → ClearingIn s times
  unfolding clear
  clearing_in s times four ks gs =
      record {
        room = omega arith;
        entries = λ h l. sym (ap (λ (l : List ℕ). get_or l h 0) gs ∙ get_or_table k (λ h. get_or times h 0) 0 h (omega (arith, ks)));
      }

  -- of the clearing times, in whichever way they are written
  pub sheet_done_by : {t u : SheetTables} {r : Result Code.Sizes Fault} {g : ClearingValues} {times : List ℕ} → length g.times ≡ 4
      → ClearingRead text k (Ok g) → times ≡ g.times → ReadDone text t u r → SheetDone text t u (record { answer = r; clearing = times })
  sheet_done_by {t} {u} {r} {g} four q e d =
      record {
        done = d;
        clearing = λ long s p.
            let own = head_of (lines 7 text) _ (times_row k g.times) s first.sizes q.answer (sym (short_sheet text short) ∙ p) in
            rw e (clearing_in s g.times four own.0 own.1);
      }

  pub sheet_done : {t u : SheetTables} {r : Result Code.Sizes Fault} {g : ClearingValues} → length g.times ≡ 4 → ClearingRead text k (Ok g)
      → ReadDone text t u r → SheetDone text t u (record { answer = r; clearing = g.times })
  sheet_done four q d = sheet_done_by four q refl d

-- four times are a list
pub four_times : (times : List ℕ) → length times ≡ 4 → get_or times 0 0 ∷ get_or times 1 0 ∷ get_or times 2 0 ∷ get_or times 3 0 ∷ [] ≡ times
four_times times e = sym (text_from_reads times _ e (refl, (refl, (refl, (refl, tt)))))

pub ruleset refusals = (short_done, refused_done, header_refused, clearing_refused)
