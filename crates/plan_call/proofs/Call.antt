-- What each way through the call answers and leaves: the model's. Assumes nothing.
use Prim.Native.Nat.{ℕ, ◌≤◌, ◌<◌}
use mathlib.Core.Path.{◌≡◌, refl, sym, ap, ◌∙◌}
use mathlib.Core.Logic.{◌⊎◌, inl, inr}
use mathlib.Core.Bool.{Bool, true, false}
use mathlib.Core.List.{List}
use native.Mathlib.Omega.{arith}
use lib.Dec.{leb}
use lib.ListN.{length}
use Rattle.std.specs.Prelude.{Ok, Err}
use Rattle.std.proofs.lemmas.Bool.Decides.{nat_tests}
use Rattle.model.specs.declared.Copy.{Copy}
use Rattle.model.specs.declared.Fault.{Fault}
use Rattle.model.specs.declared.Fault.TheVariants as F
use Rattle.model.specs.declared.Sizes as Code
use Rattle.model.specs.Sheet.{Sheet, InRange, stages, edges}
use Rattle.model.specs.SheetText.{Judged, refused, judged, ◌>>◌, check, edge_line_at, read_sheet}
use Rattle.model.specs.Judge.{no_repeat, not_circular, first_repeat}
use Rattle.model.specs.Calls.{SheetTables, sheet_tables, long_enough, sizes, Sizes, Buffers, buffers_long_enough, Totals, with_sheet, plan_after, plan_from}
use Rattle.model.specs.Calls.{plan_call, read_from, read_call}
use Rattle.model.specs.Faults.{fault_judged, fault_number, fault_line}
use Rattle.model.proofs.Bounded.{on}
use Rattle.model.proofs.SheetText.{read_in_range, refused≢judged, judged_inj, first_judged}
use Rattle.model.proofs.Calls.{no_repeat_self, call_short}
use Rattle.model.specs.Held.{ClearingIn, SheetHeld}
use Rattle.model.proofs.Held.{durations_in, ends_in, waits_in}
use Rattle.sheet.specs.declared.SheetRead.{SheetRead}
use Rattle.sheet.specs.Answers.{ReadDone, SheetDone}
use Rattle.plan_call.specs.declared.Outcome.{Outcome}
use Rattle.plan_call.specs.Answers.{refusing, copies_of, buffers_of, done_with}
use Rattle.plan_call.specs.Says.{SheetSays, TablesSays}

-- a fault that `read` gives, or a short table
long_all : (t : SheetTables) (starts : List ℕ) (l : List Copy) (out : List ℕ) → 1024 ≤ length starts → 1024 ≤ length l
    → buffers_long_enough (buffers_of t starts l out) ≡ long_enough t
unfolding buffers_long_enough
long_all t starts l out a b = grind (arith, nat_tests)

short_lent : (t : SheetTables) (starts : List ℕ) (l : List Copy) (out : List ℕ) → (length starts < 1024) ⊎ (length l < 1024)
    → buffers_long_enough (buffers_of t starts l out) ≡ false
unfolding buffers_long_enough
short_lent t starts l out a = grind (arith, nat_tests)

-- the call leaves all that is lent, and answers a fault
abbrev Refuses : List ℕ → SheetTables → List ℕ → List ℕ → List ℕ → ℕ → SheetTables → Fault → Type 0
Refuses text t starts rows out records t' f = TablesSays text t starts records out t' starts rows out (refusing f)

pub lent_short : {text : List ℕ} {t : SheetTables} {starts rows out : List ℕ} {records : ℕ}
    → (length starts < 1024) ⊎ (records < 1024) → Refuses text t starts rows out records t F.ShortTable
unfolding copies_of
lent_short {text} {t} {starts} {rows} {out} {records} a =
    record {
      room = omega arith;
      within = omega arith;
      called = λ l n. sym (call_short text (buffers_of t starts l out) (short_lent t starts l out (rw n a)));
    }

-- starts that are too short, and a list that is
module _ (text : List ℕ) (t : SheetTables) (starts rows out : List ℕ) (records : ℕ) where
  pub starts_short : length starts < 1024 → Refuses text t starts rows out records t F.ShortTable
  starts_short a = lent_short (inl a)

  pub list_short : records < 1024 → Refuses text t starts rows out records t F.ShortTable
  list_short a = lent_short (inr a)

-- what `read` says of `plan`

same_fault : {A B : Type 0} (m a n b : ℕ) → ◌≡◌ {A = Judged A} (refused m a) (refused n b) → ◌≡◌ {A = Judged B} (refused m a) (refused n b)
same_fault m a n b e = let p : m ≡ n = cc in let q : a ≡ b = cc in rw (p, q)

module _ (t : SheetTables) (starts : List ℕ) (l : List Copy) (out : List ℕ) where
  abbrev lent : Buffers
  lent = buffers_of t starts l out

  refused_after : (s : Sheet) (b : Bool) (n a : ℕ) (f : Fault) → fault_judged {A = Sizes} f ≡ ((check b n a >> judged s) >> judged (sizes s))
      → done_with (fault_judged f) (buffers_of (sheet_tables s t) starts l out) ≡ plan_after lent s ((check b n a >> judged s) >> not_circular s)
  unfolding with_sheet
  refused_after s true n a f e = absurd (refused≢judged e)
  refused_after s false n a f e = ap (λ (j : Judged Totals). done_with j (buffers_of (sheet_tables s t) starts l out))
      (same_fault (fault_number f) (fault_line f) n a e)

  refused_from : (j : Judged Sheet) (f : Fault) → fault_judged f ≡ (read_from t j).answer
      → done_with (fault_judged f) (buffers_of (read_from t j).tables starts l out) ≡ plan_from lent j
  unfolding no_repeat
  refused_from (refused n a) f e = ap (λ (j : Judged Totals). done_with j lent) (same_fault (fault_number f) (fault_line f) n a e)
  refused_from (judged s) f e = refused_after s (leb (edges s) (first_repeat s)) 6 (edge_line_at (stages s) (first_repeat s)) f e

-- the sheet that was read, and that no edge of it is repeated
pub record WasRead (text : List ℕ) (t t' : SheetTables) (z : Code.Sizes) (clearing : List ℕ) (s : Sheet) : Type 0 where
  pub long : long_enough t ≡ true
  pub sheet : read_sheet text ≡ judged s
  pub unrepeated : no_repeat s ≡ judged s
  pub sizes_are : sizes s ≡ record { kinds = z.kinds; stages = z.stages; edges = z.edges }
  pub tables : t' ≡ sheet_tables s t
  pub cleared : ClearingIn s clearing

pub read_refuses : {text : List ℕ} {t t' : SheetTables} {starts rows out : List ℕ} {records : ℕ} (f : Fault)
    → 1024 ≤ length starts → 1024 ≤ records → ReadDone text t t' (Err f) → Refuses text t starts rows out records t' f
unfolding copies_of plan_call read_call
read_refuses {text} {t} {t'} {starts} {rows} {out} {records} f a b r =
    record {
      room = omega arith;
      within = omega arith;
      called = λ l n.
          rw (long_all t starts l out a (rw n b))
          (on (long_enough t)
          (λ g.
          let e : fault_judged f ≡ (read_from t (read_sheet text)).answer = rw g at r.answer in
          let u : t' ≡ (read_from t (read_sheet text)).tables = rw g at r.tables in
          rw (g, u) (refused_from t starts l out (read_sheet text) f e))
          (λ g.
          let e : fault_judged {A = Sizes} f ≡ refused 1 0 = rw g at r.answer in
          let u : t' ≡ t = rw g at r.tables in
          rw (g, u) (ap (λ (j : Judged Totals). done_with j (buffers_of t starts l out)) (same_fault (fault_number f) (fault_line f) 1 0 e))));
    }

was_read : (t : SheetTables) (j : Judged Sheet) (z : Sizes) → (read_from t j).answer ≡ judged z
    → (s : Sheet) × (j ≡ judged s) × (no_repeat s ≡ judged s) × (sizes s ≡ z) × ((read_from t j).tables ≡ sheet_tables s t)
was_read t (refused n a) z e = absurd (refused≢judged e)
was_read t (judged s) z e =
    let f = first_judged (no_repeat s) (λ u. judged (sizes s)) e in
    (s, refl, no_repeat_self s f.0 f.1, judged_inj f.2, refl)

pub read_succeeds : {text : List ℕ} {t t' : SheetTables} {read : SheetRead} (z : Code.Sizes) → read.answer ≡ Ok z → SheetDone text t t' read
    → (s : Sheet) × WasRead text t t' z read.clearing s
unfolding read_call
read_succeeds {text} {t} {t'} {read} z is r =
    let done : ReadDone text t t' (Ok z) = rw is at r.done in
    on (long_enough t)
    (λ g.
    let e : judged (record { kinds = z.kinds; stages = z.stages; edges = z.edges }) ≡ (read_from t (read_sheet text)).answer = rw g at done.answer in
    let w = was_read t (read_sheet text) _ (sym e) in (
      w.0,
      record {
        long = g;
        sheet = w.1;
        unrepeated = w.2;
        sizes_are = w.3;
        tables = (rw g at done.tables) ∙ w.4;
        cleared = r.clearing g w.0 w.1;
      },
    ))
    (λ g. absurd (refused≢judged (sym (rw g at done.answer))))

module _ {text : List ℕ} {t t' : SheetTables} {z : Code.Sizes} {clearing : List ℕ} {s : Sheet} (w : WasRead text t t' z clearing s) where
  in_range : InRange s
  in_range = read_in_range text s w.sheet

  rooms : (1024 ≤ length t.durations) × (2048 ≤ length t.ends) × (16384 ≤ length t.waits)
  unfolding long_enough
  rooms = let h = w.long in grind (arith, nat_tests)

  -- the tables hold it
  pub sheet_held : SheetHeld s z.kinds z.stages z.edges t'.durations t'.ends t'.waits
  unfolding sizes sheet_tables
  sheet_held =
      rw w.tables
      (record {
        in_range = in_range;
        kinds_are = sym (ap (λ (x : Sizes). x.kinds) w.sizes_are);
        stages_are = sym (ap (λ (x : Sizes). x.stages) w.sizes_are);
        edges_are = sym (ap (λ (x : Sizes). x.edges) w.sizes_are);
        durations_in = durations_in s in_range t.durations rooms.0;
        ends_in = ends_in s in_range t.ends rooms.1;
        waits_in = waits_in s in_range t.waits rooms.2;
      })

  -- what is planned of it is what the call plans
  pub sheet_called : {starts out starts' rows out' : List ℕ} {records : ℕ} {r : Outcome} → 1024 ≤ length starts → 1024 ≤ records → 4096 ≤ length rows
      → SheetSays s starts out starts' rows out' r → TablesSays text t starts records out t' starts' rows out' r
  unfolding plan_call
  sheet_called {starts} {out} a b c says =
      let d = says.within in
      record {
        room = omega arith;
        within = omega arith;
        called = λ l e.
            rw w.tables (says.called t l ∙ rw (long_all t starts l out a (rw e b), w.long, w.sheet, w.unrepeated));
      }
