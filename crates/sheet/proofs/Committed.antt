-- What is handed over of tables that hold a sheet, and what is answered of it: the model's `read_from`. Assumes nothing.
use Prim.Native.Nat.{ℕ, ◌*◌, ◌≤◌, ◌<◌}
use mathlib.Core.Path.{◌≡◌, sym, ◌∙◌}
use mathlib.Core.List.{List, []}
use native.Mathlib.Omega.{arith}
use borrow.Author.Tests.{le-leb, lt-leb, le-ltb}
use lib.Dec.{ltb}
use lib.ListN.{length, take}
use Rattle.std.specs.Prelude.{Result, None, Some}
use Rattle.std.proofs.lemmas.Bool.Decides.{nat_tests}
use Rattle.model.specs.Bounded.{below}
use Rattle.model.specs.Sheet.{Sheet, edges}
use Rattle.model.specs.SheetText.{refused, judged, ◌>>◌, edge_line_at}
use Rattle.model.specs.Judge.{first_repeat, no_repeat}
use Rattle.model.specs.Calls.{SheetTables, tables_of, sizes, sheet_tables}
use Rattle.model.specs.Held.{SheetHeld}
use Rattle.model.specs.declared.Fault.{Fault}
use Rattle.model.specs.declared.Sizes as Code
use Rattle.tables.specs.Entries.{copied, in_rows, in_blocks}
use Rattle.tables.proofs.Entries.{front_none, blocks_none}
use Rattle.tables.proofs.SheetCopied.{durations_copied, ends_front_copied, waits_copied}
use Rattle.sheet.specs.Answers.{read_answer}
use Rattle.sheet.specs.Commit.{HandedOver}
use Rattle.sheet.specs.Repeats.{EdgesGiven}

-- a number found below another, or none
below_found : (n x : ℕ) {e : ℕ} → Some e ≡ below n x → (e < n) × (x ≡ e)
below_found n x q = grind (arith, nat_tests)

below_none : (n x : ℕ) → None ≡ below n x → n ≤ x
below_none n x q = grind (arith, nat_tests)

module _ {s : Sheet} {k n m : ℕ} {ds es ws : List ℕ} (h : SheetHeld s k n m ds es ws) where
  pub edges_given : EdgesGiven s m es
  edges_given = record { in_range = h.in_range; edges_are = h.edges_are; ends_in = h.ends_in }

  -- fault 6, or the sizes

  pub repeated : {e : ℕ} → Some e ≡ below m (first_repeat s) → refused 6 (edge_line_at n e) ≡ (no_repeat s >> judged (sizes s))
  unfolding no_repeat
  repeated {e} q =
      let found = below_found m (first_repeat s) q in
      rw (h.stages_are, found.1, lt-leb (edges s) e (omega (arith, found.0, h.edges_are)))

  pub unrepeated : None ≡ below m (first_repeat s) → judged (record { kinds = k; stages = n; edges = m }) ≡ (no_repeat s >> judged (sizes s))
  unfolding no_repeat sizes
  unrepeated q =
      let none = below_none m (first_repeat s) q in
      rw (h.kinds_are, h.stages_are, h.edges_are, le-leb (edges s) (first_repeat s) (omega (arith, h.edges_are)))

  -- the copies are the sheet's tables

  pub handed_over : (t : SheetTables) {ds' es' ws' : List ℕ} {r : Result Code.Sizes Fault} → ds' ≡ copied (in_rows 0 n k) ds t.durations
      → es' ≡ copied (λ x. ltb x (length (take (2 * m) es))) (take (2 * m) es) t.ends → ws' ≡ copied (in_blocks m k) ws t.waits
      → read_answer r ≡ (no_repeat s >> judged (sizes s)) → HandedOver s t (tables_of ds' es' ws') r
  unfolding sheet_tables
  handed_over t d e w a =
      let d' = d ∙ sym (durations_copied h.kinds_are h.stages_are h.durations_in t.durations) in
      let e' = e ∙ sym (ends_front_copied h.edges_are h.ends_in (omega (arith, h.edges_are, h.in_range.edges_1024, h.ends_in.room)) t.ends) in
      let w' = w ∙ sym (waits_copied h.kinds_are h.edges_are h.waits_in t.waits) in
      record { answer = a; tables = λ i. record { durations = d' i; ends = e' i; waits = w' i } }

  -- a sheet without edges: its ends and waits are as they were
  pub stages_handed_over : m ≡ 0 → (old : List ℕ) {ds' : List ℕ} {r : Result Code.Sizes Fault} → ds' ≡ copied (in_rows 0 n k) ds old
      → read_answer r ≡ judged (record { kinds = k; stages = n; edges = m }) → HandedOver s (tables_of old es ws) (tables_of ds' es ws) r
  stages_handed_over none old d a =
      let no_first : None ≡ below m (first_repeat s) = rw (none, le-ltb (first_repeat s) 0 (omega arith)) in
      handed_over (tables_of old es ws) d (rw none (sym (front_none [] es))) (rw (none, blocks_none ws ws k)) (a ∙ unrepeated no_first)
