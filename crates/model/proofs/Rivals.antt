-- `Valid` and `Assignment` stand in hypotheses of demand 3 (specs/Demand.antt). A clause too many in one of them would excuse us from rivals, one too few
-- in `Valid` would say less of our own plan, and demand 3 could still be proved. So two tables hold them to plans and to board numbers: each row says that
-- it is valid, or an assignment, or else which clause fails. Its test is found by `search` from the clause's own text and proved to be exact, so where a
-- clause changes its meaning it is a row that no longer holds. At the end demand 3 is read off for some of these rivals. Assumes nothing.
use Prim.Native.Nat.{ℕ, ◌+◌, ◌*◌, ◌≤◌, ◌<◌}
use Prim.Native.String.{String}
use mathlib.Core.Path.{◌≡◌, refl, sym, ap, ◌∙◌}
use mathlib.Core.Logic.{◌⊎◌, inl, inr, ⊎_elim}
use mathlib.Core.Bool.{Bool, true, false, cond, ◌&&◌}
use mathlib.Core.List.Memᴰ
use mathlib.Core.List.{List, [], ◌∷◌, map, Memᴰ}
use native.Mathlib.Omega.{arith}
use borrow.Author.Tests.{leb-true, eqb-true, le-leb, eq-eqb}
use lib.Dec.{leb, eqb}
use lib.ListN.{length, get_or, take}
use Rattle.model.specs.Bounded.{every}
use Rattle.model.specs.Sheet.{Sheet, stages, edges, clear, dur, edge, source, target, wait, same_edge, has_kind, smallest_over, preferred}
use Rattle.model.specs.Lines.{digit, number, line_of, lines}
use Rattle.model.specs.SheetText.{judged, form, between, header_check, header, stage_line_at, edge_line_at, stage_check, stage_line, edge_check}
use Rattle.model.specs.SheetText.{edge_line, clearing_line_at, clearing_check, clearing_line, end_check, sheet_of, read_sheet}
use Rattle.model.specs.Judge.{repeats, first_repeat, no_repeat, not_circular, judge}
use Rattle.model.specs.Paths.{can_run, next, running_order, circular}
use Rattle.model.specs.Starts.{arrival, inputs_by, start_after, start_rule, start, earliest_end}
use Rattle.model.specs.Copies.{serves, has_successor, sink_kind, serves_all, common_kind, serving_kind, picked, copy_rule, has_copy}
use Rattle.model.specs.Plans.{Copy, ◌∈◌, end, freed, at, last_end, NoOverlap, InTime, Valid, boards_of, boards_used, Assignment}
use Rattle.model.specs.Boards.{before, unassigned, ends_with, plan}
use Rattle.model.specs.Tables.{over}
use Rattle.model.specs.Calls.{Buffers, Totals, totals, Planned, buffers_long_enough, with_plan, plan_call}
use Rattle.model.specs.Demand.{Optimal}
use Rattle.model.proofs.Cases.{bytes, cases}
use Rattle.model.proofs.Bounded.{by_test, and_left, and_right, and_both, never, every_at, every_all}
use Rattle.model.proofs.Calls.{call_accepted, written}
use Rattle.model.proofs.Demand.{demand_3}
use Rattle.model.proofs.Output.{answer_agrees}

-- tests

-- a fact, and a test that passes exactly where it holds
record Decision (A : Type 0) : Type 0 where
  test : Bool
  holds : test ≡ true → A
  passes : A → test ≡ true

abbrev passed : (t : Bool) → Decision (t ≡ true)
passed t = record { test = t; holds = λ e. e; passes = λ e. e }

abbrev at_most : (m n : ℕ) → Decision (m ≤ n)
at_most m n = record { test = leb m n; holds = leb-true m n; passes = le-leb m n }

abbrev equal : (m n : ℕ) → Decision (m ≡ n)
equal m n = record { test = eqb m n; holds = eqb-true m n; passes = eq-eqb m n }

module _ {A B : Type 0} where
  abbrev restated : Decision A → (A → B) → (B → A) → Decision B
  restated a f g = record { test = a.test; holds = λ t. f (a.holds t); passes = λ y. a.passes (g y) }

  abbrev both : Decision A → Decision B → Decision (A × B)
  both a b =
      record {
        test = a.test && b.test;
        holds = λ t. (a.holds (and_left a.test b.test t), b.holds (and_right a.test b.test t));
        passes = λ f. and_both a.test b.test (a.passes f.0) (b.passes f.1);
      }

  abbrev either : Decision A → Decision B → Decision (A ⊎ B)
  either a b =
      record {
        test = cond a.test true b.test;
        holds = by_test (λ t. t ≡ true → A ⊎ B) a.test (λ t e. inl (a.holds t)) (λ t e. inr (b.holds e));
        passes = ⊎_elim (λ x. rw (a.passes x)) (λ y. by_test (λ t. t ≡ true) a.test (λ t. refl) (λ t. b.passes y));
      }

  abbrev given : Decision A → Decision B → Decision (A → B)
  given a b =
      record {
        test = cond a.test b.test true;
        holds = λ t x. b.holds (rw (a.passes x) at t);
        passes = λ f. by_test (λ t. t ≡ true) a.test (λ t. b.passes (f (a.holds t))) (λ t. refl);
      }

abbrev all_below : {A : ℕ → Type 0} (n : ℕ) → ((i : ℕ) → Decision (A i)) → Decision ((i : ℕ) → i < n → A i)
all_below n d =
    record {
      test = every n (λ i. (d i).test);
      holds = λ t i l. (d i).holds (every_at n _ t i l);
      passes = λ f. every_all n _ (λ i l. (d i).passes (f i l));
    }

abbrev all_pairs : {A : ℕ → ℕ → Type 0} (n : ℕ) → ((i j : ℕ) → Decision (A i j)) → Decision ((i j : ℕ) → i < j → j < n → A i j)
all_pairs n d = restated (all_below n (λ j. all_below j (λ i. d i j))) (λ f i j l h. f j h i l) (λ f j h i l. f i j l h)

abbrev all_copies : {A : Copy → Type 0} (p : List Copy) → ((c : Copy) → Decision (A c)) → Decision ((c : Copy) → c ∈ p → A c)
all_copies [] d = record { test = true; holds = λ t c m. absurd (Memᴰ.not-nil m); passes = λ f. refl }
all_copies (b ∷ p) d =
    restated (both (d b) (all_copies p d)) (λ f c m. ⊎_elim (λ e. rw e f.0) (λ g. f.1 c g) (Memᴰ.cases_cons m))
    (λ f. (f b (Memᴰ.head refl), λ c m. f c (Memᴰ.tail m)))

abbrev some_copy : {A : Copy → Type 0} (p : List Copy) → ((c : Copy) → Decision (A c)) → Decision ((c : Copy) × (c ∈ p) × A c)
some_copy [] d = record { test = false; holds = λ t. absurd (never t refl); passes = λ r. absurd (Memᴰ.not-nil r.1) }
some_copy (b ∷ p) d =
    restated (either (d b) (some_copy p d)) (⊎_elim (λ x. (b, Memᴰ.head refl, x)) (λ q. (q.0, Memᴰ.tail q.1, q.2)))
    (λ r. ⊎_elim (λ e. inl (rw e at r.2)) (λ g. inr (r.0, g, r.2)) (Memᴰ.cases_cons r.1))

ruleset decide = (passed, at_most, equal, both, either, given, all_below, all_pairs, all_copies, some_copy)

in_time : (s : Sheet) (e : ℕ) (b c : Copy) → Decision (InTime s e b c)
in_time s e b c = restated (both (search decide) (search decide)) (λ r. record { of_source = r.0; in_time = r.1 }) (λ r. (r.of_source, r.in_time))

-- of a fact F in clauses: the names of those that fail, and what is left of F's constructor where none does
record Clauses (F R : Type 0) : Type 0 where
  failing : List String
  holds : failing ≡ [] → R
  passes : F → failing ≡ []

not_empty : {A : Type 0} {x : A} {l : List A} → x ∷ l ≡ [] → ⊥
not_empty e = let z : ◌≡◌ {A = ℕ} 0 1 = cc in omega arith

abbrev made_by : {F R : Type 0} → R → Clauses F R
made_by f = record { failing = []; holds = λ e. f; passes = λ v. refl }

abbrev clause : {F R A : Type 0} → String → (F → A) → Decision A → Clauses F (A → R) → Clauses F R
clause {F} {R} name field d rest =
    record {
      failing = cond d.test rest.failing (name ∷ rest.failing);
      holds = by_test (λ l. l ≡ [] → R) d.test (λ t e. rest.holds e (d.holds t)) (λ t e. absurd (not_empty e));
      passes = λ v. rw (d.passes (field v)) (rest.passes v);
    }

valid : (s : Sheet) (p : List Copy) → Clauses (Valid s p) (Valid s p)
unfolding NoOverlap
valid s p =
    clause "in-range" (λ v. v.in_range) (search decide depth 8)
    (clause "has-all" (λ v. v.has_all) (search decide depth 8)
    (clause "inputs" (λ v. v.inputs) (search (decide, in_time) depth 8)
    (clause "no-overlap" (λ v. v.no_overlap) (search decide depth 8)
    (made_by (λ n i h r. record { in_range = r; has_all = h; inputs = i; no_overlap = n })))))

assignment : (s : Sheet) (p : List Copy) (bs : List ℕ) → Clauses (Assignment s p bs) (Assignment s p bs)
unfolding NoOverlap
assignment s p bs =
    clause "one-each" (λ a. a.one_each) (search decide depth 8)
    (clause "no-overlap" (λ a. a.no_overlap) (search decide depth 8)
    (made_by (λ n o. record { one_each = o; no_overlap = n })))

-- what a table says of a row, by the names that it gives: that the fact holds, or that it doesn't
abbrev pub Verdict : List String → Type 0 → Type 0
Verdict [] A = A
Verdict (name ∷ names) A = A → ⊥

verdict : {A : Type 0} (d : Clauses A A) (fails : List String) → d.failing ≡ fails → Verdict fails A
verdict d [] e = d.holds e
verdict d (name ∷ names) e = λ a. not_empty (sym e ∙ d.passes a)

verdicts : {R : Type 0} {A : R → Type 0} (d : (r : R) → Clauses (A r) (A r)) (fails : R → List String) (rows : List R)
    → map (λ r. (d r).failing) rows ≡ map fails rows → (r : R) → Memᴰ r rows → Verdict (fails r) (A r)
verdicts d fails [] e r m = absurd (Memᴰ.not-nil m)
verdicts d fails (x ∷ rows) e r m = ⊎_elim (λ q. rw q (verdict (d x) (fails x) (cc))) (λ h. verdicts d fails rows (cc) r h) (Memᴰ.cases_cons m)

-- sheets: cases K (the listing), L and M (SPEC 11.1, 11.2, 11.3), case M with a clearing time, and clearing times of two kinds (SPEC 11.12, 11.14)

abbrev pub listing : Sheet
listing =
    record {
      kinds = 2;
      clearing = 0 ∷ 0 ∷ [];
      durations = (1 ∷ 1 ∷ []) ∷ (2 ∷ 9 ∷ []) ∷ (9 ∷ 2 ∷ []) ∷ [];
      edge_list =
          record { source = 0; target = 1; waits = (0 ∷ 5 ∷ []) ∷ (5 ∷ 0 ∷ []) ∷ [] }
          ∷ record { source = 0; target = 2; waits = (0 ∷ 5 ∷ []) ∷ (5 ∷ 0 ∷ []) ∷ [] }
          ∷ [];
    }

abbrev pub case_L : Sheet
case_L = record { kinds = 1; clearing = 0 ∷ []; durations = (5 ∷ []) ∷ (5 ∷ []) ∷ []; edge_list = [] }

abbrev pub case_M : Sheet
case_M =
    record {
      kinds = 1;
      clearing = 0 ∷ [];
      durations = (5 ∷ []) ∷ (5 ∷ []) ∷ [];
      edge_list = record { source = 0; target = 1; waits = (0 ∷ []) ∷ [] } ∷ [];
    }

abbrev pub clearing_M : Sheet
clearing_M =
    record {
      kinds = 1;
      clearing = 1 ∷ [];
      durations = (5 ∷ []) ∷ (5 ∷ []) ∷ [];
      edge_list = record { source = 0; target = 1; waits = (0 ∷ []) ∷ [] } ∷ [];
    }

abbrev pub by_kind : Sheet
by_kind =
    record {
      kinds = 2;
      clearing = 1 ∷ 0 ∷ [];
      durations = (1 ∷ 9 ∷ []) ∷ (1 ∷ 9 ∷ []) ∷ (9 ∷ 1 ∷ []) ∷ (9 ∷ 1 ∷ []) ∷ [];
      edge_list =
          record { source = 0; target = 1; waits = (0 ∷ 9 ∷ []) ∷ (9 ∷ 0 ∷ []) ∷ [] }
          ∷ record { source = 2; target = 3; waits = (0 ∷ 9 ∷ []) ∷ (9 ∷ 0 ∷ []) ∷ [] }
          ∷ [];
    }

-- the bytes of a row of Cases.antt
abbrev pub case_text : ℕ → List ℕ
case_text n = bytes (get_or cases n (record { sheet = ""; printed = "" })).sheet

sheets_read : map (λ n. judge (case_text n)) (0 ∷ 1 ∷ 2 ∷ 13 ∷ 15 ∷ [])
    ≡ judged listing ∷ judged case_L ∷ judged case_M ∷ judged clearing_M ∷ judged by_kind ∷ []
unfolding stages edges edge source target same_edge digit number line_of lines
    form between header_check header clearing_line_at clearing_check clearing_line stage_line_at edge_line_at stage_check stage_line edge_check edge_line
    end_check sheet_of read_sheet
    repeats first_repeat no_repeat can_run next running_order circular not_circular judge
sheets_read = refl

-- plans

abbrev copy : ℕ → ℕ → ℕ → ℕ → Copy
copy stage kind board start = record { stage = stage; kind = kind; board = board; start = start }

-- the listing's plan
abbrev pub ours : List Copy
ours = copy 0 0 0 0 ∷ copy 0 1 0 0 ∷ copy 1 0 0 1 ∷ copy 2 1 0 1 ∷ []

-- one copy a stage, so stage 2 waits for data from the other kind
abbrev pub single : List Copy
single = copy 0 0 0 0 ∷ copy 1 0 0 1 ∷ copy 2 1 0 6 ∷ []

-- unsorted; stages twice on a kind, on two boards at once or in turn on one; late starts; boards 7 and 900, of both kinds
abbrev pub sprawling : List Copy
sprawling =
    copy 2 1 900 10000000000 ∷ copy 1 0 7 1 ∷ copy 0 0 7 0 ∷ copy 1 0 7 3 ∷ copy 0 1 900 40 ∷ copy 0 0 900 0 ∷ copy 2 1 900 6 ∷ copy 2 0 900 1 ∷ []

-- two stages in turn on kind 0, and two on kind 1
abbrev pub in_turn : List Copy
in_turn = copy 0 0 0 0 ∷ copy 2 1 0 0 ∷ copy 1 0 0 1 ∷ copy 3 1 0 1 ∷ []

pub record Rival : Type 0 where
  pub sheet : Sheet
  pub copies : List Copy
  -- the clauses of `Valid` that fail
  pub fails : List String

abbrev pub rivals : List Rival
rivals =
    record { sheet = listing; copies = single; fails = [] }
    ∷ record { sheet = listing; copies = sprawling; fails = [] }
    ∷ record { sheet = listing; copies = ours; fails = [] }
    -- stage 2 twice, once before its input is there; when it is
    ∷ record { sheet = listing; copies = copy 2 1 1 5 ∷ single; fails = "inputs" ∷ [] }
    ∷ record { sheet = listing; copies = copy 2 1 1 6 ∷ single; fails = [] }
    -- stage 1 while stage 0 still runs; when it has ended
    ∷ record { sheet = listing; copies = copy 0 0 0 0 ∷ copy 1 0 1 0 ∷ copy 2 1 0 6 ∷ []; fails = "inputs" ∷ [] }
    ∷ record { sheet = listing; copies = copy 0 0 0 0 ∷ copy 1 0 1 1 ∷ copy 2 1 0 6 ∷ []; fails = [] }
    -- `ours` without the copy that gives stage 2 its input
    ∷ record { sheet = listing; copies = copy 0 0 0 0 ∷ copy 1 0 0 1 ∷ copy 2 1 0 1 ∷ []; fails = "inputs" ∷ [] }
    -- `single` without stage 1, without stage 2; no copy of stage 0
    ∷ record { sheet = listing; copies = copy 0 0 0 0 ∷ copy 2 1 0 6 ∷ []; fails = "has-all" ∷ [] }
    ∷ record { sheet = listing; copies = copy 0 0 0 0 ∷ copy 1 0 0 1 ∷ []; fails = "has-all" ∷ [] }
    ∷ record { sheet = case_L; copies = copy 1 0 0 0 ∷ []; fails = "has-all" ∷ [] }
    -- stage 1 twice on one board, before the first has ended; when it has; on another board
    ∷ record { sheet = listing; copies = copy 1 0 0 2 ∷ copy 0 0 0 0 ∷ copy 2 1 0 6 ∷ copy 1 0 0 1 ∷ []; fails = "no-overlap" ∷ [] }
    ∷ record { sheet = listing; copies = copy 1 0 0 3 ∷ copy 0 0 0 0 ∷ copy 2 1 0 6 ∷ copy 1 0 0 1 ∷ []; fails = [] }
    ∷ record { sheet = listing; copies = copy 1 0 1 2 ∷ copy 0 0 0 0 ∷ copy 2 1 0 6 ∷ copy 1 0 0 1 ∷ []; fails = [] }
    -- the same copy twice
    ∷ record { sheet = listing; copies = copy 2 1 0 6 ∷ single; fails = "no-overlap" ∷ [] }
    -- two stages on one board at once; in turn; on two boards
    ∷ record { sheet = listing; copies = copy 0 0 0 0 ∷ copy 1 0 0 1 ∷ copy 2 0 0 2 ∷ []; fails = "no-overlap" ∷ [] }
    ∷ record { sheet = listing; copies = copy 0 0 0 0 ∷ copy 1 0 0 1 ∷ copy 2 0 0 3 ∷ []; fails = [] }
    ∷ record { sheet = case_L; copies = copy 0 0 0 0 ∷ copy 1 0 0 0 ∷ []; fails = "no-overlap" ∷ [] }
    ∷ record { sheet = case_L; copies = copy 0 0 0 0 ∷ copy 1 0 1 0 ∷ []; fails = [] }
    -- a board taken again when its copy has ended; when it has cleared; the same with the later copy first; another board
    ∷ record { sheet = clearing_M; copies = copy 0 0 0 0 ∷ copy 1 0 0 5 ∷ []; fails = "no-overlap" ∷ [] }
    ∷ record { sheet = clearing_M; copies = copy 0 0 0 0 ∷ copy 1 0 0 6 ∷ []; fails = [] }
    ∷ record { sheet = clearing_M; copies = copy 1 0 0 5 ∷ copy 0 0 0 0 ∷ []; fails = "no-overlap" ∷ [] }
    ∷ record { sheet = clearing_M; copies = copy 1 0 0 6 ∷ copy 0 0 0 0 ∷ []; fails = [] }
    ∷ record { sheet = clearing_M; copies = copy 0 0 0 0 ∷ copy 1 0 1 5 ∷ []; fails = [] }
    -- kind 0 has to clear, kind 1 has not; with the boards the other way round
    ∷ record { sheet = by_kind; copies = copy 0 0 0 0 ∷ copy 1 0 1 1 ∷ copy 2 1 0 0 ∷ copy 3 1 0 1 ∷ []; fails = [] }
    ∷ record { sheet = by_kind; copies = copy 0 0 0 0 ∷ copy 1 0 0 1 ∷ copy 2 1 0 0 ∷ copy 3 1 1 1 ∷ []; fails = "no-overlap" ∷ [] }
    -- stage 3; kind 2; kind 1
    ∷ record { sheet = listing; copies = copy 3 0 1 0 ∷ single; fails = "in-range" ∷ [] }
    ∷ record { sheet = listing; copies = copy 0 2 0 0 ∷ single; fails = "in-range" ∷ [] }
    ∷ record { sheet = listing; copies = copy 0 1 0 0 ∷ single; fails = [] }
    ∷ []

rivals_hold : map (λ (r : Rival). (valid r.sheet r.copies).failing) rivals ≡ map (λ (r : Rival). r.fails) rivals
unfolding valid in_time stages edges clear dur edge source target wait has_kind end freed at NoOverlap
rivals_hold = refl

pub rivals_judged : (r : Rival) → Memᴰ r rivals → Verdict r.fails (Valid r.sheet r.copies)
rivals_judged = verdicts (λ r. valid r.sheet r.copies) (λ r. r.fails) rivals rivals_hold

single_valid : Valid listing single
single_valid = rivals_judged _ (Memᴰ.head refl)

sprawling_valid : Valid listing sprawling
sprawling_valid = rivals_judged _ (Memᴰ.tail (Memᴰ.head refl))

-- where `single` and `sprawling` end
pub rivals_end : (last_end listing single ≡ 8) × (last_end listing sprawling ≡ 10000000002)
unfolding dur end
rivals_end = (refl, refl)

-- board numbers for the copies of a plan

pub record Assigned : Type 0 where
  pub sheet : Sheet
  pub copies : List Copy
  pub boards : List ℕ
  -- the clauses of `Assignment` that fail
  pub fails : List String

abbrev pub assigned : List Assigned
assigned =
    -- one number on both kinds, two numbers on kind 0; a number too few; one too many
    record { sheet = listing; copies = ours; boards = 7 ∷ 7 ∷ 900 ∷ 7 ∷ []; fails = [] }
    ∷ record { sheet = listing; copies = ours; boards = 7 ∷ 7 ∷ 900 ∷ []; fails = "one-each" ∷ [] }
    ∷ record { sheet = listing; copies = ours; boards = 7 ∷ 7 ∷ 900 ∷ 7 ∷ 7 ∷ []; fails = "one-each" ∷ [] }
    -- a board for two copies, one of which ends when the other starts; two boards; a copy that starts one earlier
    ∷ record { sheet = case_M; copies = copy 0 0 0 0 ∷ copy 1 0 0 5 ∷ []; boards = 6 ∷ 6 ∷ []; fails = [] }
    ∷ record { sheet = case_M; copies = copy 0 0 0 0 ∷ copy 1 0 0 5 ∷ []; boards = 6 ∷ 5 ∷ []; fails = [] }
    ∷ record { sheet = case_M; copies = copy 0 0 0 0 ∷ copy 1 0 0 4 ∷ []; boards = 6 ∷ 6 ∷ []; fails = "no-overlap" ∷ [] }
    -- two copies at once, on one board; on two
    ∷ record { sheet = case_L; copies = copy 0 0 0 0 ∷ copy 1 0 1 0 ∷ []; boards = 6 ∷ 6 ∷ []; fails = "no-overlap" ∷ [] }
    ∷ record { sheet = case_L; copies = copy 0 0 0 0 ∷ copy 1 0 1 0 ∷ []; boards = 6 ∷ 5 ∷ []; fails = [] }
    -- a board for two copies, one of which ends, or has cleared, when the other starts; two boards
    ∷ record { sheet = clearing_M; copies = copy 0 0 0 0 ∷ copy 1 0 0 5 ∷ []; boards = 6 ∷ 6 ∷ []; fails = "no-overlap" ∷ [] }
    ∷ record { sheet = clearing_M; copies = copy 0 0 0 0 ∷ copy 1 0 0 6 ∷ []; boards = 6 ∷ 6 ∷ []; fails = [] }
    ∷ record { sheet = clearing_M; copies = copy 0 0 0 0 ∷ copy 1 0 0 5 ∷ []; boards = 6 ∷ 5 ∷ []; fails = [] }
    -- two boards of kind 0 and one of kind 1; one of kind 0 and two of kind 1
    ∷ record { sheet = by_kind; copies = in_turn; boards = 6 ∷ 6 ∷ 5 ∷ 6 ∷ []; fails = [] }
    ∷ record { sheet = by_kind; copies = in_turn; boards = 6 ∷ 6 ∷ 6 ∷ 5 ∷ []; fails = "no-overlap" ∷ [] }
    ∷ []

assigned_hold : map (λ (a : Assigned). (assignment a.sheet a.copies a.boards).failing) assigned ≡ map (λ (a : Assigned). a.fails) assigned
unfolding assignment clear dur end freed at NoOverlap
assigned_hold = refl

pub assigned_judged : (a : Assigned) → Memᴰ a assigned → Verdict a.fails (Assignment a.sheet a.copies a.boards)
assigned_judged = verdicts (λ a. assignment a.sheet a.copies a.boards) (λ a. a.fails) assigned assigned_hold

-- demand 3 against them: a call on the listing's bytes

listing_read : judge (case_text 0) ≡ judged listing
listing_read = cc sheets_read

listing_plan : plan listing ≡ ours
unfolding stages edges clear dur edge source target wait has_kind smallest_over preferred
    arrival inputs_by start_after start_rule start earliest_end can_run next running_order
    serves has_successor sink_kind serves_all common_kind serving_kind picked copy_rule has_copy
    end freed before unassigned ends_with plan
listing_plan = refl

-- it succeeds where all that is lent is long enough
pub listing_answer : (b : Buffers) → buffers_long_enough b ≡ true → 32796 ≤ length b.output → (plan_call (case_text 0) b).answer ≡ judged (totals listing)
listing_answer b tables long = answer_agrees (case_text 0) b tables long ∙ rw listing_read

module _ (b : Buffers) (tables : buffers_long_enough b ≡ true) (r : Totals) (done : (plan_call (case_text 0) b).answer ≡ judged r) where
  abbrev after : Buffers
  after = (plan_call (case_text 0) b).buffers

  our_copies : take r.copies after.copies ≡ ours
  unfolding totals with_plan
  our_copies =
      let c = call_accepted (case_text 0) b listing tables listing_read in
      let w = written listing b r (rw c at done) in
      ap (λ (o : Planned). take r.copies o.buffers.copies) c ∙ ap (λ (x : Buffers). take r.copies x.copies) w.1
      ∙ ap (λ (x : Totals). take x.copies (over (plan listing) b.copies)) (sym w.0) ∙ rw listing_plan

  pub listing_optimal : Optimal listing after.starts r.finish r.boards ours
  listing_optimal = rw our_copies at ((demand_3 (case_text 0) b).optimal listing r listing_read done)

  abbrev our_start : ℕ → ℕ → ℕ
  our_start i h = get_or after.starts (4 * i + h) 0

  pub no_later_than_single : (our_start 0 0 ≤ 0) × (our_start 1 0 ≤ 1) × (our_start 2 1 ≤ 6)
  no_later_than_single =
      let f = listing_optimal.no_earlier single single_valid in
      (f _ (Memᴰ.head refl), f _ (Memᴰ.tail (Memᴰ.head refl)), f _ (Memᴰ.tail (Memᴰ.tail (Memᴰ.head refl))))

  pub no_later_than_sprawling : (c : Copy) → c ∈ sprawling → our_start c.stage c.kind ≤ c.start
  no_later_than_sprawling = listing_optimal.no_earlier sprawling sprawling_valid

  pub done_at : r.finish ≡ 3
  unfolding dur end
  done_at = sym listing_optimal.ends_at_finish

  pub done_before : (r.finish ≤ 8) × (r.finish ≤ 10000000002)
  unfolding dur end
  done_before = (listing_optimal.no_sooner single single_valid, listing_optimal.no_sooner sprawling sprawling_valid)

  -- kinds 0 and 1, of the first row of `assigned`
  pub no_more_boards : (get_or r.boards 0 0 ≤ 2) × (get_or r.boards 1 0 ≤ 1)
  unfolding boards_of boards_used
  no_more_boards = let f = listing_optimal.fewest (7 ∷ 7 ∷ 900 ∷ 7 ∷ []) (assigned_judged _ (Memᴰ.head refl)) in (f 0, f 1)
