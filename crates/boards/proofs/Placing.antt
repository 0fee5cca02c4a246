-- Laws of the loop that gives each copy its board: rows and boards after each copy. Assumes nothing.
use Prim.Native.Nat.{ℕ, suc, ◌+◌, ◌*◌, ◌≤◌, ◌<◌}
use mathlib.Core.Path.{◌≡◌, refl, sym, ap, ◌∙◌}
use mathlib.Core.List.Memᴰ
use mathlib.Core.List.{List, [], ◌∷◌, ◌++◌, map}
use native.Mathlib.Numerals.{add-one}
use native.Mathlib.Omega.{arith}
use borrow.Author.Tests.{ne_eqb}
use Rattle.std.proofs.lemmas.Grind.{same_number_lists, common_steps}
use Rattle.std.specs.Borrow.{Bor}
use lib.ListN.{length, get_or, take, drop, length-append, length-drop, length-map, take-append-drop, get_or-map}
use lib.Seq.{sets, sets-eq, take_at, take-suc, drop-cons, drop-drop, drop-append-add, length-take-le, take_all, ext_get_or}
use Rattle.model.specs.declared.Copy.{Copy}
use Rattle.model.specs.Bounded.{table}
use Rattle.model.specs.Sheet.{Sheet, InRange, stages}
use Rattle.model.specs.Plans.{on_board, ◌∈◌, at}
use Rattle.model.specs.Boards.{free_board, ends_with, assign, plan, board_count}
use Rattle.model.specs.Tables.{over}
use Rattle.model.specs.Held.{rows_of}
use Rattle.model.specs.Calls.{board_counts}
use Rattle.model.proofs.Boards.{Ours, ordered_sound, at_mem}
use Rattle.model.proofs.Fewest.{final_ends, board_below, count_is, plan_length, length_assign}
use Rattle.model.proofs.Limits.{count_le_256}
use Rattle.model.proofs.Held.{rows_length}
use Rattle.model.proofs.Distinct.{length_table}
use Rattle.model.proofs.SheetText.{get_or_table}
use Rattle.boards.specs.Keys.{in_order, key, stage_of, kind_of, start_of}
use Rattle.boards.proofs.CopyKeys.{InKey, key_stage, key_kind, key_start}
use Rattle.boards.specs.Placed.{open_ends, Placed}
use Rattle.boards.proofs.Freed.{freed_le}
use Rattle.boards.specs.Given.{Keyed, CopyGiven, CanPlace}

-- more elements from the front
over_more : (new more old : List ℕ) (i : ℕ) → length new ≡ i → i + length more ≤ length (over new old)
    → sets (over new old) i more ≡ over (new ++ more) old
over_more new more old i n h =
    let rest = drop (length new) old in
    sets-eq more (over new old) i h
    ∙ rw (
      ← n,
      take_at new rest (length new) refl,
      drop-append-add new rest (length more),
      drop-drop (length more) (length new) old,
      length-append new more,
    )

rows_append : (p q : List Copy) → rows_of (p ++ q) ≡ rows_of p ++ rows_of q
rows_append [] q = refl
rows_append (c ∷ p) q = ap (λ (l : List ℕ). c.stage ∷ c.kind ∷ c.board ∷ c.start ∷ l) (rows_append p q)

-- no board is open
abbrev pub none_open : ℕ → List ℕ
none_open k = []

module _ (s : Sheet) where
  -- first fit, some copies first
  assign_append : (ends : ℕ → List ℕ) (p q : List Copy) → assign s ends (p ++ q) ≡ assign s ends p ++ assign s (final_ends s ends p) q
  assign_append ends [] q = refl
  assign_append ends (c ∷ p) q =
      ap (λ (l : List Copy). on_board c (free_board (ends c.kind) c.start) ∷ l) (assign_append (ends_with s ends c) p q)

  final_append : (ends : ℕ → List ℕ) (p q : List Copy) → final_ends s ends (p ++ q) ≡ final_ends s (final_ends s ends p) q
  final_append ends [] q = refl
  final_append ends (c ∷ p) q = final_append (ends_with s ends c) p q

  -- a kind without copies
  final_other : (ends : ℕ → List ℕ) (p : List Copy) (k : ℕ) → ((c : Copy) → c ∈ p → k ≡ c.kind → ⊥) → final_ends s ends p k ≡ ends k
  unfolding ends_with
  final_other ends [] k f = refl
  final_other ends (c ∷ p) k f =
      final_other (ends_with s ends c) p k (λ d m. f d (Memᴰ.tail m)) ∙ rw (ne_eqb k c.kind (f c (Memᴰ.head refl)))

-- the first k of n entries by a rule, and 0 elsewhere
front_table : (n k : ℕ) (f : ℕ → ℕ) (l : List ℕ) → k ≤ n → length l ≡ n → ((j : ℕ) → j < n → get_or l j 0 ≡ f j)
    → ((j : ℕ) → k ≤ j → f j ≡ 0) → l ≡ over (table k f) (table n (λ j. 0))
front_table n k f l h e values zeros =
    let front : length (table k f) ≡ k = length_table k f in
    let whole : length (table {A = ℕ} n (λ j. 0)) ≡ n = length_table {A = ℕ} n (λ j. 0) in
    same_number_lists l (over (table k f) (table n (λ j. 0))) (grind (arith, common_steps))
    (λ j b. grind (arith, common_steps, values j, zeros j, get_or_table {A = ℕ} k f 0 j, get_or_table {A = ℕ} n (λ j. 0) 0 j))

-- how many boards each list has, by references to the lists

abbrev pub nowhere : Bor (List ℕ)
nowhere = record { ref_ptr = (0, 0); now = [] }

pub counts_of : (refs : List (Bor (List ℕ))) (boards : List (List ℕ)) (counts : List ℕ) → map (λ (r : Bor (List ℕ)). r.now) refs ≡ boards
    → length boards ≡ 4 → length counts ≡ 4 → ((k : ℕ) → k < 4 → get_or counts k 0 ≡ length (get_or refs k nowhere).now) → counts ≡ map length boards
counts_of refs boards counts e four n each =
    ext_get_or 0 counts (map length boards) (omega (arith, length-map boards length))
    (λ k h.
    each k (omega arith) ∙ ap length (sym (get_or-map (λ (r : Bor (List ℕ)). r.now) refs k nowhere))
    ∙ rw e (sym (get_or-map length boards k [])))

-- what `at` gives behind the last copy
abbrev no_copy : Copy
no_copy = record { stage = 0; kind = 0; board = 0; start = 0 }

-- while the copies are given boards: c of them have theirs
pub record Placing (s : Sheet) (rows₀ rows : List ℕ) (boards : List (List ℕ)) (c : ℕ) : Type 0 where
  pub upto : c ≤ length (in_order s)
  pub rows_are : rows ≡ over (rows_of (assign s none_open (take c (in_order s)))) rows₀
  pub kinds_4 : length boards ≡ 4
  pub ends_are : (k : ℕ) → k < 4 → open_ends boards k ≡ final_ends s none_open (take c (in_order s)) k

module _ {s : Sheet} {ds gs keys : List ℕ} (g : Keyed s ds gs keys) where
  abbrev r : InRange s
  r = g.acyclic.in_range

  copies_length : length (in_order s) ≡ length (plan s)
  unfolding plan
  copies_length = sym (length_assign s none_open (in_order s))

  copies_le : length (in_order s) ≤ 1024
  copies_le = omega (arith, copies_length, plan_length s r)

  keys_length : length keys ≡ length (in_order s)
  keys_length = ap length g.keys_are ∙ length-map (in_order s) key

  -- the copy that is next
  module _ (c : ℕ) (l : c < length (in_order s)) where
    abbrev d : Copy
    d = at (in_order s) c

    abbrev before : ℕ → List ℕ
    before = final_ends s none_open (take c (in_order s))

    ours : Ours s (stages s) d
    ours = ordered_sound s (stages s) d (at_mem (in_order s) c l)

    next_in : InKey d
    next_in = record { stage_256 = omega (arith, ours.stage_below, r.stages_256); kind_4 = omega (arith, ours.kind_below, r.kinds_4) }

    -- the copies up to the next one, and from it on
    next_take : take (c + 1) (in_order s) ≡ take c (in_order s) ++ (d ∷ [])
    unfolding at
    next_take = rw (add-one c, take-suc (in_order s) c no_copy l)

    next_drop : take c (in_order s) ++ (d ∷ drop (suc c) (in_order s)) ≡ in_order s
    unfolding at
    next_drop = rw (← drop-cons (in_order s) c no_copy l) (take-append-drop c (in_order s))

    next_board : free_board (before d.kind) d.start < 256
    next_board =
        let b = board_below s before (d ∷ drop (suc c) (in_order s)) (on_board d (free_board (before d.kind) d.start)) (Memᴰ.head refl) in
        let e = final_append s none_open (take c (in_order s)) (d ∷ drop (suc c) (in_order s)) in
        omega (arith, rw (← e, next_drop) at b, count_is s r d.kind, count_le_256 s r d.kind)

    next_key : get_or keys c 0 ≡ key d
    unfolding at key
    next_key = rw g.keys_are (get_or-map key (in_order s) c no_copy)

    next_copy : CopyGiven s d ds gs (stage_of (get_or keys c 0)) (kind_of (get_or keys c 0)) (start_of (get_or keys c 0))
    next_copy =
        rw next_key
        (record {
          in_range = r;
          durations_in = g.durations_in;
          clearing_in = g.clearing_in;
          stage_is = key_stage d next_in;
          kind_is = key_kind d next_in;
          start_is = key_start d next_in;
          stage_below = ours.stage_below;
          kind_below = ours.kind_below;
          freed_fits = omega (arith, freed_le g.acyclic ours);
        })

    module _ {rows₀ rows : List ℕ} {boards : List (List ℕ)} (room : 4096 ≤ length rows₀) (p : Placing s rows₀ rows boards c) where
      abbrev assigned : List Copy
      assigned = assign s none_open (take c (in_order s))

      board_is : free_board (open_ends boards d.kind) d.start ≡ free_board (before d.kind) d.start
      board_is = rw (p.ends_are d.kind next_in.kind_4)

      rows_front : length (rows_of assigned) ≡ 4 * c
      rows_front =
          rows_length assigned
          ∙ ap (λ (v : ℕ). 4 * v) (length_assign s none_open (take c (in_order s)) ∙ length-take-le c (in_order s) p.upto)

      next_room : 4 * c + 4 ≤ length rows
      next_room = rw (p.rows_are, length-append, length-drop, rows_front) (omega (arith, copies_le, l))

      -- it can be given a board
      pub can_place : CanPlace s d (get_or keys c 0) (4 * c) ds gs rows boards
      can_place = record { copy = next_copy; rows_room = next_room; board_256 = rw board_is next_board }

      abbrev row : List ℕ
      row = rows_of (on_board d (free_board (open_ends boards d.kind) d.start) ∷ [])

      rows_more : rows_of assigned ++ row ≡ rows_of (assign s none_open (take (c + 1) (in_order s)))
      rows_more =
          rw (
            next_take,
            assign_append s none_open (take c (in_order s)) (d ∷ []),
            rows_append assigned (on_board d (free_board (before d.kind) d.start) ∷ []),
            board_is,
          )

      -- and when it has one, one copy more has its board
      pub placing_more : {rows' : List ℕ} {boards' : List (List ℕ)} → Placed s d (4 * c) rows boards rows' boards' → Placing s rows₀ rows' boards' (c + 1)
      unfolding ends_with
      placing_more t =
          record {
            upto = omega (arith, l);
            rows_are =
                t.rows_are ∙ rw p.rows_are (over_more (rows_of assigned) row rows₀ (4 * c) rows_front (rw p.rows_are at next_room))
                ∙ ap (λ (l : List ℕ). over l rows₀) rows_more;
            kinds_4 = t.kinds_4;
            ends_are = λ j h.
                t.ends_are j h ∙ rw (next_take, final_append s none_open (take c (in_order s)) (d ∷ []), p.ends_are j h);
          }

  -- each turn of the loop over the keys: what it needs and leaves
  module _ (c : ℕ) (more : c < length keys) {rows₀ rows : List ℕ} {boards : List (List ℕ)}
      (room : 4096 ≤ length rows₀) (p : Placing s rows₀ rows boards c) where
    next_below : c < length (in_order s)
    next_below = omega (arith, keys_length, more)

    pub loop_needs : CanPlace s (at (in_order s) c) (get_or keys c 0) (4 * c) ds gs rows boards
    loop_needs = can_place c next_below room p

    pub loop_leaves : {rows' : List ℕ} {boards' : List (List ℕ)}
        → (CanPlace s (at (in_order s) c) (get_or keys c 0) (4 * c) ds gs rows boards → Placed s (at (in_order s) c) (4 * c) rows boards rows' boards')
        → Placing s rows₀ rows' boards' (c + 1)
    loop_leaves place = placing_more c next_below room p (place loop_needs)

  -- all copies have their boards
  module _ {rows₀ rows : List ℕ} {boards : List (List ℕ)} {c : ℕ} (p : Placing s rows₀ rows boards c) (all : length keys ≤ c) where
    all_copies : take c (in_order s) ≡ in_order s
    all_copies = take_all c (in_order s) (omega (arith, keys_length))

    placed_rows : rows ≡ over (rows_of (plan s)) rows₀
    unfolding plan
    placed_rows = rw all_copies at p.rows_are

    counts_at : (j : ℕ) → j < 4 → get_or (map length boards) j 0 ≡ board_count s j
    counts_at j h = get_or-map length boards j [] ∙ ap length (p.ends_are j h) ∙ rw all_copies (sym (count_is s r j))

    none_above : (j : ℕ) → s.kinds ≤ j → board_count s j ≡ 0
    none_above j h =
        count_is s r j
        ∙ ap length (final_other s none_open (in_order s) j (λ d m e. omega (arith, (ordered_sound s (stages s) d m).kind_below)))

    placed_counts : map length boards ≡ board_counts s
    unfolding board_counts
    placed_counts = front_table 4 s.kinds (board_count s) (map length boards) r.kinds_4 (length-map boards length ∙ p.kinds_4) counts_at none_above

    pub loop_done : (length keys ≡ length (plan s)) × (rows ≡ over (rows_of (plan s)) rows₀) × (map length boards ≡ board_counts s)
    loop_done = (keys_length ∙ copies_length, placed_rows, placed_counts)
