-- Laws of the search: which stage is next, and what a stage that is done and an edge that is released change in the set of those behind it.
-- Assumes nothing.
use Rattle.std.proofs.Common.{◌≡◌, ◌≢◌, ℕ, ◌+◌, ◌≤◌, ◌<◌, Bool, true, false, ◌&&◌, ◌||◌, cond, if◌then◌else◌, eqb}
use Rattle.std.proofs.Common.{List, length, get_or, set, take, Option, None, Some, MatchOption}
use Rattle.std.proofs.Common.{refl, ◌∙◌, inl, inr, arith, get_or-set_same, get_or-set_other, eq-eqb, ne_eqb, length-set, length-take, get_or-take}
use Rattle.std.specs.FinSet as finite
use Rattle.std.specs.FinSet.{contains-empty}
use Rattle.std.specs.Ordering.{nat_cmp}
use Rattle.std.proofs.Math.Seq.{take-set-lt}
use Rattle.std.proofs.lemmas.Bool.{cases_eq}
use Rattle.std.proofs.lemmas.Bool.Decides.{nat_tests}
use Rattle.bitset.proofs.Numbers.{contains_inserted, contains_removed}
use Rattle.order.specs.Ready.{ready, NoneReady, IsNext, ready_behind, search_start, Searching}

-- a new entry of the table
ready_set : (pending : List ℕ) (i v : ℕ) → i < length pending → (j : ℕ) → ready (set pending i v) j ≡ cond (eqb j i) (eqb v 0) (ready pending j)
ready_set pending i v within j =
    elim (cases_eq j i) [
      | inl e ↦ rw (e, get_or-set_same pending i v 0 within, eq-eqb i i refl)
      | inr d ↦ rw (get_or-set_other pending i j v 0 d, ne_eqb j i d)
    ]

pub searching_start : (n : ℕ) (pending : List ℕ) → n ≤ 256 → length pending ≡ 256 → Searching n pending finite.empty 0 0
searching_start n pending few full =
    record {
      few = few;
      room = omega arith;
      within = omega arith;
      upto = omega arith;
      none_below = λ j l. absurd (omega arith);
      kept = record { stages = λ j. contains-empty nat_cmp j ∙ grind (arith, nat_tests) };
    }

module _ {n : ℕ} {pending : List ℕ} {members : finite.FinSet nat_cmp} {from reached : ℕ} (s : Searching n pending members from reached) where
  -- which stage is next
  module _ {value : List ℕ} (view : take n pending ≡ value) where
    is_next : (i : ℕ) → i < n → get_or pending i 0 ≡ 0 → NoneReady i (take n pending) → IsNext value i
    is_next i l z none =
        rw (← view) (record { in_bounds = omega (arith, length-take n pending, s.room); none_pending = get_or-take n pending i 0 l ∙ z; none_lower = none })

    -- the set is empty: the lowest one from `reached` on, if there is one
    module _ (e : members ≡ finite.empty) where
      none_until : (i : ℕ) → i ≤ n → ((k : ℕ) → reached ≤ k → k < i → get_or pending k 0 ≢ 0) → NoneReady i (take n pending)
      none_until i m ahead j l =
          let none : finite.contains members j ≡ false = rw e (contains-empty nat_cmp j) in
          grind (arith, nat_tests, s.kept.stages j, get_or-take n pending j 0 (omega arith), ahead j)

      pub next_ahead : (r : Option ℕ)
          → MatchOption r ((k : ℕ) → reached ≤ k → k < n → get_or pending k 0 ≢ 0)
          (λ i. (reached ≤ i) × (i < n) × (get_or pending i 0 ≡ 0) × ((k : ℕ) → reached ≤ k → k < i → get_or pending k 0 ≢ 0))
          → MatchOption r (NoneReady (length value) value) (IsNext value)
      next_ahead None h = rw (← view) (λ j l. none_until n (omega arith) h j (omega (arith, length-take n pending)))
      next_ahead (Some i) h = is_next i h.1 h.2 (none_until i (omega arith) h.3)

  -- a new entry i of the table
  module _ (i v : ℕ) (within : i < n) where
    room_kept : n ≤ length (set pending i v)
    room_kept = omega (arith, s.room, length-set pending i v)

    stored : (j : ℕ) → ready (take n (set pending i v)) j ≡ cond (eqb j i) (eqb v 0) (ready (take n pending) j)
    stored j = rw (take-set-lt n pending i v within) (ready_set (take n pending) i v (omega (arith, length-take n pending, s.room)) j)

  -- stage i, the lowest ready one, is done
  module _ {value : List ℕ} (view : take n pending ≡ value) (i : ℕ) (next : IsNext value i) where
    in_table : i < n
    in_table = omega (arith, rw (← view) at next.in_bounds, length-take n pending)

    none : NoneReady i (take n pending)
    none = rw view next.none_lower

    none_through : NoneReady (i + 1) (take n (set pending i 2048))
    none_through j l = grind (arith, nat_tests, stored i 2048 in_table j, none j)

    pub done_behind : i < reached → Searching n (set pending i 2048) (finite.remove members i) (i + 1) reached
    done_behind l =
        record {
          few = s.few;
          room = room_kept i 2048 in_table;
          within = s.within;
          upto = omega arith;
          none_below = none_through;
          kept = record { stages = λ j. grind (arith, nat_tests, stored i 2048 in_table j, contains_removed members i j, s.kept.stages j) };
        }

    pub done_ahead : reached ≤ i → Searching n (set pending i 2048) members (i + 1) (i + 1)
    done_ahead l =
        record {
          few = s.few;
          room = room_kept i 2048 in_table;
          within = let b = in_table in omega arith;
          upto = omega arith;
          none_below = none_through;
          kept = record { stages = λ j. grind (arith, nat_tests, stored i 2048 in_table j, s.kept.stages j, none j) };
        }

  -- an edge to stage t is released, of which there was one
  pub released : (t left : ℕ) → t < n → 1 ≤ get_or pending t 0
      → Searching n (set pending t left) (if ready_behind t left reached then finite.insert members t else members) (search_start t left from) reached
  released t left within some =
      record {
        few = s.few;
        room = room_kept t left within;
        within = s.within;
        upto = let l = s.upto in grind (arith, nat_tests);
        none_below = λ j l. grind (arith, nat_tests, stored t left within j, s.none_below j);
        kept = record {
          stages = λ j.
              joined (ready_behind t left reached) j
              ∙ grind (arith, nat_tests, stored t left within j, s.kept.stages j, get_or-take n pending t 0 within);
        };
      }
    where
      joined : (b : Bool) (j : ℕ) → finite.contains (if b then finite.insert members t else members) j ≡ ((b && eqb j t) || finite.contains members j)
      joined true j = contains_inserted members t j
      joined false j = refl
