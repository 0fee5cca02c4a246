-- Marks of edges: equal exactly where the edges are, and in the set of those seen for the edges that were passed. Assumes nothing.
use Prim.Native.Nat.{ℕ, ◌+◌, ◌<◌}
use mathlib.Core.Path.{◌≡◌, sym, ◌∙◌}
use mathlib.Core.Bool.{true, false, or_comm}
use mathlib.Core.List.{List}
use native.Mathlib.Omega.{arith}
use borrow.Author.Count.{below_more}
use borrow.Author.Tests.{lt-ltb, le-ltb}
use Rattle.std.specs.Prelude.{None, Some}
use Rattle.std.proofs.lemmas.Bool.Decides.{nat_tests}
use Rattle.std.specs.FinSet as finite
use Rattle.std.specs.FinSet.{contains-empty}
use Rattle.std.specs.Ordering.{nat_cmp}
use lib.Dec.{eqb}
use Rattle.model.specs.Bounded.{below, some_below}
use Rattle.model.specs.Sheet.{Sheet, InRange, edges, source, target, same_edge}
use Rattle.model.specs.Judge.{repeats, first_repeat}
use Rattle.model.proofs.Bounded.{some_cong, some_more, lowest_none, lowest_is}
use Rattle.tables.proofs.Tests.{Says, same, says_eq}
use Rattle.bitset.proofs.Numbers.{contains_inserted}
use Rattle.sheet.specs.Repeats.{EdgeGiven, EdgesGiven, mark}

pub edge_given : {s : Sheet} {m : ℕ} {ends : List ℕ} → EdgesGiven s m ends → (e : ℕ) → e < m → EdgeGiven s e ends
edge_given g e l = let all = g.edges_are in record { in_range = g.in_range; below = omega arith; ends_in = g.ends_in }

module _ (s : Sheet) (r : InRange s) where
  pub stages_small : (e : ℕ) → e < edges s → (source s e < 256) × (target s e < 256)
  stages_small e l = (omega (arith, r.source_below e l, r.stages_256), omega (arith, r.target_below e l, r.stages_256))

  pub same_mark : (d e : ℕ) → d < edges s → e < edges s → Says (same_edge s d e) (mark s d ≡ mark s e)
  unfolding mark same_edge
  same_mark d e ld le =
      let a = stages_small d ld in
      let b = stages_small e le in
      record { holds = λ t. grind (arith, nat_tests); passes = λ q. grind (arith, nat_tests) }

  repeats_is : (e : ℕ) → e < edges s → repeats s e ≡ some_below e (λ d. eqb (mark s d) (mark s e))
  unfolding repeats
  repeats_is e l = some_cong e _ _ (λ d b. same (same_mark d e (omega arith) l) (says_eq (mark s d) (mark s e)) (λ p. p) (λ p. p))

-- no edge before e repeats one, and the set has their marks
pub record Passed (s : Sheet) (e : ℕ) (seen : finite.FinSet nat_cmp) : Type 0 where
  pub none : (d : ℕ) → d < e → repeats s d ≡ false
  pub marked : (x : ℕ) → finite.contains seen x ≡ some_below e (λ d. eqb (mark s d) x)

pub none_passed : (s : Sheet) → Passed s 0 finite.empty
none_passed s = record { none = λ d l. absurd (omega arith); marked = contains-empty nat_cmp }

module _ {s : Sheet} {m : ℕ} {ends : List ℕ} (g : EdgesGiven s m ends) {e : ℕ} {seen : finite.FinSet nat_cmp} (p : Passed s e seen) where
  seen_repeats : e < m → finite.contains seen (mark s e) ≡ repeats s e
  seen_repeats l = p.marked (mark s e) ∙ sym (repeats_is s g.in_range e (omega (arith, g.edges_are)))

  pub found : e < m → finite.contains seen (mark s e) ≡ true → Some e ≡ below m (first_repeat s)
  unfolding first_repeat
  found l q =
      let first : first_repeat s ≡ e = lowest_is (edges s) (repeats s) e (omega (arith, g.edges_are)) (sym (seen_repeats l) ∙ q) p.none in
      rw (first, lt-ltb e m l)

  pub passed_more : e < m → finite.contains seen (mark s e) ≡ false → Passed s (e + 1) (finite.insert seen (mark s e))
  passed_more l n =
      record {
        none = below_more _ _ p.none (sym (seen_repeats l) ∙ n);
        marked = λ x.
            contains_inserted seen (mark s e) x
            ∙ rw (some_more, p.marked x, same (says_eq x (mark s e)) (says_eq (mark s e) x) sym sym, or_comm (eqb (mark s e) x));
      }

pub passed_all : {s : Sheet} {m : ℕ} {ends : List ℕ} {seen : finite.FinSet nat_cmp} → EdgesGiven s m ends → Passed s m seen
    → None ≡ below m (first_repeat s)
unfolding first_repeat
passed_all {s} {m} g p =
    let all : first_repeat s ≡ m = rw g.edges_are (lowest_none (edges s) (repeats s) (rw g.edges_are at p.none)) in
    rw (all, le-ltb m m (omega arith))
