-- Laws of first fit on the boards of a kind, and of a copy that gets its board and its row. Assumes nothing.
use Rattle.std.proofs.Common.{◌≡◌, ℕ, zero, suc, ◌+◌, ◌≤◌, ◌<◌, max, cond, List, [], ◌∷◌, length, get_or, take, set, eqb}
use Rattle.std.proofs.Common.{refl, sym, ap, ◌∙◌, arith, ne_eqb, eq-eqb, le-leb, get_or-set_same, get_or-set_other, length-set, length-take-le, add-one}
use native.Mathlib.Decide.{ℕ_discrete}
use Rattle.std.proofs.lemmas.Bool.{lt-leb}
use Rattle.std.proofs.lemmas.List.Edits.{sets}
use Rattle.model.specs.Sheet.{Sheet}
use Rattle.model.specs.declared.Copy.{Copy}
use Rattle.model.specs.Plans.{freed}
use Rattle.model.specs.Boards.{free_board, occupy, ends_with}
use Rattle.model.proofs.Boards.{free_le}
use Rattle.boards.specs.Placed.{open_ends, Placed}
use Rattle.boards.specs.Given.{CopyGiven}

-- the first board that is free, or none is
pub first_is : (ends : List ℕ) (t b : ℕ) → b < length ends → get_or ends b 0 ≤ t → ((j : ℕ) → j < b → t < get_or ends j 0) → b ≡ free_board ends t
first_is [] t b l f g = absurd (omega arith)
first_is (x ∷ ends) t zero l f g = rw (le-leb x t f)
first_is (x ∷ ends) t (suc b) l f g =
    rw (lt-leb x t (g 0 (omega arith))) (ap suc (first_is ends t b (omega arith) f (λ j k. g (suc j) (omega arith))))

pub none_is : (ends : List ℕ) (t n : ℕ) → n ≡ length ends → ((j : ℕ) → j < n → t < get_or ends j 0) → n ≡ free_board ends t
none_is [] t n e g = e
none_is (x ∷ ends) t n e g =
    let below : (j : ℕ) → j < length ends → t < get_or ends j 0 = λ j k. g (suc j) (omega arith) in
    e ∙ rw (lt-leb x t (g 0 (omega arith))) (ap suc (none_is ends t (length ends) refl below))

-- board b of the first n, or the next one
pub occupy_take : (ends : List ℕ) (n b m end : ℕ) → b ≤ n → b < length ends → m ≡ max n (suc b) → take m (set ends b end) ≡ occupy (take n ends) b end
occupy_take [] n b m end h k q = absurd (omega arith)
occupy_take (x ∷ ends) zero zero m end h k q = rw q
occupy_take (x ∷ ends) zero (suc b) m end h k q = absurd (omega arith)
occupy_take (x ∷ ends) (suc n) zero m end h k q = let z : m ≡ suc n = omega arith in rw z
occupy_take (x ∷ ends) (suc n) (suc b) m end h k q =
    let z : m ≡ suc (max n (suc b)) = omega arith in
    rw z (ap (λ (t : List ℕ). x ∷ t) (occupy_take ends n b (max n (suc b)) end (omega arith) (omega arith) refl))

-- of n open boards the first that is free at a start is taken again; where none is free, the next one is opened
module _ (ends : List ℕ) (n start free : ℕ) where
  abbrev b : ℕ
  b = free_board (take n ends) start

  pub taken_open : n ≤ length ends → (b ≡ n → ⊥) → occupy (take n ends) b free ≡ take n (set ends b free)
  taken_open h ne =
      let l : b ≤ n = omega (arith, free_le (take n ends) start, length-take-le n ends h) in
      sym (occupy_take ends n b n free l (omega arith) (omega arith))

  pub taken_next : n < length ends → b ≡ n → occupy (take n ends) b free ≡ take (n + 1) (set ends b free)
  taken_next h e = sym (occupy_take ends n b (n + 1) free (omega arith) (omega arith) (omega arith))

-- boards of which only one kind's are set anew
set_anew : (h k : ℕ) (ends : List ℕ) (boards : List (List ℕ)) → h < length boards → (t free : ℕ)
    → ends ≡ occupy (open_ends boards h) (free_board (open_ends boards h) t) free → Dec (k ≡ h)
    → open_ends (set boards h ends) k ≡ cond (eqb k h) (occupy (open_ends boards k) (free_board (open_ends boards k) t) free) (open_ends boards k)
set_anew h k ends boards below t free o (yes p) = rw (p, eq-eqb h h refl) (get_or-set_same boards h ends [] below ∙ o)
set_anew h k ends boards below t free o (no p) = rw (ne_eqb k h p) (get_or-set_other boards h k ends [] p)

-- what is done to the boards for a copy's numbers is what the model does for the copy
module _ {s : Sheet} {c : Copy} {ds gs : List ℕ} {i h t : ℕ} (g : CopyGiven s c ds gs i h t) where
  -- of any boards where the first that is free is taken, and no other
  pub placed : {at b free : ℕ} {rows₀ rows : List ℕ} {boards₀ boards : List (List ℕ)} → rows ≡ sets rows₀ at (i ∷ h ∷ b ∷ t ∷ [])
      → b ≡ free_board (open_ends boards₀ h) t → free ≡ freed s c → length boards ≡ 4
      → ((k : ℕ) → k < 4
      → open_ends boards k ≡ cond (eqb k h) (occupy (open_ends boards₀ k) (free_board (open_ends boards₀ k) t) free) (open_ends boards₀ k))
      → Placed s c at rows₀ boards₀ rows boards
  unfolding ends_with
  placed e f q four taken =
      record {
        rows_are = e ∙ rw (f, g.stage_is, g.kind_is, g.start_is);
        kinds_4 = four;
        ends_are = λ k l. taken k l ∙ rw (q, g.kind_is, g.start_is);
      }

  -- of boards of which this kind's are set anew
  pub placed_set : {rows₀ rows ends : List ℕ} {boards : List (List ℕ)} (at b free : ℕ) → length boards ≡ 4 → h < 4
      → rows ≡ sets rows₀ at (i ∷ h ∷ b ∷ t ∷ []) → b ≡ free_board (open_ends boards h) t → free ≡ freed s c → ends ≡ occupy (open_ends boards h) b free
      → Placed s c at rows₀ boards rows (set boards h ends)
  placed_set {ends = ends} {boards = boards} at b free four below e f q o =
      placed e f q (length-set boards h ends ∙ four) (λ k l. set_anew h k ends boards (omega arith) t free (rw f at o) (ℕ_discrete k h))

-- four values in a row
pub stored_row : (rows : List ℕ) (i a b c d : ℕ) → set (set (set (set rows i a) (i + 1) b) (i + 2) c) (i + 3) d ≡ sets rows i (a ∷ b ∷ c ∷ d ∷ [])
stored_row rows i a b c d =
    let two : i + 2 ≡ suc (suc i) = omega arith in
    let three : i + 3 ≡ suc (suc (suc i)) = omega arith in
    rw (add-one i, two, three)
