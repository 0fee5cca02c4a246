-- Fields and lines, one more at a time. Assumes nothing.
use Prim.Native.Nat.{ℕ, suc, ◌+◌, ◌-◌, ◌≤◌, ◌<◌}
use mathlib.Core.Path.{◌≡◌, sym, ap, ◌∙◌}
use mathlib.Core.List.{List, [], ◌∷◌, ◌++◌, append-nil}
use native.Mathlib.Nat.{not-suc-le-zero}
use native.Mathlib.Numerals.{add-one}
use native.Mathlib.Omega.{arith}
use borrow.Rule.Slice.PartMut.{mid_of}
use lib.ListN.{length, get_or, take, drop, length-append, take-append-drop}
use lib.Seq.{take_all, take-suc}
use Rattle.model.specs.Lines.{decimal, fields, print_line}
use Rattle.model.proofs.Lengths.{fields_append, line_length}
use Rattle.text.specs.LineText.{line_text}

module _ (ns : List ℕ) where
  pub fields_more : (j : ℕ) → j < length ns → fields (take (j + 1) ns) ≡ fields (take j ns) ++ (44 ∷ decimal (get_or ns j 0))
  fields_more j l = rw (add-one, take-suc ns j 0 l, fields_append, append-nil)

  pub fields_more_length : (j : ℕ) → j < length ns → length (fields (take (j + 1) ns)) ≡ length (fields (take j ns)) + suc (length (decimal (get_or ns j 0)))
  fields_more_length j l = ap length (fields_more j l) ∙ length-append (fields (take j ns)) (44 ∷ decimal (get_or ns j 0))

  pub fields_part : (k : ℕ) → length (fields (take k ns)) ≤ length (fields ns)
  fields_part k =
      let whole = sym (fields_append (take k ns) (drop k ns)) ∙ ap fields (take-append-drop k ns) in
      omega (arith, ap length whole, length-append (fields (take k ns)) (fields (drop k ns)))

  -- the next field fits where all do
  pub field_room : (j : ℕ) → j < length ns → length (fields (take j ns)) + suc (length (decimal (get_or ns j 0))) ≤ length (fields ns)
  field_room j l = omega (arith, fields_part (j + 1), fields_more_length j l)

pub text_length : (tag ns : List ℕ) → length (line_text tag ns) ≡ length (fields ns) + 2
unfolding line_text
text_length tag ns = line_length (record { tag = get_or tag 0 0; numbers = ns })

-- a line is its tag and first number, its other fields, and byte 10
pub line_pieces : (tag ns : List ℕ) → tag ≡ get_or tag 0 0 ∷ 44 ∷ [] → 1 ≤ length ns
    → line_text tag ns ≡ ((tag ++ decimal (get_or ns 0 0)) ++ fields (mid_of 1 (length ns - 1) ns)) ++ (10 ∷ [])
unfolding line_text print_line
line_pieces tag [] two l = absurd (not-suc-le-zero l)
line_pieces tag (n ∷ ns) two l = rw (take_all (suc (length ns) - 1) ns (omega arith), two)

pub pieces_length : (tag ns : List ℕ) → 1 ≤ length ns
    → length (line_text tag ns) ≡ 3 + length (decimal (get_or ns 0 0)) + length (fields (mid_of 1 (length ns - 1) ns))
pieces_length tag [] l = absurd (not-suc-le-zero l)
pieces_length tag (n ∷ ns) l =
    rw (take_all (suc (length ns) - 1) ns (omega arith)) (omega (arith, text_length tag (n ∷ ns), length-append (decimal n) (fields ns)))
