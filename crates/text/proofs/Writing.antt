-- Text written piece by piece, each after the one before it. Assumes nothing.
use Prim.Native.Nat.{ℕ, ◌+◌, ◌-◌, ◌≤◌, ◌<◌}
use mathlib.Core.Path.{◌≡◌}
use mathlib.Core.List.{List, [], ◌∷◌, ◌++◌, append_assoc, append-nil}
use native.Mathlib.Numerals.{add-one}
use native.Mathlib.Omega.{arith}
use borrow.Rule.Slice.PartMut.{mid_of, put_mid, mid_len}
use lib.ListN.{length, set, drop, length-append, drop_of_length-le}
use lib.Seq.{take_all, take-append_seam, drop-append_seam, drop-cons, drop-drop, set-append_seam}
use Rattle.model.specs.Tables.{over}
use Rattle.text.specs.Writing.{Written}

pub part_length : (at : ℕ) (xs : List ℕ) → length (mid_of at (length xs - at) xs) ≡ length xs - at
part_length at xs = mid_len at (length xs) xs (omega arith)

-- a piece at the front of the part from a text's end on
put_over : (text old piece : List ℕ)
    → put_mid (length text) (length (over text old) - length text) (over text old)
    (over piece (mid_of (length text) (length (over text old) - length text) (over text old)))
    ≡ over (text ++ piece) old
put_over text old piece =
    let rest = drop (length text) old in
    let k = length (over text old) - length text in
    let all : length rest ≤ k = omega (arith, length-append text rest) in
    rw (
      take-append_seam,
      drop-append_seam text rest,
      take_all k rest all,
      drop_of_length-le rest {i = k} all,
      append-nil,
      drop-drop,
      length-append,
      append_assoc,
    )

module _ (text old new : List ℕ) (at : ℕ) (w : Written text old new at) where
  -- what a writer to `&mut out[at..]` left at the front of its part
  pub onward : (piece part : List ℕ) (count : ℕ) → Written piece (mid_of at (length new - at) new) part count
      → Written (text ++ piece) old (put_mid at (length new - at) new part) (at + count)
  onward piece part count p =
      record {
        counted = omega (arith, w.counted, p.counted, length-append text piece);
        bytes = rw (p.bytes, w.counted, w.bytes) (put_over text old piece);
      }

  -- one byte
  pub byte : (b : ℕ) → at < length old → Written (text ++ (b ∷ [])) old (set new at b) (at + 1)
  byte b l =
      let h : length text < length old = omega (arith, w.counted) in
      record {
        counted = omega (arith, w.counted, length-append text (b ∷ []));
        bytes = rw (w.counted, w.bytes, drop-cons old (length text) 0 h, set-append_seam, length-append, add-one, append_assoc);
      }
