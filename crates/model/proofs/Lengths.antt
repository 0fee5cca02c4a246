-- How long printed lines are, from bounds on their numbers. Assumes nothing.
use Prim.Native.Nat.{ℕ, zero, suc, ◌+◌, ◌*◌, ◌^◌, ◌≤◌, ◌<◌}
use mathlib.Core.Path.{◌≡◌, refl}
use mathlib.Core.List.{List, [], ◌∷◌, ◌++◌, append_assoc}
use native.Mathlib.Omega.{arith}
use lib.ListN.{length, length-append}
use Rattle.model.specs.Bounded.{table}
use Rattle.model.specs.Lines.{Line, decimal, fields, print_line}
use Rattle.model.proofs.Lines.{decimal_length}

-- a number below 10 to the w + 1 has at most w + 1 digits
pub decimal_digits : (w n : ℕ) → n < 10 ^ suc w → length (decimal n) ≤ suc w
unfolding decimal
decimal_digits w n b = decimal_length w (suc n) n (omega arith) b

-- after its comma
pub field_length : (w n : ℕ) (ns : List ℕ) → n < 10 ^ suc w → length (fields (n ∷ ns)) ≤ w + 2 + length (fields ns)
field_length w n ns b = omega (arith, decimal_digits w n b, length-append (decimal n) (fields ns))

pub fields_append : (ns ms : List ℕ) → fields (ns ++ ms) ≡ fields ns ++ fields ms
fields_append [] ms = refl
fields_append (n ∷ ns) ms = rw (fields_append ns ms, append_assoc)

-- the fields of a table
pub fields_table : (w n : ℕ) (f : ℕ → ℕ) → ((i : ℕ) → i < n → f i < 10 ^ suc w) → length (fields (table n f)) ≤ n * (w + 2)
fields_table w zero f b = omega arith
fields_table w (suc n) f b =
    let r = fields_table w n f (λ i l. b i (omega arith)) in
    let q = field_length w (f n) [] (b n (omega arith)) in
    rw fields_append (omega (arith, length-append (fields (table n f)) (fields (f n ∷ []))))

-- a line has a tag and a byte 10 besides
pub line_length : (l : Line) → length (print_line l) ≡ length (fields l.numbers) + 2
unfolding print_line
line_length l = omega (arith, length-append (fields l.numbers) (10 ∷ []))
