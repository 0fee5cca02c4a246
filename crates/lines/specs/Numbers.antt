-- Numbers of at most w digits, read from a place of a text on. Assumes nothing.
use Rattle.std.specs.Prelude.{ℕ, ◌-◌, ◌≤◌, ◌≡◌, cond, List, [], ◌∷◌, length, take, drop, eqb, Option, None, Some}
use Rattle.model.specs.Bounded.{elem}
use Rattle.model.specs.Lines.{number, split, all_numbers}
use Rattle.fields.specs.Fields.{field_step}
use Rattle.fields.specs.declared.FieldEnds.{FieldEnds}
use Rattle.lines.specs.declared.numbers.Number.{Number}

-- a number

-- the number that a field holds, with the place after it
abbrev pub number_of : Option ℕ → ℕ → Option Number
number_of None next = None
number_of (Some v) next = Some (record { value = v; next = next })

abbrev pub number_in : ℕ → List ℕ → Option FieldEnds → Option Number
number_in w s None = None
number_in w s (Some f) = number_of (number w (take (f.to - f.from) (drop f.from s))) f.next

-- the number at a place, in a field that the byte `stop` has to end
unfoldable pub number_step : ℕ → List ℕ → ℕ → ℕ → Option Number
number_step w s at stop = number_in w s (field_step s at stop)

-- the numbers of a line

-- bytes without those of the first line and its byte 10
abbrev pub after_line : List ℕ → List ℕ
after_line [] = []
after_line (b ∷ bs) = cond (eqb b 10) bs (after_line bs)

-- the numbers of a line of which the bytes u, from a number's first on, are left; none where one has another form, or no byte 10 ends the line
unfoldable pub left_numbers : ℕ → List ℕ → Option (List ℕ)
left_numbers w u = cond (elem 10 u) (all_numbers w ((split 44 (split 10 u).head).head ∷ (split 44 (split 10 u).head).parts)) None

-- where there are as many of them
abbrev pub of_count : ℕ → Option (List ℕ) → Option (List ℕ)
of_count count None = None
of_count count (Some ns) = cond (eqb (length ns) count) (Some ns) None

-- the numbers from a place up to the line's end, which is before `next`
pub record NumbersTo (w : ℕ) (s : List ℕ) (at count : ℕ) (values : List ℕ) (next : ℕ) : Type 0 where
  pub numbers : left_numbers w (drop at s) ≡ Some (take count values)
  pub after : drop next s ≡ after_line (drop at s)
  pub within : next ≤ length s

abbrev pub numbers_read : ℕ → List ℕ → ℕ → ℕ → List ℕ → Option ℕ → Type 0
numbers_read w s at count values None = of_count count (left_numbers w (drop at s)) ≡ None
numbers_read w s at count values (Some next) = NumbersTo w s at count values next
