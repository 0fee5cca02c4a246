-- The field at a place of a sheet (SPEC 1.1, 12.2). Assumes nothing.
use Rattle.std.specs.Prelude.{ℕ, suc, ◌+◌, Bool, cond, ◌&&◌, ◌||◌, List, [], ◌∷◌, length, get_or, drop, ltb, eqb, Option, None, Some}
use Rattle.fields.specs.declared.FieldEnds.{FieldEnds}

-- a byte that ends a field: a comma, or byte 10
abbrev pub stops : ℕ → Bool
stops b = eqb b 44 || eqb b 10

-- how many bytes come before the first that ends a field
abbrev pub field_length : List ℕ → ℕ
field_length [] = 0
field_length (b ∷ bs) = cond (stops b) 0 (suc (field_length bs))

-- the field at a place, if the byte `stop` ends it
unfoldable pub field_step : List ℕ → ℕ → ℕ → Option FieldEnds
field_step s at stop =
    let to = at + field_length (drop at s) in
    cond (ltb to (length s) && eqb (get_or s to 0) stop) (Some (record { from = at; to = to; next = to + 1 })) None
