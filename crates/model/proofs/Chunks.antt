-- The chunks of a table, so many entries each: a chunk by itself, and its entries. Assumes nothing.
use Rattle.std.proofs.Common.{◌≡◌, ℕ, zero, suc, ◌+◌, ◌*◌, ◌<◌, List, [], get_or, take, drop, refl, ◌∙◌, arith}
use Rattle.std.specs.Simd.{first_chunks}
use Rattle.std.proofs.lemmas.List.{get_or-take, get_or-drop, drop-drop}

pub chunk_is : {A : Type 0} (n k : ℕ) (xs : List A) (c : ℕ) → c < k → get_or (first_chunks n k xs) c [] ≡ take n (drop (n * c) xs)
chunk_is n zero xs c l = absurd (omega arith)
chunk_is n (suc k) xs zero l = let e : n * 0 ≡ 0 = omega arith in rw e
chunk_is n (suc k) xs (suc c) l =
    let e : n + n * c ≡ n * suc c = omega arith in
    chunk_is n k (drop n xs) c (omega arith) ∙ rw (drop-drop, e)

pub chunk_entry : (n k : ℕ) (xs : List ℕ) (c j : ℕ) → c < k → j < n → get_or (get_or (first_chunks n k xs) c []) j 0 ≡ get_or xs (n * c + j) 0
chunk_entry n k xs c j l b = rw (chunk_is n k xs c l, get_or-take, get_or-drop)
