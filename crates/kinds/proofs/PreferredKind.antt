-- Laws of the preferred kind of a set: it is the lowest. Assumes nothing.
use Rattle.std.proofs.Common.{◌≡◌, ℕ, ◌-◌, ◌<◌, ◌≤◌, Bool, true, false, not, ◌&&◌, ◌==◌, eqb, ltb, bit_and}
use Rattle.std.proofs.Common.{refl, sym, ap, ap₂, ◌∙◌, arith, ltb-true, lt-ltb, eqb-true, eq-eqb}
use Rattle.std.specs.FinSet as finite
use Rattle.std.specs.Ordering.{nat_cmp}
use Rattle.model.specs.Bounded.{lowest, every, some_below}
use Rattle.model.specs.Sheet.{Sheet, has_kind, preferred}
use Rattle.model.proofs.Bounded.{on, and_left, and_right, and_both, never, every_at, every_all, every_cong, some_at, some_of, some_cong}
use Rattle.model.proofs.Bounded.{lowest_passes, lowest_found, lowest_is}
use Rattle.model.proofs.StageKinds.{preferred_found, preferred_passes}
use Rattle.kinds.specs.Sets.{in_set, kinds_in, KindsOf}
use Rattle.kinds.proofs.Sets.{same_test, in_four}

-- the lowest number that passes

is_lowest : (n : ℕ) (p : ℕ → Bool) (h : ℕ) → h < n → eqb h (lowest n p) ≡ (p h && every h (λ g. not (p g)))
is_lowest n p h l = same_test (eqb h (lowest n p)) (p h && every h (λ g. not (p g))) there back
  where
    not-true : (b : Bool) → not b ≡ true → b ≡ false
    not-true true t = absurd (never t refl)
    not-true false t = refl

    there : eqb h (lowest n p) ≡ true → (p h && every h (λ g. not (p g))) ≡ true
    there t =
        let e = eqb-true h (lowest n p) t in
        and_both (p h) _ (rw e (lowest_passes n p (omega arith)))
        (every_all h (λ g. not (p g)) (λ g b. on (p g) (λ u. absurd (omega (arith, lowest_found n p g (omega arith) u))) (λ u. rw u)))

    back : (p h && every h (λ g. not (p g))) ≡ true → eqb h (lowest n p) ≡ true
    back t =
        let f = every_at h (λ g. not (p g)) (and_right (p h) _ t) in
        eq-eqb h (lowest n p) (sym (lowest_is n p h l (and_left (p h) _ t) (λ g b. not-true (p g) (f g b))))

-- of two tests that agree below n and below m
same_lowest : (n m : ℕ) (p q : ℕ → Bool) (h : ℕ) → h < n → h < m → ((g : ℕ) → g ≤ h → p g ≡ q g) → eqb h (lowest n p) ≡ eqb h (lowest m q)
same_lowest n m p q h l k e =
    is_lowest n p h l ∙ ap₂ ◌&&◌ (e h (omega arith)) (every_cong h (λ g. not (p g)) (λ g. not (q g)) (λ g b. ap not (e g (omega arith))))
    ∙ sym (is_lowest m q h k)

-- sets, by their 16 values

abbrev agree : Bool → Bool → Bool
agree true b = b
agree false b = not b

agree_same : (a b : Bool) → agree a b ≡ true → a ≡ b
agree_same true b t = sym t
agree_same false true t = absurd (never t refl)
agree_same false false t = refl

in_lowest : (m : ℕ) → m < 16 → (h : ℕ) → h < 4 → in_set (bit_and m (16 - m)) h ≡ eqb h (lowest 4 (in_set m))
unfolding in_set
in_lowest m l h b = agree_same _ _ (every_at 4 (tested m) (every_at 16 (λ m. every 4 (tested m)) refl m l) h b)
  where
    tested : ℕ → ℕ → Bool
    tested m h = agree (in_set (bit_and m (16 - m)) h) (eqb h (lowest 4 (in_set m)))

zero_has_none : (m : ℕ) → m < 16 → (m == 0) ≡ not (some_below 4 (in_set m))
unfolding in_set
zero_has_none m l = agree_same _ _ (every_at 16 (λ m. agree (m == 0) (not (some_below 4 (in_set m)))) refl m l)

pub none_in : (m : ℕ) → m < 16 → (m == 0) ≡ not (some_below 4 (finite.contains (kinds_in m)))
none_in m l = zero_has_none m l ∙ ap not (some_cong 4 (in_set m) (finite.contains (kinds_in m)) (λ h b. sym (in_four m h b)))

pub preferred_alone : {s : Sheet} {i : ℕ} {p : ℕ → Bool} (m : ℕ) → m < 16 → KindsOf s i p (kinds_in m)
    → (h : ℕ) → h < s.kinds → finite.contains (kinds_in (bit_and m (16 - m))) h ≡ eqb h (preferred s i p)
unfolding preferred
preferred_alone {s} m l u h b =
    let four = u.four in
    in_four _ h (omega arith) ∙ in_lowest m l h (omega arith)
    ∙ same_lowest 4 s.kinds _ _ h (omega arith) b (λ g c. sym (in_four m g (omega arith)) ∙ u.members g (omega arith))

-- of a set of a stage's kinds there is one unless the set is empty
pub some_preferred : {s : Sheet} {i : ℕ} {p : ℕ → Bool} {kinds : finite.FinSet nat_cmp} → KindsOf s i p kinds
    → {is_empty : Bool} → is_empty ≡ not (some_below 4 (finite.contains kinds)) → ltb (preferred s i p) s.kinds ≡ not is_empty
some_preferred {s} {i} {p} {kinds} u e =
    same_test (ltb (preferred s i p) s.kinds) (some_below 4 (finite.contains kinds)) there back
    ∙ sym (ap not e ∙ not_not (some_below 4 (finite.contains kinds)))
  where
    not_not : (b : Bool) → not (not b) ≡ b
    not_not true = refl
    not_not false = refl

    there : ltb (preferred s i p) s.kinds ≡ true → some_below 4 (finite.contains kinds) ≡ true
    there t =
        let four = u.four in
        let l = ltb-true (preferred s i p) s.kinds t in
        let q = preferred_passes s i p l in
        some_of 4 (finite.contains kinds) (preferred s i p) (omega arith)
        (u.members (preferred s i p) (omega arith) ∙ and_both (has_kind s i (preferred s i p)) (p (preferred s i p)) q.0 q.1)

    back : some_below 4 (finite.contains kinds) ≡ true → ltb (preferred s i p) s.kinds ≡ true
    back t =
        let f = some_at 4 (finite.contains kinds) t in
        let both = sym (u.members f.0 f.1) ∙ f.2 in
        lt-ltb (preferred s i p) s.kinds (preferred_found s i p f.0 (and_left (has_kind s i f.0) _ both) (and_right (has_kind s i f.0) _ both))
