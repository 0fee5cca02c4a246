-- The marks while the copies of an edge's second stage are passed. Assumes nothing.
use Rattle.std.proofs.Common.{◌≡◌, ℕ, ◌+◌, Bool, true, false, not, ◌||◌, ◌==◌, refl, sym, ap, ◌∙◌}
use mathlib.Core.Bool.{or-false}
use Rattle.model.specs.Sheet.{Sheet, source, target, preferred}
use Rattle.model.specs.Copies.{serves, serving_kind}
use Rattle.kinds.proofs.Sets.{kinds_same}
use Rattle.copies.specs.Marks.{misses, picks, along, Marked, Passed}
use Rattle.copies.specs.declared.marks.Marks.{Marks}
use Rattle.copies.proofs.Along.{along_none, along_copy, along_other}

pub marked_same : {s : Sheet} {i : ℕ} {missed picked : ℕ → Bool} {marks : Marks} → Marked s i missed picked marks
    → (missed' picked' : ℕ → Bool) → ((h : ℕ) → missed h ≡ missed' h) → ((h : ℕ) → picked h ≡ picked' h) → Marked s i missed' picked' marks
marked_same m missed' picked' e f =
    record { serving = kinds_same m.serving (λ h. not (missed' h)) (λ h. ap not (e h)); picking = λ h l. m.picking h l ∙ f h }

or_or : (a b c : Bool) → ((a || b) || c) ≡ (a || (b || c))
or_or true b c = refl
or_or false b c = refl

module _ (s : Sheet) (has : ℕ → ℕ → Bool) (e : ℕ) (old : Marks) where
  -- the copies on the kinds below k are passed
  abbrev pub PassedTo : ℕ → Marks → Type 0
  PassedTo k marks = Passed s (source s e) (along s has e k (misses s)) (along s has e k (picks s)) old marks

  pub passed_start : PassedTo 0 old
  passed_start missed picked m =
      marked_same m _ _ (λ h. sym (rw (along_none s has e (misses s) h) (or-false (missed h))))
      (λ h. sym (rw (along_none s has e (picks s) h) (or-false (picked h))))

  module _ (k : ℕ) (marks : Marks) (u : PassedTo k marks) where
    -- one more kind has a copy, whose kinds are marked
    pub passed_copy : (new : Marks) → has (target s e) k ≡ true
        → Passed s (source s e) (λ h. not (serves s e h k)) (λ h. h == preferred s (source s e) (λ g. serves s e g k)) marks new → PassedTo (k + 1) new
    unfolding serving_kind
    passed_copy new t v missed picked m =
        marked_same (v _ _ (u missed picked m)) _ _
        (λ h. or_or (missed h) _ _ ∙ ap (λ (x : Bool). missed h || x) (sym (along_copy s has e (misses s) h k t)))
        (λ h. or_or (picked h) _ _ ∙ ap (λ (x : Bool). picked h || x) (sym (along_copy s has e (picks s) h k t)))

    -- or it has none
    pub passed_other : has (target s e) k ≡ false → PassedTo (k + 1) marks
    passed_other f missed picked m =
        marked_same (u missed picked m) _ _
        (λ h. ap (λ (x : Bool). missed h || x) (sym (along_other s has e (misses s) h k f)))
        (λ h. ap (λ (x : Bool). picked h || x) (sym (along_other s has e (picks s) h k f)))
