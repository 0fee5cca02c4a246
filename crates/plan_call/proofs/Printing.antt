-- The plan is printed, or longer than the output: what is answered and left is the model's. Assumes nothing.
use Prim.Native.Nat.{ℕ, ◌≤◌, ◌<◌}
use mathlib.Core.Path.{◌≡◌, refl, sym}
use mathlib.Core.List.{List, [], ◌∷◌}
use borrow.Author.Tests.{le-leb, lt-leb}
use lib.ListN.{length, get_or}
use Rattle.std.specs.Prelude.{Ok, Err}
use Rattle.std.proofs.lemmas.Slice.Eq.{text_from_reads}
use Rattle.model.specs.declared.Fault.TheVariants as F
use Rattle.model.specs.Sheet.{Sheet}
use Rattle.model.specs.Starts as Starts
use Rattle.model.specs.Boards.{plan}
use Rattle.model.specs.PlanText.{plan_text}
use Rattle.model.specs.Tables.{over}
use Rattle.model.specs.Calls.{board_counts, totals}
use Rattle.model.proofs.Fewest.{plan_length}
use Rattle.plan_text.proofs.Plans.{plan_is, printable}
use Rattle.plan_call.specs.Answers.{PrintSays}

pub print_short : (s : Sheet) (copies : ℕ) (out : List ℕ) → length out < length (plan_text s)
    → PrintSays s copies out out (record { answer = Err F.ShortOutput; count = copies })
print_short s copies out l =
    let f = lt-leb (length (plan_text s)) (length out) l in
    record { count = refl; answer = rw f; output = rw f }

pub print_done : (s : Sheet) (out : List ℕ) (finish copies printed : ℕ) (counts : List ℕ) → length (plan_text s) ≤ length out
    → finish ≡ Starts.finish s → counts ≡ board_counts s → copies ≡ length (plan s) → printed ≡ length (plan_text s)
    → PrintSays s copies out (over (plan_text s) out)
    (record { answer = Ok (record { finish = finish; boards = counts; copies = copies; printed = printed }); count = copies })
unfolding totals
print_done s out finish copies printed counts l f c n p =
    let t = le-leb (length (plan_text s)) (length out) l in
    record { count = refl; answer = rw t (rw (f, c, n, p)); output = rw t }

pub four_counts : (counts : List ℕ) → length counts ≡ 4
    → get_or counts 0 0 ∷ get_or counts 1 0 ∷ get_or counts 2 0 ∷ get_or counts 3 0 ∷ [] ≡ counts
four_counts counts e = sym (text_from_reads counts _ e (refl, (refl, (refl, (refl, tt)))))

-- with the laws of the plan that is printed, and that four counts are a list
pub ruleset printing = (plan_is, printable, plan_length, print_short, print_done, four_counts)
