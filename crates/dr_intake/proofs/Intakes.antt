-- What was read of a source, and the statuses of what is refused.
use Rattle.std.proofs.Common.{◌≡◌, sym, ap, ◌∙◌, arith, Option, Some, ℕ, true≢false, IsTrue, List, None, is_some, Contains, IfSome}
use Rattle.std.proofs.lemmas.{List.append_cancel_right, Option.same_Some}
use Rattle.dr_text.specs.declared.last.Last.{Last}
use Rattle.dr_intake.specs.{Reading.WasRead, Status.status_of}

-- what is refused as no script has another status
pub other_line : (known line : Last) (last : Option Last) → status_of known ≡ 3 → last ≡ Some known → last ≡ Some line
    → status_of line ≡ 2 → ⊥
other_line known line last three was is two =
    omega (arith, three, two, ap status_of (same_Some known line (sym was ∙ is)))

-- of a source that tells what it has left the same bytes were read
pub same_read : (old new : Option (List ℕ)) (one other : List ℕ) → IsTrue (is_some old) → WasRead old new one
    → WasRead old new other → one ≡ other
same_read None new one other tells was is = absurd (true≢false (sym tells))
same_read (Some left) None one other tells was is = absurd was.lost
same_read (Some left) (Some rest) one other tells was is = append_cancel_right one other rest (sym was.lost ∙ is.lost)

-- so it is among these statuses
pub among : (ends : List ℕ) (last : Option Last) → ((status : ℕ) → status ≡ 12 → Contains ends status)
    → IfSome last (λ line. status_of line ≡ 12) → IfSome last (λ line. Contains ends (status_of line))
among ends None each is = tt
among ends (Some line) each is = each (status_of line) is
