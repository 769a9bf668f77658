-- What a word tells goes on to hold where the word grows.
use Rattle.std.proofs.Common.{◌≡◌, ℕ, ◌<◌, ◌≤◌, true, refl, sym, subst, arith}
use Rattle.dr_words.specs.{Columns.recv_column, Form.IsInForm, Grown.HasGrown, Packing.{is_final, accept_promise}}
use Rattle.dr_words.specs.declared.column.TheConstants.{DONE_COLUMN}

-- a final count stays final
pub final_lasts : (members s old new : ℕ) → HasGrown members (recv_column s) old new → s < members
    → is_final old ≡ true → is_final new ≡ true
final_lasts members s old new grown sender final =
    subst (λ (word : ℕ). is_final word ≡ true) (sym (grown.final s sender refl final)) final

-- a promise doesn't fall
pub promise_lasts : (members column promise old new : ℕ) → HasGrown members column old new
    → promise ≤ accept_promise old → promise ≤ accept_promise new
promise_lasts members column promise old new grown promised = omega (arith, grown.number)

-- who is done stays done
pub done_lasts : (members among old new : ℕ) → HasGrown members DONE_COLUMN old new → IsInForm among DONE_COLUMN new
    → old ≡ 1 → new ≡ 1
done_lasts members among old new grown form done = omega (arith, grown.number, form.done refl)
