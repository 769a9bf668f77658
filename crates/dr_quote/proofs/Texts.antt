-- Whether a text can be shown, and texts behind one another.
use Rattle.std.{specs.Str.{IsUtf8, is_utf8}, proofs.Common.{◌≡◌, refl, ℕ, true, false, inl, inr, List}}
use Rattle.std.proofs.lemmas.{Bool.cases_Bool, Str.{IsUtf8-from_is_utf8, is_utf8-from_IsUtf8}}
use Rattle.dr_quote.specs.Quote.{can_be_shown, is_clear}

-- a text in UTF-8 each of whose characters can be seen can be shown, and no other one
pub shown_clear : (text : List ℕ) → IsUtf8 text → is_clear text ≡ true → can_be_shown text ≡ true
shown_clear text utf8 clear = rw (is_utf8-from_IsUtf8 text utf8, clear) refl

pub hidden_raw : (text : List ℕ) → (IsUtf8 text → ⊥) → can_be_shown text ≡ false
hidden_raw text raw = elim (cases_Bool (is_utf8 text)) [
  | inl utf8 ↦ absurd (raw (IsUtf8-from_is_utf8 text utf8))
  | inr other ↦ rw other refl
]
