-- The last of some ages.
use Rattle.std.proofs.Common.{◌≡◌, ℕ, suc, ◌-◌, ◌≤◌, List, [], ◌∷◌, length, ap, sym, ◌∙◌, arith, get_or}
use Rattle.dr_entry.specs.declared.end.AgeEnd.{AgeEnd}
use Rattle.dr_commands.specs.StoreLines.{last_values_text, values_text}

pub last_values : (key : List ℕ) (v : ℕ) (ages : List AgeEnd) (age : AgeEnd) → 1 ≤ length ages
    → age ≡ get_or ages (length ages - 1) age → last_values_text key v ages ≡ values_text key v age.members
last_values key v [] age some is = absurd (omega (arith, some))
last_values key v (a ∷ []) age some is = ap (λ (x : AgeEnd). values_text key v x.members) (sym is)
last_values key v (a ∷ b ∷ ages) age some is =
    let one_less : length (a ∷ b ∷ ages) - 1 ≡ suc (length (b ∷ ages) - 1) = omega arith in
    last_values key v (b ∷ ages) age (omega arith) (is ∙ ap (λ i. get_or (a ∷ b ∷ ages) i age) one_less)
