-- The last of some ages, and the last line behind the ages of a live group.
use Rattle.std.proofs.Common.{◌≡◌, sym, ap, ◌∙◌, suc, ◌-◌, ◌≤◌, arith, List, [], ◌∷◌, length, get_or}
use Rattle.dr_entry.specs.declared.end.AgeEnd.{AgeEnd}
use Rattle.dr_summary.specs.Histories.{longest}
use Rattle.dr_commands.specs.LiveLines.{last_history}

pub last_longest : (ages : List AgeEnd) (age : AgeEnd) → 1 ≤ length ages
    → age ≡ get_or ages (length ages - 1) age → last_history ages ≡ longest age.members
last_longest [] age some is = absurd (omega (arith, some))
last_longest (a ∷ []) age some is = ap (λ (x : AgeEnd). longest x.members) (sym is)
last_longest (a ∷ b ∷ ages) age some is =
    let one_less : length (a ∷ b ∷ ages) - 1 ≡ suc (length (b ∷ ages) - 1) = omega arith in
    last_longest (b ∷ ages) age (omega arith) (is ∙ ap (λ i. get_or (a ∷ b ∷ ages) i age) one_less)
