use Rattle.std.proofs.Common.{ℕ, ◌-◌, ◌^◌, sym, ap, ◌∙◌}
use Rattle.dr_quorum.proofs.handing.roster_of.Goals as goal

pub returns : goal.returns
returns c = c.all.ensures.bits ∙ ap (λ (n : ℕ). 2 ^ n - 1) (sym c.requires.lists)
