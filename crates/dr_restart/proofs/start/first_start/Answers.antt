use Rattle.std.proofs.Common.{ℕ, ◌-◌, ◌^◌, ap, refl, sym}
use Rattle.dr_restart.proofs.Groups.{first_group}
use Rattle.dr_restart.proofs.start.first_start.Goals as goal

pub returns-clause-start : goal.returns-clause-start
returns-clause-start c = rw (c.of.ensures, c.new.ensures.items, c.bits-roster.ensures, c.all.ensures.bits) refl

pub returns-clause-group : goal.returns-clause-group
returns-clause-group c = first_group c.args.script.now c.requires

pub returns-clause-present : goal.returns-clause-present
returns-clause-present c = ap (λ (n : ℕ). 2 ^ n - 1) (sym c.requires.lists)
