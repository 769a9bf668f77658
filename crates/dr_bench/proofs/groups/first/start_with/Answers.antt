use Rattle.std.proofs.Common.{◌-◌, refl, sym, subst, arith}
use Rattle.dr_machine.specs.Group.{IsGroup}
use Rattle.dr_restart.specs.{Groups.group_of, declared.start.Start.Start}
use Rattle.dr_bench.proofs.Late.{late_group}
use Rattle.dr_bench.proofs.groups.first.start_with.Goals as goal

pub returns-clause-start : goal.returns-clause-start
returns-clause-start c = rw (c.first_start-start.ensures.start, c.bits.ensures, c.all.ensures.bits) refl

pub returns-clause-group : goal.returns-clause-group
returns-clause-group c = subst (λ (s : Start). IsGroup (group_of c.args.script.now s)) (sym (returns-clause-start c))
    (late_group c.args.script.now (c.args.script.now.members - c.args.late) c.requires.ranges
    c.first_start-start.ensures.group (omega (arith, c.requires.prompt)) (omega arith))
