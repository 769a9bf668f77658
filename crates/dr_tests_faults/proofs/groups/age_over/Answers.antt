use Rattle.std.proofs.Common.{arith, ◌≡◌}
use Rattle.dr_tests_faults.proofs.Two.{two_opened}
use Rattle.dr_tests_faults.proofs.groups.age_over.Goals as goal

pub sim_age-requires-clause-logs : goal.sim_age-requires-clause-logs
sim_age-requires-clause-logs g c = λ κs within.
    let two : c.in_ok-script.script.members ≡ 2 = omega (arith, c.if-script-ne2.false) in
    two_opened c.in_ok-script.script c.first_start-start.result _ _ c.in_ok-log_on.field-0 c.in_ok-log_on-2.field-0
    c.in_ok-script.ensures.ranges two c.first_start-start.ensures.start c.in_ok-log_on.ensures
    c.in_ok-log_on-2.ensures
