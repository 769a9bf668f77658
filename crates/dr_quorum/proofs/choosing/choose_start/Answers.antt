use Rattle.dr_restart.{specs.Groups.first_group_of, proofs.Refusals.passed}
use Rattle.dr_quorum.{specs.Handing.handed_by, proofs.Choices.told_memory}
use Rattle.dr_quorum.proofs.choosing.choose_start.Goals as goal

pub returns-in-Some-clause-refused : goal.returns-in-Some-clause-refused
returns-in-Some-clause-refused c = told_memory (first_group_of c.args.script.now).opening
    (handed_by c.args.lists.now) c.start_with.result c.start_with.ensures.memory

pub returns-in-None-clause-refused : goal.returns-in-None-clause-refused
returns-in-None-clause-refused c =
    let t = c.in-None.ensures.none in (
      c.in_ok-check_logs.ensures.enough,
      passed (first_group_of c.args.script.now).opening (handed_by c.args.lists.now) c.in_ok-entries.entries.now
          c.in_ok-entries.ensures.chosen,
      t.0,
      t.1,
      t.2,
      t.3,
    )
