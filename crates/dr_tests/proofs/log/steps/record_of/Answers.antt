use Rattle.dr_tests.proofs.log.steps.record_of.Goals as goal

pub returns-in-Ok : goal.returns-in-Ok
returns-in-Ok c = ((c.decode-2.ensures.accepted c.in-Ok.record c.in-Ok.len).0 c.in-Ok.is).valid
