use Rattle.std.proofs.{Common.{refl, subst, sym}, lemmas.Result.IfOk-weaker}
use Rattle.dr_play.specs.Logged.{AreAmple, AreOpened}
use Rattle.dr_restart.specs.Groups.{group_of}
use Rattle.dr_tools.proofs.Calm.{first_age}
use Rattle.dr_tools.proofs.explaining.turns.first_age.Goals as goal

pub returns-clause-first : goal.returns-clause-first
returns-clause-first c =
    let script = c.args.script.now in let first = c.first_start-start.ensures in let made = c.in_ok-logs.ensures in
    let group = group_of script c.first_start-start.result in
    IfOk-weaker c.sim_age.result _ _
    (first_age _ _ (λ disk. refl) script c.first_start-start.result first.start c.requires.group.lists _ _
    (subst (AreOpened group) (sym c.deref_mut.ensures.value) made.opened)
    (subst (AreAmple group) (sym c.deref_mut.ensures.value) made.ample)) c.sim_age.ensures.age
