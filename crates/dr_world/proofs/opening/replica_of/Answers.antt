use Rattle.std.proofs.Common.{sym, ap, ◌∙◌}
use Rattle.dr_history.specs.Members.{has}
use Rattle.dr_program.proofs.OpeningForm.{can_begin}
use Rattle.dr_restart.specs.Groups.{group_of}
use Rattle.dr_world.proofs.opening.replica_of.Goals as goal

pub setup_of-requires-clause-present : goal.setup_of-requires-clause-present
setup_of-requires-clause-present c =
    sym (c.has.ensures ∙ ap (λ mask. has mask c.args.me) c.of.ensures) ∙ c.if-not-has.false

pub begin-requires : goal.begin-requires
begin-requires c = can_begin (group_of c.args.script.now c.args.start.now) c.args.script.now.turns c.args.me
    c.in_ok-setup.setup c.requires.group c.in_ok-setup.ensures.setup
